-- Which numbers, tests, rows and arguments of calls there can be, and the row that a call starts from.
-- Numbers here have no bounds of their own, so what fits 32 bits or eight slots is said. Assumes nothing: a slot that a row does not
-- have is read as 0 and takes nothing.
use Rattle.std.specs.Prelude.{◌≡◌, ℕ, ◌<◌, Bool, true, ◌&&◌, List, [], ◌∷◌, length, replicate, ℤ, pos, negsuc, nat_lt, slice_index, slice_set}
use Rattle.kinds.specs.declared.fields.Test.{Test}
use Rattle.kinds.specs.declared.fields.Test.TheVariants.{Equals, Between, EqualsSlot, Put, AtLeastSlotPlus, Near}
use Rattle.kinds.specs.declared.rows.Value.{Value}
use Rattle.kinds.specs.declared.rows.Value.TheVariants.{Constant, Slot}
use Rattle.kinds.specs.declared.rows.Filling.{Filling}

-- a number of 32 bits without sign
abbrev pub word : ℕ → Bool
word n = nat_lt n 4294967296

-- a number of 32 bits with a sign, from -2147483648 (negsuc 2147483647) to 2147483647
abbrev pub signed_word : ℤ → Bool
signed_word (pos n) = nat_lt n 2147483648
signed_word (negsuc n) = nat_lt n 2147483648

-- a slot that a row has, 0 to 7
abbrev pub slot : ℕ → Bool
slot b = nat_lt b 8

-- a test of listed values: its numbers fit 32 bits, and a row has its slot
abbrev pub listed : Test → Bool
listed (Equals u) = word u
listed (Between u v) = word u && word v
listed (EqualsSlot b) = slot b
listed (Put b) = slot b
listed (AtLeastSlotPlus b u) = slot b && word u
listed (Near u v) = signed_word u && word v

-- a row: what its slots hold, from slot 0 on
abbrev pub Row : Type 0
Row = List ℕ

-- a row that there can be: eight slots of 32 bits
pub record Fits (row : Row) : Type 0 where
  pub eight : length row ≡ 8
  pub words : (b : ℕ) → slice_index row b < 4294967296

-- the row of eight zeros
abbrev pub zeros : Row
zeros = replicate 8 0

-- the arguments of a call, in their order
abbrev pub Arguments : Type 0
Arguments = List Filling

-- what an argument fills in: a constant, or what a slot of the caller's row holds
abbrev pub value_of : Value → Row → ℕ
value_of (Constant u) caller = u
value_of (Slot b) caller = slice_index caller b

-- a row with the arguments filled in from the caller's row, one after the other
abbrev pub fill_on : Arguments → Row → Row → Row
fill_on [] caller row = row
fill_on (a ∷ rest) caller row = fill_on rest caller (slice_set row a.slot (value_of a.value caller))

-- the row that a call starts from: zeros, with the arguments filled in
abbrev pub fill : Arguments → Row → Row
fill arguments caller = fill_on arguments caller zeros

-- a listed value of an argument: a number of 32 bits, or a slot that a row has
abbrev pub listed_value : Value → Bool
listed_value (Constant u) = word u
listed_value (Slot b) = slot b

-- arguments of listed values
abbrev pub ListedArguments : Arguments → Type 0
ListedArguments [] = Unit {0}
ListedArguments (a ∷ rest) = (listed_value a.value ≡ true) × ListedArguments rest
