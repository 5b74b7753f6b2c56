-- Rows stay rows: what tests put and what arguments fill in fits 32 bits.
use Rattle.std.specs.Prelude.{◌≡◌, ℕ, ◌<◌, Bool, true, false, cond, List, [], ◌∷◌, ℤ, Some, None, Option, slice_set, refl}
use Rattle.std.specs.List.{AllByRecursion}
use Rattle.std.proofs.Common.{subst, arith, length-set, of_z}
use Rattle.std.specs.Int.{w32}
use Rattle.std.proofs.lemmas.Grind.{common_steps}
use Rattle.std.proofs.lemmas.Bool.Decides.{nat_tests}
use Rattle.kinds.specs.declared.fields.Test.{Test}
use Rattle.kinds.specs.declared.fields.Field.{Field}
use Rattle.kinds.specs.declared.rows.Filling.{Filling}
use Rattle.kinds.specs.declared.rows.Value.{Value}
use Rattle.kinds.specs.Rows.{word, signed_word, Row, Fits, zeros, value_of, fill_on, fill, listed_value, ListedArguments}
use Rattle.kinds.specs.Fields.{filled_if, all_pass, all_filled, held}

-- 32 bits as a test and as a bound
pub word_lt : (n : ℕ) → word n ≡ true → n < 4294967296
word_lt n e = grind (arith, nat_tests)

pub lt_word : (n : ℕ) → n < 4294967296 → word n ≡ true
lt_word n h = grind (arith, nat_tests)

-- the two's complement of a signed number of 32 bits
pub signed_lt : (z : ℤ) → signed_word z ≡ true → of_z w32 z < 4294967296
signed_lt z e = grind (arith, nat_tests)

-- a number put into a row
pub put_fits : (row : Row) (b n : ℕ) → Fits row → n < 4294967296 → Fits (slice_set row b n)
put_fits row b n f h = record { eight = simp length-set f.eight; words = λ k. grind (arith, common_steps, f.words k) }

-- a field put by its test, if it has one
pub filled_fits : (o : Option Test) (f : Field) (row : Row) → f.bits < 4294967296 → Fits row → Fits (filled_if o f row)
filled_fits o f row h k = record { eight = grind (arith, common_steps, k.eight); words = λ b. grind (arith, common_steps, k.words b) }

-- fields whose bits fit 32 bits
abbrev pub BitsFit : List Field → Type 0
BitsFit = AllByRecursion (λ f. f.bits < 4294967296)

-- fields put by their tests
all_filled_fits : (tests : List (Option Test)) (fields : List Field) (row : Row) → BitsFit fields → Fits row → Fits (all_filled tests fields row)
all_filled_fits [] fields row b f = f
all_filled_fits (t ∷ tests) [] row b f = f
all_filled_fits (t ∷ tests) (a ∷ fields) row b f = all_filled_fits tests fields _ b.1 (filled_fits t a row b.0 f)

-- the row that results
pub held_fits : (tests : List (Option Test)) (row : Row) (fields : List Field) (row' : Row) → BitsFit fields → Fits row → held tests row fields ≡ Some row' → Fits row'
held_fits tests row fields row' b f e = by (all_pass tests row fields) e
  where
    by : (x : Bool) → cond x (Some (all_filled tests fields row)) None ≡ Some row' → Fits row'
    by true e = let is : all_filled tests fields row ≡ row' = cc in subst Fits is (all_filled_fits tests fields row b f)
    by false e = cc

-- the row of zeros
pub zeros_fit : Fits zeros
zeros_fit = record { eight = refl; words = λ b. grind (arith, common_steps) }

-- what an argument fills in
value_fits : (v : Value) (caller : Row) → Fits caller → listed_value v ≡ true → value_of v caller < 4294967296
value_fits v caller f e = grind (arith, nat_tests, f.words)

-- arguments filled into a row
fill_on_fits : (list : List Filling) (caller row : Row) → ListedArguments list → Fits caller → Fits row → Fits (fill_on list caller row)
fill_on_fits [] caller row h f g = g
fill_on_fits (a ∷ rest) caller row h f g = fill_on_fits rest caller _ h.1 f (put_fits row a.slot _ g (value_fits a.value caller f h.0))

-- the row that a call starts from
pub fill_fits : (list : List Filling) (caller : Row) → ListedArguments list → Fits caller → Fits (fill list caller)
fill_fits list caller h f = fill_on_fits list caller zeros h f zeros_fit
