-- What a test asks of one field, what it puts into the row and which value a specimen has there; then the same of a field that may
-- have no test, and of the four fields of a record. Assumes nothing.
use Rattle.std.specs.Prelude.{ℕ, ◌+◌, min, Bool, true, cond, ◌&&◌, List, ℤ, pos, ◌-ℤ◌, Some, None, Option, ◌==◌, nat_le, slice_index, slice_index_or, slice_set, unsigned_abs, fold}
use Rattle.std.specs.List.{list_all, zip}
use Rattle.std.proofs.Common.{to_z, of_z}
use Rattle.std.specs.Int.{w32}
use Rattle.kinds.specs.declared.fields.Test.{Test}
use Rattle.kinds.specs.declared.fields.Test.TheVariants.{Equals, Between, EqualsSlot, Put, AtLeastSlotPlus, Near}
use Rattle.kinds.specs.declared.fields.Field.{Field}
use Rattle.kinds.specs.Rows.{Row}

-- a field without sign: its bits are the number itself
abbrev pub unsigned : ℕ → Field
unsigned n = record { bits = n; value = pos n }

-- a signed field: its bits are its two's complement
abbrev pub signed : ℤ → Field
signed z = record { bits = of_z w32 z; value = z }

-- what a slot holds plus a number, the sum held at the greatest number of 32 bits
abbrev pub sum_held : Row → ℕ → ℕ → ℕ
sum_held row b u = min (slice_index row b + u) 4294967295

-- whether a field passes a test, under the row from before the record: by its bits, and for a distance by the number they stand for
abbrev pub passes : Test → Row → Field → Bool
passes (Equals u) row f = f.bits == u
passes (Between u v) row f = nat_le u f.bits && nat_le f.bits v
passes (EqualsSlot b) row f = f.bits == slice_index row b
passes (Put b) row f = true
passes (AtLeastSlotPlus b u) row f = nat_le (sum_held row b u) f.bits
passes (Near u v) row f = nat_le (unsigned_abs (f.value -ℤ u)) v

-- the row once a test has put its field
abbrev pub filled : Test → Field → Row → Row
filled (Equals u) f row = row
filled (Between u v) f row = row
filled (EqualsSlot b) f row = row
filled (Put b) f row = slice_set row b f.bits
filled (AtLeastSlotPlus b u) f row = row
filled (Near u v) f row = row

-- the value of a specimen's field without sign
abbrev pub chosen : Test → Row → ℕ
chosen (Equals u) row = u
chosen (Between u v) row = u
chosen (EqualsSlot b) row = slice_index row b
chosen (Put b) row = 0
chosen (AtLeastSlotPlus b u) row = sum_held row b u
chosen (Near u v) row = of_z w32 u

-- the value of a specimen's signed field: the same 32 bits, taken as signed
abbrev pub chosen_signed : Test → Row → ℤ
chosen_signed (Equals u) row = to_z w32 u
chosen_signed (Between u v) row = to_z w32 u
chosen_signed (EqualsSlot b) row = to_z w32 (slice_index row b)
chosen_signed (Put b) row = pos 0
chosen_signed (AtLeastSlotPlus b u) row = to_z w32 (sum_held row b u)
chosen_signed (Near u v) row = u

-- a field without a test takes any value ..
abbrev pub passes_if : Option Test → Row → Field → Bool
passes_if None row f = true
passes_if (Some t) row f = passes t row f

-- .. puts nothing ..
abbrev pub filled_if : Option Test → Field → Row → Row
filled_if None f row = row
filled_if (Some t) f row = filled t f row

-- .. and is 0 in a specimen, without sign ..
abbrev pub chosen_if : Option Test → Row → ℕ
chosen_if None row = 0
chosen_if (Some t) row = chosen t row

-- .. and signed
abbrev pub chosen_signed_if : Option Test → Row → ℤ
chosen_signed_if None row = pos 0
chosen_signed_if (Some t) row = chosen_signed t row

-- the test of a field, counted from 0, if it has one
abbrev pub at : List (Option Test) → ℕ → Option Test
at tests i = slice_index_or tests i None

-- whether fields all pass their tests, each under the row from before
abbrev pub all_pass : List (Option Test) → Row → List Field → Bool
all_pass tests row fields = list_all (λ p. passes_if p.0 row p.1) (zip tests fields)

-- the row once the tests have put their fields, in field order
abbrev pub all_filled : List (Option Test) → List Field → Row → Row
all_filled tests fields row = fold (λ row p. filled_if p.0 p.1 row) row (zip tests fields)

-- The row that results where fields all pass their tests; None where one does not. Puts follow once all agree.
abbrev pub held : List (Option Test) → Row → List Field → Option Row
held tests row fields = cond (all_pass tests row fields) (Some (all_filled tests fields row)) None
