-- What a kind means, over its sort of record, and the condition that every kind meets. Assumes nothing, and nothing of it depends on a
-- value of the kind: the same conditions, row, day and record always give the same answer.
use Rattle.std.specs.Prelude.{◌≡◌, ℕ, ◌≤◌, Bool, true, Some, None, Option}
use Rattle.kinds.specs.declared.fields.Test.{Test}
use Rattle.kinds.specs.declared.fields.Conditions.{Conditions}
use Rattle.kinds.specs.Rows.{Row, Fits, listed}
use Rattle.kinds.specs.Fields.{at}

-- the meaning of a kind whose records are R
pub record Meaning (R : Type 0) : Type 0 where
  -- which tests it admits on a field, 1 to 4
  pub admits : ℕ → Test → Bool
  -- which records there can be: their numbers fit 32 bits
  pub fits : R → Bool
  -- the day that a record bears
  pub day : R → ℕ
  -- whether a record meets conditions under a row (Some), and which row results
  pub meets : Conditions → Row → R → Option Row
  -- the specimen for conditions, a row and a day
  pub specimen : Conditions → Row → ℕ → R

-- The test of a field, if it has one, is admitted there and of listed values. A field without a test asks nothing.
abbrev pub AdmitsOn : {R : Type 0} → Meaning R → ℕ → Option Test → Type 0
AdmitsOn m field None = Unit {0}
AdmitsOn m field (Some t) = (m.admits field t ≡ true) × (listed t ≡ true)

-- admitted conditions of listed values
pub record Admits {R : Type 0} (m : Meaning R) (c : Conditions) : Type 0 where
  pub first : AdmitsOn m 1 (at c.tests 0)
  pub second : AdmitsOn m 2 (at c.tests 1)
  pub third : AdmitsOn m 3 (at c.tests 2)
  pub fourth : AdmitsOn m 4 (at c.tests 3)

-- the specimen is a record that there can be, bears the day, and meets the conditions
pub record Specimen {R : Type 0} (m : Meaning R) (c : Conditions) (row : Row) (day : ℕ) : Type 0 where
  pub fits : m.fits (m.specimen c row day) ≡ true
  pub bears : m.day (m.specimen c row day) ≡ day
  pub after : Row
  pub met : m.meets c row (m.specimen c row day) ≡ Some after

-- The condition that every kind meets: for admitted conditions of listed values, any row and any day from 0 to 65,535 the specimen is
-- as above. And rows stay rows: what a record leaves of eight slots of 32 bits is again eight slots of 32 bits.
pub record Lawful {R : Type 0} (m : Meaning R) : Type 0 where
  pub specimen : (c : Conditions) (row : Row) (day : ℕ) → Admits m c → Fits row → day ≤ 65535 → Specimen m c row day
  pub keeps : (c : Conditions) (row : Row) (r : R) (row' : Row) → Admits m c → Fits row → m.fits r ≡ true → m.meets c row r ≡ Some row' → Fits row'

-- the row that is left: the one that results, or the one from before
abbrev pub row_after : Option Row → Row → Row
row_after None before = before
row_after (Some after) before = after
