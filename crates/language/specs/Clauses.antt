-- What a contract is: a clause, and the templates that its calls name. Assumes nothing.
use Rattle.std.specs.Prelude.{ℕ, ◌+◌, List, ◌∷◌, slice_index_or}
use Rattle.kinds.specs.declared.fields.Conditions.{Conditions}
use Rattle.kinds.specs.Rows.{Arguments}

-- A step's window: from base + u to base + v, or from u to v by the calendar, ends included.
pub data Window : Type 0 where
  from_base calendar : ℕ → ℕ → Window

pub data Clause : Type 0 where
  done lost : Clause
  -- its entry, window, conditions and tail
  step : ℕ → Window → Conditions → Clause → Clause
  choice both then : Clause → Clause → Clause
  -- the number of a template, and the arguments
  call : ℕ → Arguments → Clause

-- The first and the last day of a window, by the base day.
abbrev pub first : Window → ℕ → ℕ
first (from_base u v) base = base + u
first (calendar u v) base = u

abbrev pub last : Window → ℕ → ℕ
last (from_base u v) base = base + v
last (calendar u v) base = v

-- Templates are numbered from 1: any other number names lost.
abbrev pub body : List Clause → ℕ → Clause
body templates k = slice_index_or (lost ∷ templates) k lost
