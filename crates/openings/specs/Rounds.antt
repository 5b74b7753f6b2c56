-- What the rounds over the entries keep: what each opens to, where calls open as given. The questions do not speak of it.
use Rattle.std.specs.Prelude.{◌≡◌, ℕ, ◌<◌, ◌≤◌, List, length, slice_index_or}
use Rattle.language.specs.Clauses.{Clause, done, lost, step, choice, both, then, call}
use Rattle.entries.specs.declared.entries.Entry.{Entry}
use Rattle.entries.specs.declared.entries.Entry.TheVariants as entries
use Rattle.contract_file.specs.declared.files.File.{File}
use Rattle.openings.specs.declared.shapes.Shape.{Shape}
use Rattle.openings.specs.Clauses.{clause_at, body_at}
use Rattle.openings.specs.Shapes.{lost_shape, done_shape, leaf_shape, choice_shape, both_shape, then_shape}

abbrev pub of : List Shape → ℕ → Shape
of shapes i = slice_index_or shapes i lost_shape

abbrev pub entry_shape : List Shape → List Shape → Entry → Shape
entry_shape s calls entries.Lost = lost_shape
entry_shape s calls entries.Done = done_shape
entry_shape s calls (entries.Step w tail conditions) = leaf_shape
entry_shape s calls (entries.Choice left right) = choice_shape (of s left) (of s right)
entry_shape s calls (entries.Both left right) = both_shape (of s left) (of s right)
entry_shape s calls (entries.Then left right) = then_shape (of s left) (of s right)
entry_shape s calls (entries.Call template arguments) = of calls template
entry_shape s calls (entries.Template number body next) = lost_shape
entry_shape s calls (entries.Condition field test next) = lost_shape
entry_shape s calls (entries.Argument slot value next) = lost_shape

-- what a clause opens to
abbrev pub clause_shape : List Shape → Clause → Shape
clause_shape calls done = done_shape
clause_shape calls lost = lost_shape
clause_shape calls (step e w cs tail) = leaf_shape
clause_shape calls (choice l r) = choice_shape (clause_shape calls l) (clause_shape calls r)
clause_shape calls (both l r) = both_shape (clause_shape calls l) (clause_shape calls r)
clause_shape calls (then l r) = then_shape (clause_shape calls l) (clause_shape calls r)
clause_shape calls (call k args) = of calls k

-- The table tells what each entry opens to, from one on.
abbrev pub Passed : File → List Shape → ℕ → List Shape → Type 0
Passed f calls from s = (length s ≡ 257) × ((i : ℕ) → from ≤ i → of s i ≡ clause_shape calls (clause_at f i))

-- The table tells what each template opens to. There are sixteen; the body at number 0 is entry 0, which is lost.
pub record Called (f : File) (s : List Shape) (calls : List Shape) : Type 0 where
  pub named : (k : ℕ) → k < 17 → of calls k ≡ of s (body_at f k)
  pub past : (k : ℕ) → 17 ≤ k → of calls k ≡ lost_shape
