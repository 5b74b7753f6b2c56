-- What the entries of a file mean: the clause, the conditions and the arguments that an entry stands for, and the templates.
-- Assumes nothing: where a pointer leads to no such entry, it means lost, no condition or no argument.
use Rattle.std.specs.Prelude.{ℕ, zero, suc, ◌-◌, List, [], ◌∷◌, map, replicate, Some, None, Option, slice_set}
use Rattle.std.specs.List.{range_with_len}
use Rattle.kinds.specs.declared.fields.Test.{Test}
use Rattle.kinds.specs.declared.fields.Conditions.{Conditions}
use Rattle.kinds.specs.Rows.{Arguments}
use Rattle.language.specs.Clauses.{Clause, done, lost, step, choice, both, then, call}
use Rattle.days.specs.Windows.{meant}
use Rattle.entries.specs.declared.entries.Entry.{Entry}
use Rattle.entries.specs.declared.entries.Entry.TheVariants.{Lost, Done, Step, Choice, Both, Then, Call, Template, Condition, Argument}
use Rattle.entries.specs.Parts.{at}
use Rattle.contract_file.specs.declared.files.File.{File}
use Rattle.contract_file.specs.Chains.{chain}

-- The conditions along a chain: a test for each of the four fields, or none. Fields rise along a chain, so four links are enough.
abbrev pub gathered_by : (ℕ → List (Option Test) → List (Option Test)) → Entry → List (Option Test) → List (Option Test)
gathered_by rest Lost tests = tests
gathered_by rest Done tests = tests
gathered_by rest (Step w tail conditions) tests = tests
gathered_by rest (Choice left right) tests = tests
gathered_by rest (Both left right) tests = tests
gathered_by rest (Then left right) tests = tests
gathered_by rest (Call template arguments) tests = tests
gathered_by rest (Template number body next) tests = tests
gathered_by rest (Condition field test next) tests = rest next (slice_set tests (field - 1) (Some test))
gathered_by rest (Argument slot value next) tests = tests

unfoldable pub gathered : File → ℕ → ℕ → List (Option Test) → List (Option Test)
gathered f zero i tests = tests
gathered f (suc n) i tests = gathered_by (gathered f n) (at f.entries i) tests

unfoldable pub conditions_at : File → ℕ → Conditions
conditions_at f i = record { tests = gathered f 4 i (replicate 4 None) }

-- The arguments along a chain. Slots rise along it, so eight links are enough.
abbrev pub listed_by : (ℕ → Arguments) → Entry → Arguments
listed_by rest Lost = []
listed_by rest Done = []
listed_by rest (Step w tail conditions) = []
listed_by rest (Choice left right) = []
listed_by rest (Both left right) = []
listed_by rest (Then left right) = []
listed_by rest (Call template arguments) = []
listed_by rest (Template number body next) = []
listed_by rest (Condition field test next) = []
listed_by rest (Argument slot value next) = record { slot = slot; value = value } ∷ rest next

unfoldable pub listed_from : File → ℕ → ℕ → Arguments
listed_from f zero i = []
listed_from f (suc n) i = listed_by (listed_from f n) (at f.entries i)

abbrev pub arguments_at : File → ℕ → Arguments
arguments_at f i = listed_from f 8 i

-- The clause of an entry of number i, where pointers mean what `to` says. An entry that is no clause means lost.
abbrev pub clause_by : File → (ℕ → Clause) → ℕ → Entry → Clause
clause_by f to i Lost = lost
clause_by f to i Done = done
clause_by f to i (Step w tail conditions) = step i (meant w) (conditions_at f conditions) (to tail)
clause_by f to i (Choice left right) = choice (to left) (to right)
clause_by f to i (Both left right) = both (to left) (to right)
clause_by f to i (Then left right) = then (to left) (to right)
clause_by f to i (Call template arguments) = call template (arguments_at f arguments)
clause_by f to i (Template number body next) = lost
clause_by f to i (Condition field test next) = lost
clause_by f to i (Argument slot value next) = lost

-- By at most n pointers.
unfoldable pub clause_of : File → ℕ → ℕ → Clause
clause_of f zero i = lost
clause_of f (suc n) i = clause_by f (clause_of f n) i (at f.entries i)

-- The clause of entry i. Pointers lead up, so 257 of them are enough.
unfoldable pub clause_at : File → ℕ → Clause
clause_at f i = clause_of f 257 i

-- The body that a template points to.
abbrev pub body_of : Entry → ℕ
body_of Lost = 0
body_of Done = 0
body_of (Step w tail conditions) = 0
body_of (Choice left right) = 0
body_of (Both left right) = 0
body_of (Then left right) = 0
body_of (Call template arguments) = 0
body_of (Template number body next) = body
body_of (Condition field test next) = 0
body_of (Argument slot value next) = 0

-- The entry of the body of template k, at place k of the templates' chain.
abbrev pub body_at : File → ℕ → ℕ
body_at f k = body_of (at f.entries (chain f k))

-- The templates, in the order of their chain. There are sixteen, and those that the file lacks are lost.
unfoldable pub templates_of : File → List Clause
templates_of f = map (λ k. clause_at f (body_at f k)) (range_with_len 1 16)
