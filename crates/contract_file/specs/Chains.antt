-- What right chains are: templates numbered 1, 2, 3 along theirs with none off it, fields and slots rising along theirs.
use Rattle.std.specs.Prelude.{◌≡◌, ℕ, zero, suc, ◌<◌}
use Rattle.entries.specs.declared.entries.Entry.{Entry}
use Rattle.entries.specs.declared.entries.Entry.TheVariants.{Lost, Done, Step, Choice, Both, Then, Call, Template, Condition, Argument}
use Rattle.contract_file.specs.declared.files.File.{File}
use Rattle.entries.specs.Parts.{at, next_template, rank, Precedes}
use Rattle.contract_file.specs.Asking.{Question}

-- the template at a place of the templates' chain, counted from 1; 0 past its end
unfoldable pub chain : File → ℕ → ℕ
chain f zero = 0
chain f (suc zero) = f.templates
chain f (suc (suc k)) = next_template (at f.entries (chain f (suc k)))

-- a template stands on the chain, at the place that its number tells
abbrev pub Numbered : File → ℕ → Entry → Type 0
Numbered f i e = (number body next : ℕ) → e ≡ Template number body next → chain f number ≡ i

-- each condition or argument whose next is i has less
abbrev pub Above : File → ℕ → ℕ → Type 0
Above f i n = (j : ℕ) → Precedes (at f.entries j) i → rank (at f.entries j) < n

-- fields rise strictly along conditions, filled slots along arguments; the later entry is at fault
abbrev pub Rising : File → ℕ → Entry → Type 0
Rising f i Lost = Unit {0}
Rising f i Done = Unit {0}
Rising f i (Step w tail conditions) = Unit {0}
Rising f i (Choice left right) = Unit {0}
Rising f i (Both left right) = Unit {0}
Rising f i (Then left right) = Unit {0}
Rising f i (Call template arguments) = Unit {0}
Rising f i (Template number body next) = Unit {0}
Rising f i (Condition field test next) = Above f i field
Rising f i (Argument slot value next) = Above f i slot

-- the question: has entry i its place in its chain?
abbrev pub Chained : File → Question
Chained f i = Numbered f i (at f.entries i) × Rising f i (at f.entries i)
