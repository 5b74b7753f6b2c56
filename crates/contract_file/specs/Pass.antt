-- What the pass over the entries keeps: each is marked with the lowest template that reaches it. The questions do not speak of it.
use Rattle.std.specs.Prelude.{◌≡◌, ℕ, ◌<◌, ◌≤◌, min, List, Some, None, Option, IsSomeAnd, slice_set}
use Rattle.entries.specs.declared.entries.Entry.{Entry}
use Rattle.entries.specs.declared.entries.Entry.TheVariants.{Lost, Done, Step, Choice, Both, Then, Call, Template, Condition, Argument}
use Rattle.contract_file.specs.Marks.{mark}
use Rattle.contract_file.specs.Reach.{Reached}

-- each entry is marked with the lowest template that reaches it, if one does
pub record LowestReach (way : Entry → ℕ × ℕ) (es : List Entry) (marks : List (Option ℕ)) : Type 0 where
  pub real : (t k : ℕ) → 0 < k → mark marks k ≡ Some t → Reached way es t k
  pub least : (t k : ℕ) → Reached way es t k → IsSomeAnd (mark marks k) (λ low. low ≤ t)

-- the lower of a mark and a number
abbrev pub lower_of : Option ℕ → ℕ → ℕ
lower_of None n = n
lower_of (Some m) n = min m n

-- one mark lowered to a number, if it is not lower
abbrev pub lowered : List (Option ℕ) → ℕ → ℕ → List (Option ℕ)
lowered marks k n = slice_set marks k (Some (lower_of (mark marks k) n))

-- a template reaches its body
abbrev pub begun : Entry → List (Option ℕ) → List (Option ℕ)
begun Lost marks = marks
begun Done marks = marks
begun (Step w tail conditions) marks = marks
begun (Choice left right) marks = marks
begun (Both left right) marks = marks
begun (Then left right) marks = marks
begun (Call template arguments) marks = marks
begun (Template number body next) marks = lowered marks body number
begun (Condition field test next) marks = marks
begun (Argument slot value next) marks = marks

-- what reaches an entry reaches where two pointers lead
abbrev pub handed_on : ℕ × ℕ → Option ℕ → List (Option ℕ) → List (Option ℕ)
handed_on onward None marks = marks
handed_on onward (Some n) marks = lowered (lowered marks onward.0 n) onward.1 n
