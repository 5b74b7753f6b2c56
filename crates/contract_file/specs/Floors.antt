-- What the pass along chains keeps: each entry is marked with what it has to exceed. The questions do not speak of it.
use Rattle.std.specs.Prelude.{◌≡◌, ℕ, ◌<◌, max, List, Some, None, Option, IfSome, length, slice_set}
use Rattle.entries.specs.declared.entries.Entry.{Entry}
use Rattle.entries.specs.declared.entries.Entry.TheVariants.{Lost, Done, Step, Choice, Both, Then, Call, Template, Condition, Argument}
use Rattle.entries.specs.Parts.{at, rank, Precedes}
use Rattle.contract_file.specs.Marks.{mark}

-- the higher of a mark and a number
abbrev pub higher_of : Option ℕ → ℕ → ℕ
higher_of None n = n
higher_of (Some m) n = max m n

-- one mark raised to a number, if it is not higher
abbrev pub raised : List (Option ℕ) → ℕ → ℕ → List (Option ℕ)
raised marks k n = slice_set marks k (Some (higher_of (mark marks k) n))

-- what an entry asks of the next in its chain
abbrev pub noted : Entry → List (Option ℕ) → List (Option ℕ)
noted Lost floors = floors
noted Done floors = floors
noted (Step w tail conditions) floors = floors
noted (Choice left right) floors = floors
noted (Both left right) floors = floors
noted (Then left right) floors = floors
noted (Call template arguments) floors = floors
noted (Template number body next) floors = floors
noted (Condition field test next) floors = raised floors next field
noted (Argument slot value next) floors = raised floors next slot

-- more than a mark; each number is more than none
abbrev pub Exceeds : Option ℕ → ℕ → Type 0
Exceeds floor n = IfSome floor (λ m. m < n)

-- a number exceeds the mark of entry k if it is more than each that has k as its next, of the entries below i
pub record Floors (es : List Entry) (i : ℕ) (floors : List (Option ℕ)) : Type 0 where
  pub long : length floors ≡ 257
  pub above : (k n : ℕ) → k < 257 → Exceeds (mark floors k) n → (j : ℕ) → j < i → Precedes (at es j) k → rank (at es j) < n
  pub least : (k n : ℕ) → k < 257 → ((j : ℕ) → j < i → Precedes (at es j) k → rank (at es j) < n) → Exceeds (mark floors k) n
