-- The parts of an entry that the questions speak of. A pointer that an entry has not is 0. Assumes nothing.
use Rattle.std.specs.Prelude.{◌≡◌, ℕ, ◌≤◌, true, List, Some, None, Option, slice_index_or}
use Rattle.kinds.specs.declared.fields.Test.{Test}
use Rattle.kinds.specs.declared.rows.Value.{Value}
use Rattle.kinds.specs.Rows.{listed, listed_value}
use Rattle.entries.specs.declared.parts.Sort.{Sort}
use Rattle.entries.specs.declared.parts.Sort.TheVariants as sort
use Rattle.entries.specs.declared.entries.Entry.{Entry}
use Rattle.entries.specs.declared.entries.Entry.TheVariants.{Lost, Done, Step, Choice, Both, Then, Call, Template, Condition, Argument}

-- the entry of a number in a table, and lost past its end
abbrev pub at : List Entry → ℕ → Entry
at es i = slice_index_or es i Lost

-- what a pointer may ask of the entry that it leads to
abbrev pub sort_of : Entry → Sort
sort_of Lost = sort.Clause
sort_of Done = sort.Clause
sort_of (Step w tail conditions) = sort.Clause
sort_of (Choice left right) = sort.Clause
sort_of (Both left right) = sort.Clause
sort_of (Then left right) = sort.Clause
sort_of (Call template arguments) = sort.Clause
sort_of (Template number body next) = sort.Template
sort_of (Condition field test next) = sort.Condition
sort_of (Argument slot value next) = sort.Argument

-- the next of a template
abbrev pub next_template : Entry → ℕ
next_template Lost = 0
next_template Done = 0
next_template (Step w tail conditions) = 0
next_template (Choice left right) = 0
next_template (Both left right) = 0
next_template (Then left right) = 0
next_template (Call template arguments) = 0
next_template (Template number body next) = next
next_template (Condition field test next) = 0
next_template (Argument slot value next) = 0

-- what has to rise along a chain of conditions or of arguments
abbrev pub rank : Entry → ℕ
rank Lost = 0
rank Done = 0
rank (Step w tail conditions) = 0
rank (Choice left right) = 0
rank (Both left right) = 0
rank (Then left right) = 0
rank (Call template arguments) = 0
rank (Template number body next) = 0
rank (Condition field test next) = field
rank (Argument slot value next) = slot

-- a condition or an argument whose next is i
abbrev pub Precedes : Entry → ℕ → Type 0
Precedes Lost i = ⊥
Precedes Done i = ⊥
Precedes (Step w tail conditions) i = ⊥
Precedes (Choice left right) i = ⊥
Precedes (Both left right) i = ⊥
Precedes (Then left right) i = ⊥
Precedes (Call template arguments) i = ⊥
Precedes (Template number body next) i = ⊥
Precedes (Condition field test next) i = next ≡ i
Precedes (Argument slot value next) i = next ≡ i

-- the sides of a choice, both or then; 0 is none
abbrev pub sides : Entry → ℕ × ℕ
sides Lost = (0, 0)
sides Done = (0, 0)
sides (Step w tail conditions) = (0, 0)
sides (Choice left right) = (left, right)
sides (Both left right) = (left, right)
sides (Then left right) = (left, right)
sides (Call template arguments) = (0, 0)
sides (Template number body next) = (0, 0)
sides (Condition field test next) = (0, 0)
sides (Argument slot value next) = (0, 0)

-- the pointers of an entry; 0 is none
abbrev pub pointers : Entry → ℕ × ℕ
pointers Lost = (0, 0)
pointers Done = (0, 0)
pointers (Step w tail conditions) = (tail, conditions)
pointers (Choice left right) = (left, right)
pointers (Both left right) = (left, right)
pointers (Then left right) = (left, right)
pointers (Call template arguments) = (arguments, 0)
pointers (Template number body next) = (body, next)
pointers (Condition field test next) = (next, 0)
pointers (Argument slot value next) = (next, 0)

-- The values of an entry are listed: templates 1 to 16, fields 1 to 4, slots 0 to 7, and numbers of 32 bits.
abbrev pub Listed : Entry → Type 0
Listed Lost = Unit {0}
Listed Done = Unit {0}
Listed (Step w tail conditions) = Unit {0}
Listed (Choice left right) = Unit {0}
Listed (Both left right) = Unit {0}
Listed (Then left right) = Unit {0}
Listed (Call template arguments) = (1 ≤ template) × (template ≤ 16)
Listed (Template number body next) = (1 ≤ number) × (number ≤ 16)
Listed (Condition field test next) = (1 ≤ field) × (field ≤ 4) × (listed test ≡ true)
Listed (Argument slot value next) = (slot ≤ 7) × (listed_value value ≡ true)

-- the same of what there may be
abbrev pub ListedIf : Option Entry → Type 0
ListedIf None = Unit {0}
ListedIf (Some e) = Listed e

abbrev pub TestIf : Option Test → Type 0
TestIf None = Unit {0}
TestIf (Some t) = listed t ≡ true

abbrev pub ValueIf : Option Value → Type 0
ValueIf None = Unit {0}
ValueIf (Some x) = listed_value x ≡ true
