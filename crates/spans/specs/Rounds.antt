-- What the passes over the entries keep: how many days each lasts from day 0, where templates last as given, and the spans.
use Rattle.std.specs.Prelude.{◌≡◌, ℕ, ◌+◌, Bool, true, false, cond, ◌||◌, List, count_by, length, Some, None, Option, slice_index_or}
use Rattle.language.specs.Clauses.{Clause, done, lost, step, choice, both, then, call}
use Rattle.language.specs.Ends.{earlier, later, after, up_to, reach, Durations, duration}
use Rattle.days.specs.Windows.{meant, by_calendar}
use Rattle.entries.specs.declared.entries.Entry.{Entry}
use Rattle.entries.specs.declared.entries.Entry.TheVariants as entries
use Rattle.contract_file.specs.declared.files.File.{File}
use Rattle.openings.specs.Clauses.{clause_at}
use Rattle.spans.specs.declared.spans.Span.{Span}
use Rattle.spans.specs.declared.spans.Span.TheVariants.{Never, After, ByDay}
use Rattle.spans.specs.Spans.{dated, lasting, row_of}

abbrev pub of : List (Option ℕ) → ℕ → Option ℕ
of days i = slice_index_or days i None

-- So many days and then so many more, up to the last day.
abbrev pub following : Option ℕ → Option ℕ → Option ℕ
following x y = after x (λ n. after y (λ m. up_to 65535 (n + m)))

abbrev pub entry_lasts : List (Option ℕ) → Durations → Entry → Option ℕ
entry_lasts s D entries.Lost = None
entry_lasts s D entries.Done = Some 0
entry_lasts s D (entries.Step w tail conditions) = following (reach (meant w) 0 0) (of s tail)
entry_lasts s D (entries.Choice left right) = earlier (of s left) (of s right)
entry_lasts s D (entries.Both left right) = later (of s left) (of s right)
entry_lasts s D (entries.Then left right) = following (of s left) (of s right)
entry_lasts s D (entries.Call template arguments) = following (Some 0) (duration D template)
entry_lasts s D (entries.Template number body next) = None
entry_lasts s D (entries.Condition field test next) = None
entry_lasts s D (entries.Argument slot value next) = None

-- How many days a clause lasts. Each part is taken from day 0, which is right where no window is by the calendar.
abbrev pub lasts : Durations → Clause → Option ℕ
lasts D done = Some 0
lasts D lost = None
lasts D (step e w cs tail) = following (reach w 0 0) (lasts D tail)
lasts D (choice l r) = earlier (lasts D l) (lasts D r)
lasts D (both l r) = later (lasts D l) (lasts D r)
lasts D (then l r) = following (lasts D l) (lasts D r)
lasts D (call k args) = following (Some 0) (duration D k)

-- The table tells how many days each entry lasts.
abbrev pub Passed : File → Durations → List (Option ℕ) → Type 0
Passed f D s = (length s ≡ 257) × ((i : ℕ) → of s i ≡ lasts D (clause_at f i))

-- The span at a place of a table.
abbrev pub span_of : List Span → ℕ → Span
span_of spans i = slice_index_or spans i Never

abbrev pub by_day : Span → Bool
by_day Never = false
by_day (After days) = false
by_day (ByDay row) = true

abbrev pub entry_dated : List Span → Entry → Bool
entry_dated s entries.Lost = false
entry_dated s entries.Done = false
entry_dated s (entries.Step w tail conditions) = by_calendar w.counted || by_day (span_of s tail)
entry_dated s (entries.Choice left right) = by_day (span_of s left) || by_day (span_of s right)
entry_dated s (entries.Both left right) = by_day (span_of s left) || by_day (span_of s right)
entry_dated s (entries.Then left right) = by_day (span_of s left) || by_day (span_of s right)
entry_dated s (entries.Call template arguments) = false
entry_dated s (entries.Template number body next) = false
entry_dated s (entries.Condition field test next) = false
entry_dated s (entries.Argument slot value next) = false

-- The table tells the span of each entry, where entries last as given.
abbrev pub Told : File → List (Option ℕ) → List Span → Type 0
Told f days s = (length s ≡ 257) × ((i : ℕ) → span_of s i ≡ cond (dated (clause_at f i)) (ByDay (row_of f i)) (lasting (of days i)))
