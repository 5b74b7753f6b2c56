-- How long a clause lasts at the least, and which clauses have a row of ends by day. Assumes nothing.
use Rattle.std.specs.Prelude.{ℕ, zero, suc, ◌+◌, ◌-◌, Bool, true, false, cond, ◌||◌, List, map, Some, None, Option}
use Rattle.std.specs.List.{range_with_len}
use Rattle.language.specs.Clauses.{from_base, calendar, Clause, done, lost, step, choice, both, then, call}
use Rattle.language.specs.Ends.{Durations, ends, durations}
use Rattle.contract_file.specs.declared.files.File.{File}
use Rattle.openings.specs.Clauses.{clause_at, templates_of}
use Rattle.spans.specs.declared.spans.Span.{Span}
use Rattle.spans.specs.declared.spans.Span.TheVariants.{Never, After, ByDay}

-- A calendar window is reached. Bodies reach none, so a call does not.
abbrev pub dated : Clause → Bool
dated done = false
dated lost = false
dated (step e (from_base u v) cs tail) = dated tail
dated (step e (calendar u v) cs tail) = true
dated (choice l r) = dated l || dated r
dated (both l r) = dated l || dated r
dated (then l r) = dated l || dated r
dated (call k args) = false

-- The span of a clause that ends so many days after day 0.
abbrev pub lasting : Option ℕ → Span
lasting None = Never
lasting (Some days) = After days

-- The span of a clause, given the templates' durations and the number of its row, if it is to have one.
abbrev pub span_by : Durations → ℕ → Clause → Span
span_by D row c = cond (dated c) (ByDay row) (lasting (ends D c 0))

-- How many of the n entries from i on have a row.
unfoldable pub rows_in : File → ℕ → ℕ → ℕ
rows_in f zero i = 0
rows_in f (suc n) i = rows_in f n (suc i) + cond (dated (clause_at f i)) 1 0

-- How many of the entries past i have a row: the number of the row of entry i.
abbrev pub row_of : File → ℕ → ℕ
row_of f i = rows_in f (256 - i) (suc i)

-- The span of each entry at its number.
unfoldable pub spans_of : File → List Span
spans_of f = map (λ i. span_by (durations (templates_of f)) (row_of f i) (clause_at f i)) (range_with_len 0 257)
