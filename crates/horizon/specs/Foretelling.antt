-- The earliest end of an entry's clause, by spans and rows of ends by day. Assumes nothing.
use Rattle.std.specs.Prelude.{◌≡◌, ℕ, ◌+◌, ◌*◌, ◌≤◌, List, None, Option, slice_index_or}
use Rattle.language.specs.Ends.{up_to, ends, durations}
use Rattle.contract_file.specs.declared.files.File.{File}
use Rattle.openings.specs.Clauses.{clause_at, templates_of}
use Rattle.spans.specs.declared.spans.Span.{Span}
use Rattle.spans.specs.declared.spans.Span.TheVariants.{Never, After, ByDay}

-- By the span of an entry. The rows stand behind one another, each with an end for every base from 0 to 65,535.
abbrev pub by_span : List (Option ℕ) → ℕ → Span → Option ℕ
by_span rows base Never = None
by_span rows base (After days) = up_to 65535 (base + days)
by_span rows base (ByDay row) = slice_index_or rows (row * 65536 + base) None

abbrev pub end_by : List Span → List (Option ℕ) → ℕ → ℕ → Option ℕ
end_by spans rows i base = by_span rows base (slice_index_or spans i Never)

-- The spans and rows tell the earliest end of each entry's clause, on each base.
abbrev pub Foretells : File → List Span → List (Option ℕ) → Type 0
Foretells f spans rows = (i base : ℕ) → base ≤ 65535 → end_by spans rows i base ≡ ends (durations (templates_of f)) (clause_at f i) base
