-- The new file's entries are lost, so that its horizon is never.
use Rattle.std.proofs.Common.{◌≡◌, ℕ, List, Option, get_or, replicate, sym, ap, ◌∙◌, arith}
use native.Mathlib.Decide.{dec_le}
use lib.ListN.{get_or-replicate, length-replicate}
use Rattle.std.proofs.lemmas.List.{get_or_past}
use Rattle.language.specs.Clauses.{Clause, lost}
use Rattle.language.specs.Ends.{ends, durations}
use Rattle.entries.specs.declared.entries.Entry.TheVariants.{Lost}
use Rattle.contract_file.specs.Fresh.{fresh}
use Rattle.openings.specs.Clauses.{clause_by, clause_of, clause_at, templates_of}
use Rattle.spans.specs.declared.spans.Span.TheVariants.{Never}
use Rattle.horizon.specs.Foretelling.{by_span, Foretells}

filled_with : {A : Type 0} (n i : ℕ) (a : A) → get_or (replicate n a) i a ≡ a
filled_with n i a = elim (dec_le n i) [
  | yes h ↦ get_or_past (replicate n a) i a (omega (arith, length-replicate n a))
  | no h ↦ get_or-replicate n i a a (omega arith)
]

new_entries_are_lost : (i : ℕ) → clause_at fresh i ≡ lost
unfolding clause_at clause_of
new_entries_are_lost i = ap (clause_by fresh (clause_of fresh 256) i) (filled_with 257 i Lost)

pub no_new_entry_ends : (rows : List (Option ℕ)) → Foretells fresh (replicate 257 Never) rows
no_new_entry_ends rows i base h =
    ap (by_span rows base) (filled_with 257 i Never) ∙ sym (ap (λ (c : Clause). ends (durations (templates_of fresh)) c base) (new_entries_are_lost i))
