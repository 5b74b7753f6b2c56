-- A row is added cell by cell.
use Rattle.std.proofs.Common.{◌≡◌, ℕ, ◌+◌, List, [], ◌∷◌, ◌++◌, length, get_or, take, None, Option, sym, ap, ◌∙◌, subst, arith, take_all, length-append}
use native.Mathlib.Decide.{dec_le}
use lib.Seq.{take-append_seam, get_or-append_seam}
use Rattle.std.proofs.lemmas.List.{take-append-le, get_or_append_left}
use Rattle.language.specs.Ends.{after, up_to}
use Rattle.entries.specs.declared.entries.Entry.{Entry}
use Rattle.spans.specs.declared.spans.Span.{Span}
use Rattle.horizon.specs.Filling.{entry_end, RowAdded}

module _ (spans : List Span) (e : Entry) (old : List (Option ℕ)) where
  pub no_cell_yet : RowAdded spans e old old 0
  no_cell_yet = record { long = omega arith; kept = take_all (length old) old (omega arith); ends = λ day h. absurd (omega arith) }

  pub one_cell_more : (rows : List (Option ℕ)) (day : ℕ) (v : Option ℕ) → RowAdded spans e old rows day → v ≡ after (entry_end spans rows day e) (up_to 65535) → RowAdded spans e old (rows ++ v ∷ []) (day + 1)
  one_cell_more rows day v before is = record {
    long = omega (arith, length-append rows (v ∷ []), before.long);
    kept = take-append-le (length old) rows (v ∷ []) (omega (arith, before.long)) ∙ before.kept;
    ends = λ d h. elim (dec_le day d) [
      | yes g ↦
          let place : length rows ≡ length old + d = omega (arith, before.long) in
          subst (λ n. get_or (rows ++ v ∷ []) n None ≡ after (entry_end spans (take n (rows ++ v ∷ [])) d e) (up_to 65535)) place
          (let same : day ≡ d = omega arith in
          subst (λ b. get_or (rows ++ v ∷ []) (length rows) None ≡ after (entry_end spans (take (length rows) (rows ++ v ∷ [])) b e) (up_to 65535)) same
          (get_or-append_seam rows v [] None ∙ is ∙ ap (λ l. after (entry_end spans l day e) (up_to 65535)) (sym (take-append_seam rows (v ∷ [])))))
      | no g ↦
          get_or_append_left rows (v ∷ []) None (length old + d) (omega (arith, before.long)) ∙ before.ends d (omega arith)
          ∙ ap (λ l. after (entry_end spans l d e) (up_to 65535)) (sym (take-append-le (length old + d) rows (v ∷ []) (omega (arith, before.long))))
    ];
  }
