-- What stands at a place of a table of entries, and past its end.
use Rattle.std.proofs.Common.{◌≡◌, ℕ, ◌<◌, ◌≤◌, List, length, sym, ap, ◌∙◌, subst, inl, inr, arith}
use Rattle.std.proofs.lemmas.List.{get_or_past}
use Rattle.std.proofs.lemmas.Bool.{cases_eq, cases_lt}
use Rattle.entries.specs.declared.entries.Entry.{Entry}
use Rattle.entries.specs.declared.entries.Entry.TheVariants.{Lost}
use Rattle.entries.specs.Parts.{at}

-- what holds of lost holds past the end
pub past_end : (es : List Entry) (P : Entry → Type 0) → P Lost → (i : ℕ) → length es ≤ i → P (at es i)
past_end es P lost i ge = subst P (sym (get_or_past es i Lost ge)) lost

-- what is not lost stands before the end, and not at place 0 where that is lost
module _ (es : List Entry) (i : ℕ) (some : at es i ≡ Lost → ⊥) where
  pub before_end : i < length es
  before_end = elim (cases_lt i (length es)) [ inl lt ↦ lt | inr ge ↦ absurd (some (get_or_past es i Lost ge)) ]

  pub numbered : at es 0 ≡ Lost → 0 < i
  numbered nowhere = elim (cases_eq i 0) [ inl z ↦ absurd (some (ap (at es) z ∙ nowhere)) | inr ne ↦ omega arith ]
