-- The law of earliest ends: no list ends sooner than the end day, and some list ends on it.
use Rattle.std.proofs.Common.{◌≡◌, ℕ, List, Some, None, Option, sym, refl, ◌∙◌}
use Rattle.kinds.specs.Meaning.{Meaning, Lawful}
use Rattle.language.specs.Clauses.{Clause}
use Rattle.language.specs.Performing.{end}
use Rattle.language.specs.Terms.{Term}
use Rattle.language.specs.Ends.{durations, end_day}
use Rattle.language.specs.Laws.{Completes, Earliest, EarliestLaw}
use Rattle.language.proofs.Basics.{none_some, some_inj}
use Rattle.language.proofs.Days.{By, Attained, at_weaker}
use Rattle.language.proofs.NoSooner.{end_by}
use Rattle.language.proofs.Reached.{TermEnding, end_at}

module _ {R : Type 0} (K : Meaning R) (T : List Clause) where
  -- a day that is no later than any end, and that some list ends on
  earliest : (t : Term) (clock : ℕ) (x : Option ℕ) → end_day (durations T) t clock ≡ x
      → ((rs : List R) → Completes K T t clock rs → By x (end K clock rs))
      → Attained x (λ d. (rs : List R) × Completes K T t clock rs × (end K clock rs ≡ d))
      → Earliest K T t clock
  earliest t clock None q by at = record {
    reached = λ d e. none_some (sym q ∙ e);
    none_sooner = λ d e. none_some (sym q ∙ e);
    absent = (λ _. by, λ _. q);
  }
  earliest t clock (Some a) q by at = record {
    reached = λ d e. rw (some_inj (sym q ∙ e)) at at;
    none_sooner = λ d e rs p. rw (some_inj (sym q ∙ e)) at (by rs p);
    absent = (λ e. none_some (sym e ∙ q), λ n. absurd (n at.0 at.1));
  }

  pub earliest_law : Lawful K → EarliestLaw K T
  earliest_law law relative admitted t ok clock h =
      earliest t clock (end_day (durations T) t clock) refl
      (λ rs p. end_by K T relative t clock rs h p.0 p.1)
      (at_weaker (end_day (durations T) t clock) (TermEnding K law T relative admitted t clock) (λ d. (rs : List R) × Completes K T t clock rs × (end K clock rs ≡ d))
      (end_at K law T relative admitted t ok clock h)
      (λ d (rs, p, o, e). (rs, (p, o), e)))
