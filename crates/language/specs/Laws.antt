-- What opening, residuals, may-end and earliest ends mean, by the lists that perform: the laws that are proved.
use Rattle.std.specs.Prelude.{◌≡◌, ℕ, ◌≤◌, true, ◌↔◌, List, [], ◌∷◌, Some, None}
use Rattle.kinds.specs.Rows.{Row}
use Rattle.kinds.specs.Meaning.{Meaning}
use Rattle.language.specs.Clauses.{Clause, body}
use Rattle.language.specs.Performing.{end, InOrder, Performs, Admitted}
use Rattle.language.specs.Terms.{Term, may_end, Guarded, opened}
use Rattle.language.specs.Residuals.{residual}
use Rattle.language.specs.Completing.{TermPerforms, TermAdmitted}
use Rattle.language.specs.Ends.{Relative, durations, end_day}

module _ {R : Type 0} (K : Meaning R) (templates : List Clause) where
  -- An opened clause stands for exactly the lists that perform the clause.
  abbrev pub OpeningLaw : Type 0
  OpeningLaw = Guarded templates → (c : Clause) (row : Row) (base : ℕ) (rs : List R)
      → TermPerforms K templates (opened templates c row base) rs ↔ Performs K templates c row base rs

  -- A residual stands for exactly the lists that, with the record in front, the term stands for.
  abbrev pub ResidualLaw : Type 0
  ResidualLaw = Guarded templates → (t : Term) (r : R) (rs : List R)
      → TermPerforms K templates (residual K templates t r) rs ↔ TermPerforms K templates t (r ∷ rs)

  -- A term may end exactly where it stands for the empty list.
  abbrev pub MayEndLaw : Type 0
  MayEndLaw = (t : Term) → (may_end t ≡ true) ↔ TermPerforms K templates t []

  -- A list that a term stands for, of records that there can be, on or after the clock.
  abbrev pub Completes : Term → ℕ → List R → Type 0
  Completes t clock rs = TermPerforms K templates t rs × InOrder K clock rs

  -- Where no template reaches a calendar window and the kind admits each condition, the end day of a term at a clock is
  -- that of some list that completes the term, and none ends sooner; it is absent exactly where there is no such list.
  pub record Earliest (t : Term) (clock : ℕ) : Type 0 where
    pub reached : (d : ℕ) → end_day (durations templates) t clock ≡ Some d → (rs : List R) × Completes t clock rs × (end K clock rs ≡ d)
    pub none_sooner : (d : ℕ) → end_day (durations templates) t clock ≡ Some d → (rs : List R) → Completes t clock rs → d ≤ end K clock rs
    pub absent : (end_day (durations templates) t clock ≡ None) ↔ ((rs : List R) → Completes t clock rs → ⊥)

  abbrev pub EarliestLaw : Type 0
  EarliestLaw = ((k : ℕ) → Relative (body templates k)) → ((k : ℕ) → Admitted K (body templates k))
      → (t : Term) → TermAdmitted K t → (clock : ℕ) → clock ≤ 65535 → Earliest t clock
