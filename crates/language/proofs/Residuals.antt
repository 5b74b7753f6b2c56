-- A residual stands for the lists that are left after the record; and the rules of residuals.
use Rattle.std.proofs.Common.{◌≡◌, ℕ, Bool, ◌&&◌, leb, ◌⊎◌, ◌↔◌, List, ◌∷◌, Some, None, Option, sym, refl, ap, ◌∙◌, subst, inl, inr, ⊎_elim}
use mathlib.Core.Logic.Iff
use mathlib.Core.List.{cons≢nil, head-eq_of_cons-eq, tail-eq_of_cons-eq}
use Rattle.std.proofs.lemmas.Bool.{and_parts, and_from, both_ways, leb-true, le-leb}
use Rattle.kinds.specs.declared.fields.Conditions.{Conditions}
use Rattle.kinds.specs.Rows.{Row}
use Rattle.kinds.specs.Meaning.{Meaning}
use Rattle.language.specs.Clauses.{Window, Clause, first, last}
use Rattle.language.specs.Performing.{to_left, to_right, end, Inside, Performs}
use Rattle.language.specs.Terms.{Term, Done, Lost, Leaf, Choice, Both, Follow, Guarded, opened, both_of}
use Rattle.language.specs.Residuals.{met_row, after_leaf, residual, ResidualRules}
use Rattle.language.specs.Completing.{TermPerforms}
use Rattle.language.proofs.Basics.{cond_case, none_some, some_inj, parts_cons}
use Rattle.language.proofs.Tidy.{choice_of_iff, both_of_iff, then_of_iff}
use Rattle.language.proofs.Opening.{opened_iff}

-- the row that results is one that the step makes
module _ {R : Type 0} (K : Meaning R) where
  pub met_row_iff : (w : Window) (cs : Conditions) (row : Row) (b : ℕ) (r : R) (row' : Row)
      → (met_row K w cs row b r ≡ Some row') ↔ (Inside K w b r × (K.meets cs row r ≡ Some row'))
  unfolding met_row
  met_row_iff w cs row b r row' =
      let early : Bool = leb (first w b) (K.day r) in
      let late : Bool = leb (K.day r) (last w b) in
      cond_case (λ (o : Option Row). (o ≡ Some row') ↔ (Inside K w b r × (K.meets cs row r ≡ Some row'))) (early && late)
      (λ e. let (p, q) = and_parts early late e in (λ m. ((leb-true (first w b) (K.day r) p, leb-true (K.day r) (last w b) q), m), λ im. im.1))
      (λ e. (λ m. none_some m, λ im. absurd (both_ways (early && late) e (and_from early late (le-leb (first w b) (K.day r) im.0.0) (le-leb (K.day r) (last w b) im.0.1)))))

module _ {R : Type 0} (K : Meaning R) (T : List Clause) where
  module _ (guarded : Guarded T) where
    after_leaf_iff : (o : Option Row) (tail : Clause) (d : ℕ) (rs : List R)
        → TermPerforms K T (after_leaf T o tail d) rs ↔ ((row : Row) × (o ≡ Some row) × Performs K T tail row d rs)
    unfolding after_leaf
    after_leaf_iff None tail d rs = (absurd, λ (row, e, p). none_some e)
    after_leaf_iff (Some row) tail d rs = (
      λ p. (row, refl, (opened_iff K T guarded tail row d rs).0 p),
      λ (row', e, p). (opened_iff K T guarded tail row d rs).1 (subst (λ (x : Row). Performs K T tail x d rs) (sym (some_inj e)) p),
    )

    pub residual_iff : (t : Term) (r : R) (rs : List R) → TermPerforms K T (residual K T t r) rs ↔ TermPerforms K T t (r ∷ rs)
    unfolding residual
    residual_iff Done r rs = (absurd, cons≢nil)
    residual_iff Lost r rs = Iff.rfl
    residual_iff (Leaf e w cs tail row b) r rs =
        let A = after_leaf_iff (met_row K w cs row b r) tail (K.day r) rs in (
          λ p. let (row', q, s) = A.0 p in (row', (met_row_iff K w cs row b r row').0 q, s),
          λ (row', q, s). A.1 (row', (met_row_iff K w cs row b r row').1 q, s),
        )
    residual_iff (Choice a b) r rs =
        let C = choice_of_iff K T (residual K T a r) (residual K T b r) rs in (
          λ p. ⊎_elim (λ q. inl ((residual_iff a r rs).0 q)) (λ q. inr ((residual_iff b r rs).0 q)) (C.0 p),
          λ p. C.1 (⊎_elim (λ q. inl ((residual_iff a r rs).1 q)) (λ q. inr ((residual_iff b r rs).1 q)) p),
        )
    residual_iff (Both a b) r rs =
        let C = choice_of_iff K T (both_of (residual K T a r) b) (both_of a (residual K T b r)) rs in
        let L = both_of_iff K T (residual K T a r) b rs in
        let Q = both_of_iff K T a (residual K T b r) rs in (
          λ s. ⊎_elim (λ q. let (xs, ys, parts, p, p') = L.0 q in (r ∷ xs, ys, to_left parts, (residual_iff a r xs).0 p, p'))
              (λ q. let (xs, ys, parts, p, p') = Q.0 q in (xs, r ∷ ys, to_right parts, p, (residual_iff b r ys).0 p'))
              (C.0 s),
          λ (xs, ys, parts, p, p'). C.1 (⊎_elim
              (λ (zs, e, q). inl (L.1 (zs, ys, q, (residual_iff a r zs).1 (subst (λ (l : List R). TermPerforms K T a l) (sym e) p), p')))
              (λ (zs, e, q). inr (Q.1 (xs, zs, q, p, (residual_iff b r zs).1 (subst (λ (l : List R). TermPerforms K T b l) (sym e) p'))))
              (parts_cons parts)),
        )
    residual_iff (Follow t c row) r rs =
        let C = then_of_iff K T (residual K T t r) c row (K.day r) (opened T c row (K.day r)) rs (opened_iff K T guarded c row (K.day r) rs) in (
          λ s. let (front, rest, e, p, q) = C.0 s in (r, front, rest, ap (λ (l : List R). r ∷ l) e, (residual_iff t r front).0 p, q),
          λ (x, front, rest, e, p, q).
              let h = head-eq_of_cons-eq e in
              C.1 (
                front,
                rest,
                tail-eq_of_cons-eq e,
                (residual_iff t r front).1 (subst (λ (y : R). TermPerforms K T t (y ∷ front)) h p),
                subst (λ (y : R). Performs K T c row (end K (K.day y) front) rest) h q,
              ),
        )

  -- no row results where the record lies outside the window or does not meet the conditions
  no_row : (w : Window) (cs : Conditions) (row : Row) (b : ℕ) (r : R) → (Inside K w b r → ⊥) ⊎ (K.meets cs row r ≡ None) → met_row K w cs row b r ≡ None
  no_row w cs row b r missed = by (met_row K w cs row b r) refl missed
    where
      by : (o : Option Row) → met_row K w cs row b r ≡ o → (Inside K w b r → ⊥) ⊎ (K.meets cs row r ≡ None) → o ≡ None
      by None e missed = refl
      by (Some row') e (inl outside) = absurd (outside ((met_row_iff K w cs row b r row').0 e).0)
      by (Some row') e (inr unmet) = none_some (sym unmet ∙ ((met_row_iff K w cs row b r row').0 e).1)

  pub residual_rules : ResidualRules K T
  unfolding residual after_leaf
  residual_rules = record {
    of_done = λ r. refl;
    of_lost = λ r. refl;
    of_leaf_met = λ e w cs tail row base r row' inside met.
        ap (λ (o : Option Row). after_leaf T o tail (K.day r)) ((met_row_iff K w cs row base r row').1 (inside, met));
    of_leaf_missed = λ e w cs tail row base r missed.
        ap (λ (o : Option Row). after_leaf T o tail (K.day r)) (no_row w cs row base r missed);
    of_choice = λ a b r. refl;
    of_both = λ a b r. refl;
    of_follow = λ t c row r. refl;
  }
