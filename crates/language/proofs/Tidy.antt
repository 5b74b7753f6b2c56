-- A tidied node is performed as the plain one.
use Rattle.std.proofs.Common.{◌≡◌, ℕ, true, false, ◌||◌, ◌⊎◌, ◌↔◌, List, [], ◌∷◌, ◌++◌, refl, subst, inl, inr, ⊎_elim}
use mathlib.Core.Logic.Iff
use mathlib.Core.Bool.{false≢true}
use mathlib.Core.List.{cons≢nil}
use Rattle.std.proofs.lemmas.Bool.{or_cases, or_left, or_right, and_parts, and_from, both_ways}
use Rattle.kinds.specs.Rows.{Row}
use Rattle.kinds.specs.Meaning.{Meaning}
use Rattle.language.specs.Clauses.{Clause}
use Rattle.language.specs.Performing.{empty, end, Performs}
use Rattle.language.specs.Terms.{Term, Done, Lost, Leaf, Choice, Both, Follow, may_end, is_done, is_lost, choice_of, both_of, follow_of, then_of}
use Rattle.language.specs.Completing.{TermPerforms}
use Rattle.language.proofs.Basics.{cond_case, all_left, all_right, left_empty, right_empty, parts_nil}

module _ {R : Type 0} (K : Meaning R) (T : List Clause) where
  -- may-end says that the empty list performs the term
  pub may_end_performs : (t : Term) → may_end t ≡ true → TermPerforms K T t []
  may_end_performs Done e = refl
  may_end_performs Lost e = absurd (false≢true e)
  may_end_performs (Leaf n w cs tail row base) e = absurd (false≢true e)
  may_end_performs (Choice l r) e = ⊎_elim (λ h. inl (may_end_performs l h)) (λ h. inr (may_end_performs r h)) (or_cases (may_end l) (may_end r) e)
  may_end_performs (Both l r) e =
      let h = and_parts (may_end l) (may_end r) e in
      ([], [], empty, may_end_performs l h.0, may_end_performs r h.1)
  may_end_performs (Follow t c row) e = absurd (false≢true e)

  pub performs_may_end : (t : Term) → TermPerforms K T t [] → may_end t ≡ true
  performs_may_end Done p = refl
  performs_may_end Lost p = absurd p
  performs_may_end (Leaf n w cs tail row base) p = absurd p
  performs_may_end (Choice l r) p =
      ⊎_elim (λ q. or_left (may_end l) (may_end r) (performs_may_end l q)) (λ q. or_right (may_end l) (may_end r) (performs_may_end r q)) p
  performs_may_end (Both l r) (xs, ys, parts, p, q) =
      let h = parts_nil parts in
      and_from (may_end l) (may_end r) (performs_may_end l (rw h.0 at p)) (performs_may_end r (rw h.1 at q))
  performs_may_end (Follow t c row) (r, front, rest, e, p, q) = absurd (cons≢nil e)

  pub may_end_iff : (t : Term) → (may_end t ≡ true) ↔ TermPerforms K T t []
  may_end_iff t = (may_end_performs t, performs_may_end t)

  lost_never : (t : Term) (rs : List R) → is_lost t ≡ true → TermPerforms K T t rs → ⊥
  lost_never Done rs e p = false≢true e
  lost_never Lost rs e p = p
  lost_never (Leaf n w cs tail row base) rs e p = false≢true e
  lost_never (Choice l r) rs e p = false≢true e
  lost_never (Both l r) rs e p = false≢true e
  lost_never (Follow t c row) rs e p = false≢true e

  done_only : (t : Term) (rs : List R) → is_done t ≡ true → TermPerforms K T t rs ↔ (rs ≡ [])
  done_only Done rs e = Iff.rfl
  done_only Lost rs e = absurd (false≢true e)
  done_only (Leaf n w cs tail row base) rs e = absurd (false≢true e)
  done_only (Choice l r) rs e = absurd (false≢true e)
  done_only (Both l r) rs e = absurd (false≢true e)
  done_only (Follow t c row) rs e = absurd (false≢true e)

  pub choice_of_iff : (l r : Term) (rs : List R) → TermPerforms K T (choice_of l r) rs ↔ (TermPerforms K T l rs ⊎ TermPerforms K T r rs)
  unfolding choice_of
  choice_of_iff l r rs =
      let P : Term → Type 0 = λ t. TermPerforms K T t rs ↔ (TermPerforms K T l rs ⊎ TermPerforms K T r rs) in
      cond_case P (is_lost l)
      (λ e. (inr, ⊎_elim (λ p. absurd (lost_never l rs e p)) (λ p. p)))
      (λ _. cond_case P (is_lost r)
      (λ e. (inl, ⊎_elim (λ p. p) (λ p. absurd (lost_never r rs e p))))
      (λ _. Iff.rfl))

  pub both_of_iff : (l r : Term) (rs : List R) → TermPerforms K T (both_of l r) rs ↔ TermPerforms K T (Both l r) rs
  unfolding both_of
  both_of_iff l r rs =
      let P : Term → Type 0 = λ t. TermPerforms K T t rs ↔ TermPerforms K T (Both l r) rs in
      cond_case P (is_lost l || is_lost r)
      (λ e. (absurd, λ (xs, ys, parts, p, q). ⊎_elim (λ h. lost_never l xs h p) (λ h. lost_never r ys h q) (or_cases (is_lost l) (is_lost r) e)))
      (λ _. cond_case P (is_done l)
      (λ e. (
        λ p. ([], rs, all_right rs, (done_only l [] e).1 refl, p),
        λ (xs, ys, parts, p, q). subst (λ (zs : List R). TermPerforms K T r zs) (left_empty parts ((done_only l xs e).0 p)) q,
      ))
      (λ _. cond_case P (is_done r)
      (λ e. (
        λ p. (rs, [], all_left rs, p, (done_only r [] e).1 refl),
        λ (xs, ys, parts, p, q). subst (λ (zs : List R). TermPerforms K T l zs) (right_empty parts ((done_only r ys e).0 q)) p,
      ))
      (λ _. Iff.rfl)))

  pub follow_of_iff : (t : Term) (c : Clause) (row : Row) (rs : List R) → TermPerforms K T (follow_of t c row) rs ↔ TermPerforms K T (Follow t c row) rs
  unfolding follow_of
  follow_of_iff t c row rs =
      let P : Term → Type 0 = λ s. TermPerforms K T s rs ↔ TermPerforms K T (Follow t c row) rs in
      cond_case P (is_done t || is_lost t)
      (λ e. (absurd, λ (r, front, rest, q, p, s). ⊎_elim (λ h. absurd (cons≢nil ((done_only t (r ∷ front) h).0 p))) (λ h. lost_never t (r ∷ front) h p) (or_cases (is_done t) (is_lost t) e)))
      (λ _. Iff.rfl)

  -- a front performs the term and the rest the clause, from the front's end
  abbrev pub Sequence : Term → Clause → Row → ℕ → List R → Type 0
  Sequence t c row b rs =
      (front : List R) × (rest : List R) × (front ++ rest ≡ rs) × TermPerforms K T t front × Performs K T c row (end K b front) rest

  pub then_of_iff : (t : Term) (c : Clause) (row : Row) (b : ℕ) (o : Term) (rs : List R)
      → TermPerforms K T o rs ↔ Performs K T c row b rs → TermPerforms K T (then_of t c row o) rs ↔ Sequence t c row b rs
  unfolding then_of
  then_of_iff t c row b o rs oh =
      let P : Term → Type 0 = λ s. TermPerforms K T s rs ↔ Sequence t c row b rs in
      cond_case P (may_end t)
      (λ e. (
        λ p. ⊎_elim (λ q. followed ((follow_of_iff t c row rs).0 q)) (λ q. ([], rs, refl, may_end_performs t e, oh.0 q)) ((choice_of_iff (follow_of t c row) o rs).0 p),
        λ (front, rest, q, p, s). (choice_of_iff (follow_of t c row) o rs).1 (split front rest q p s),
      ))
      (λ e. (
        λ p. followed ((follow_of_iff t c row rs).0 p),
        λ (front, rest, q, p, s). (follow_of_iff t c row rs).1 (only e front rest q p s),
      ))
    where
      followed : TermPerforms K T (Follow t c row) rs → Sequence t c row b rs
      followed (r, front, rest, q, p, s) = (r ∷ front, rest, q, p, s)

      split : (front rest : List R) → front ++ rest ≡ rs → TermPerforms K T t front → Performs K T c row (end K b front) rest
          → TermPerforms K T (follow_of t c row) rs ⊎ TermPerforms K T o rs
      split [] rest q p s = inr (oh.1 (subst (λ (zs : List R). Performs K T c row b zs) q s))
      split (r ∷ front) rest q p s = inl ((follow_of_iff t c row rs).1 (r, front, rest, q, p, s))

      only : may_end t ≡ false → (front rest : List R) → front ++ rest ≡ rs → TermPerforms K T t front → Performs K T c row (end K b front) rest
          → TermPerforms K T (Follow t c row) rs
      only e [] rest q p s = absurd (both_ways (may_end t) e (performs_may_end t p))
      only e (r ∷ front) rest q p s = (r, front, rest, q, p, s)
