-- A clause opened stands for the lists that perform the clause.
use Rattle.std.proofs.Common.{◌≡◌, ℕ, zero, suc, ◌<◌, ◌⊎◌, ◌↔◌, List, [], ◌∷◌, ◌++◌, sym, refl, subst, inl, inr, ⊎_elim, not-suc-le-zero, arith}
use Rattle.kinds.specs.declared.fields.Conditions.{Conditions}
use Rattle.kinds.specs.Rows.{Row, Arguments, fill}
use Rattle.kinds.specs.Meaning.{Meaning}
use Rattle.language.specs.Clauses.{Window, Clause, done, lost, step, choice, both, then, call, body}
use Rattle.language.specs.Performing.{Parts, end, Performs, by_done, by_step, by_left, by_right, by_both, by_then, by_call}
use Rattle.language.specs.Terms.{Term, Leaf, BareBelow, Guarded, open_with, opened}
use Rattle.language.specs.Completing.{TermPerforms}
use Rattle.language.proofs.Depth.{opened_call}
use Rattle.language.proofs.Tidy.{choice_of_iff, both_of_iff, then_of_iff}

-- every bare call names a template that G holds of
module _ (G : ℕ → Type 0) where
  abbrev Bare : Clause → Type 0
  Bare done = Unit {0}
  Bare lost = Unit {0}
  Bare (step e w cs tail) = Unit {0}
  Bare (choice l r) = Bare l × Bare r
  Bare (both l r) = Bare l × Bare r
  Bare (then l r) = Bare l × Bare r
  Bare (call j args) = G j

  bare_all : ((k : ℕ) → G k) → (c : Clause) → Bare c
  bare_all g done = tt
  bare_all g lost = tt
  bare_all g (step e w cs tail) = tt
  bare_all g (choice l r) = (bare_all g l, bare_all g r)
  bare_all g (both l r) = (bare_all g l, bare_all g r)
  bare_all g (then l r) = (bare_all g l, bare_all g r)
  bare_all g (call j args) = g j

  bare_of : (k : ℕ) → ((j : ℕ) → j < k → G j) → (c : Clause) → BareBelow k c → Bare c
  bare_of k g done h = tt
  bare_of k g lost h = tt
  bare_of k g (step e w cs tail) h = tt
  bare_of k g (choice l r) h = (bare_of k g l h.0, bare_of k g r h.1)
  bare_of k g (both l r) h = (bare_of k g l h.0, bare_of k g r h.1)
  bare_of k g (then l r) h = (bare_of k g l h.0, bare_of k g r h.1)
  bare_of k g (call j args) h = g j h

module _ {R : Type 0} (K : Meaning R) (T : List Clause) where
  -- what performs each sort of clause
  done_performed : {row : Row} {b : ℕ} {rs : List R} → Performs K T done row b rs → rs ≡ []
  done_performed by_done = refl

  lost_performed : {row : Row} {b : ℕ} {rs : List R} → Performs K T lost row b rs → ⊥
  lost_performed p = elim p [ ]

  step_performed : {e : ℕ} {w : Window} {cs : Conditions} {tail : Clause} {row : Row} {b : ℕ} (rs : List R)
      → Performs K T (step e w cs tail) row b rs → TermPerforms K T (Leaf e w cs tail row b) rs
  step_performed [] p = elim p [ ]
  step_performed (r ∷ rs) (by_step i m p) = (_, (i, m), p)

  choice_performed : {l r : Clause} {row : Row} {b : ℕ} {rs : List R} → Performs K T (choice l r) row b rs → Performs K T l row b rs ⊎ Performs K T r row b rs
  choice_performed (by_left p) = inl p
  choice_performed (by_right p) = inr p

  both_performed : {l r : Clause} {row : Row} {b : ℕ} {rs : List R} → Performs K T (both l r) row b rs
      → (xs : List R) × (ys : List R) × Parts xs ys rs × Performs K T l row b xs × Performs K T r row b ys
  both_performed (by_both s p q) = (_, _, s, p, q)

  then_performed : {l r : Clause} {row : Row} {b : ℕ} {rs : List R} → Performs K T (then l r) row b rs
      → (front : List R) × (rest : List R) × (front ++ rest ≡ rs) × Performs K T l row b front × Performs K T r row (end K b front) rest
  then_performed (by_then s p q) = (_, _, s, p, q)

  call_performed : {k : ℕ} {args : Arguments} {row : Row} {b : ℕ} {rs : List R} → Performs K T (call k args) row b rs → Performs K T (body T k) (fill args row) b rs
  call_performed (by_call p) = p

  module _ (guarded : Guarded T) where
    -- opening, where the bodies of its bare calls are known to open rightly
    opened_where : (G : ℕ → Type 0)
        → ((k : ℕ) → G k → (row : Row) (b : ℕ) (rs : List R) → TermPerforms K T (opened T (body T k) row b) rs ↔ Performs K T (body T k) row b rs)
        → (c : Clause) → Bare G c → (row : Row) (b : ℕ) (rs : List R)
        → TermPerforms K T (opened T c row b) rs ↔ Performs K T c row b rs
    unfolding opened open_with
    opened_where G ok done g row b rs = (λ e. subst (λ (zs : List R). Performs K T done row b zs) (sym e) by_done, done_performed)
    opened_where G ok lost g row b rs = (absurd, lost_performed)
    opened_where G ok (step e w cs tail) g row b rs = (outward rs, step_performed rs)
      where
        outward : (zs : List R) → TermPerforms K T (Leaf e w cs tail row b) zs → Performs K T (step e w cs tail) row b zs
        outward [] p = absurd p
        outward (r ∷ zs) (row', (i, m), p) = by_step i m p
    opened_where G ok (choice l r) (g, h) row b rs =
        let L = opened_where G ok l g row b rs in
        let Q = opened_where G ok r h row b rs in
        let C = choice_of_iff K T (opened T l row b) (opened T r row b) rs in (
          λ p. ⊎_elim (λ q. by_left (L.0 q)) (λ q. by_right (Q.0 q)) (C.0 p),
          λ p. C.1 (⊎_elim (λ q. inl (L.1 q)) (λ q. inr (Q.1 q)) (choice_performed p)),
        )
    opened_where G ok (both l r) (g, h) row b rs =
        let C = both_of_iff K T (opened T l row b) (opened T r row b) rs in (
          λ s. let (xs, ys, parts, p, q) = C.0 s in by_both parts ((opened_where G ok l g row b xs).0 p) ((opened_where G ok r h row b ys).0 q),
          λ s. let (xs, ys, parts, p, q) = both_performed s in C.1 (xs, ys, parts, (opened_where G ok l g row b xs).1 p, (opened_where G ok r h row b ys).1 q),
        )
    opened_where G ok (then l r) (g, h) row b rs =
        let C = then_of_iff K T (opened T l row b) r row b (opened T r row b) rs (opened_where G ok r h row b rs) in (
          λ s. let (front, rest, e, p, q) = C.0 s in by_then e ((opened_where G ok l g row b front).0 p) q,
          λ s. let (front, rest, e, p, q) = then_performed s in C.1 (front, rest, e, (opened_where G ok l g row b front).1 p, q),
        )
    opened_where G ok (call k args) g row b rs =
        let C = ok k g (fill args row) b rs in
        let e : opened T (call k args) row b ≡ opened T (body T k) (fill args row) b = opened_call T guarded k args row b in (
          λ p. by_call (C.0 (subst (λ (t : Term). TermPerforms K T t rs) e p)),
          λ p. subst (λ (t : Term). TermPerforms K T t rs) (sym e) (C.1 (call_performed p)),
        )

    -- bare calls go down, so every body does
    bodies_iff : (n k : ℕ) → k < n → (row : Row) (b : ℕ) (rs : List R) → TermPerforms K T (opened T (body T k) row b) rs ↔ Performs K T (body T k) row b rs
    bodies_iff zero k h row b rs = absurd (not-suc-le-zero h)
    bodies_iff (suc n) k h row b rs =
        let G : ℕ → Type 0 = λ j. j < n in
        opened_where G (bodies_iff n) (body T k) (bare_of G k (λ j i. omega arith) (body T k) (guarded k)) row b rs

    pub opened_iff : (c : Clause) (row : Row) (b : ℕ) (rs : List R) → TermPerforms K T (opened T c row b) rs ↔ Performs K T c row b rs
    opened_iff c row b rs =
        let G : ℕ → Type 0 = λ j. Unit {0} in
        opened_where G (λ k g. bodies_iff (suc k) k (omega arith)) c (bare_all G (λ k. tt) c) row b rs
