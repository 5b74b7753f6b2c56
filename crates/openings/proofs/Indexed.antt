-- An array made element by element, by a closure that each call leaves as it was.
use Rattle.std.proofs.Common.{◌≡◌, ℕ, zero, suc, ◌+◌, ◌<◌, ◌≤◌, List, sym, subst, arith}
use native.Mathlib.Decide.{dec_le}
use denote.Param.Members.{Mut}
use Rattle.std.specs.Fn.{Called}
use Rattle.std.specs.Array.{IsFromFnResultFrom, IsFromFnResult}
use Rattle.std.specs.Prelude.{slice_index_or}

module _ {F B : Type 0} (g : Mut F (ℕ × Unit {0}) B) (f : F) (ys : List B) (n : ℕ) (P : ℕ → B → Type 0)
    (told : (i : ℕ) (y : B) (q : F) → i < n → Called g f (i, tt) y q → P i y × (q ≡ f)) where
  each_from : (m i : ℕ) → i + m ≤ n → IsFromFnResultFrom g f ys i m → (k : ℕ) (d : B) → i ≤ k → k < i + m → P k (slice_index_or ys k d)
  each_from zero i within made k d low high = absurd (omega arith)
  each_from (suc m) i within made k d low high = elim (dec_le k i) [
    | yes h ↦ (let same : i ≡ k = omega arith in
        let here = told i made.1 made.0 (omega arith) made.3 in
        subst (λ (j : ℕ). P j (slice_index_or ys j d)) same (subst (P i) (sym (made.2.1 d)) here.0))
    | no h ↦ (let on = told i made.1 made.0 (omega arith) made.3 in
        each_from m (i + 1) (omega arith) (subst (λ (q : F). IsFromFnResultFrom g q ys (i + 1) m) on.1 made.4) k d (omega arith) (omega arith))
  ]

  pub made_each : IsFromFnResult g f ys n → (k : ℕ) (d : B) → k < n → P k (slice_index_or ys k d)
  made_each made k d h = each_from n 0 (omega arith) made.each k d (omega arith) (omega arith)
