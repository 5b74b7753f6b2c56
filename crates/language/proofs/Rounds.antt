-- Any number of rounds that has settled gives the durations, for a program that stops when a round changes nothing.
use Rattle.std.proofs.Common.{◌≡◌, ℕ, zero, suc, ◌*◌, ◌<◌, ◌≤◌, false, List, map, length, None, sym, refl, ap, ◌∙◌, arith}
use native.Mathlib.Decide.{dec_le, le_ind}
use Rattle.language.specs.Clauses.{Clause}
use Rattle.language.specs.Ends.{Durations, ends, round, same, settle, durations}
use Rattle.language.proofs.Basics.{cond_case}
use Rattle.language.proofs.Settled.{Falls, falls_map, in_time, round_falls, total, total_falls, durations_settled}

module _ (T : List Clause) where
  -- the durations after so many rounds, from none known
  abbrev pub rounds : ℕ → Durations
  rounds zero = map (λ c. None) T
  rounds (suc i) = round T (rounds i)

  pub rounds_fall : (i : ℕ) → Falls (rounds (suc i)) (rounds i)
  rounds_fall zero = falls_map (λ c. ends (map (λ c. None) T) c 0) (λ c. None) (λ c. (tt, in_time (map (λ c. None) T) c)) T
  rounds_fall (suc i) = round_falls T (rounds (suc i)) (rounds i) (rounds_fall i)

  -- a measure of a loop over rounds
  pub rounds_lower : (i : ℕ) → same (rounds i) (rounds (suc i)) ≡ false → total (rounds (suc i)) < total (rounds i)
  rounds_lower i e = total_falls (rounds (suc i)) (rounds i) (rounds_fall i) e

  settle_rounds : (n i : ℕ) → (m : ℕ) × (settle T n (rounds i) ≡ rounds m)
  unfolding settle
  settle_rounds zero i = (i, refl)
  settle_rounds (suc n) i =
      cond_case (λ (D : Durations). (m : ℕ) × (D ≡ rounds m)) (same (rounds i) (rounds (suc i))) (λ _. (i, refl)) (λ _. settle_rounds n (suc i))

  stays : (i m : ℕ) → round T (rounds i) ≡ rounds i → i ≤ m → rounds m ≡ rounds i
  stays i m e h = le_ind (λ k. rounds k ≡ rounds i) refl (λ k l q. ap (round T) q ∙ e) m h

  pub rounds_settled : (i : ℕ) → round T (rounds i) ≡ rounds i → durations T ≡ rounds i
  unfolding durations
  rounds_settled i e =
      let (m, q) = settle_rounds (suc (65536 * length T)) zero in
      let f : round T (rounds m) ≡ rounds m = rw q at (durations_settled T) in
      elim (dec_le i m) [ yes h ↦ q ∙ stays i m e h | no h ↦ q ∙ sym (stays m i f (omega arith)) ]
