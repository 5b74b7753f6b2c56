-- The durations of the templates are settled: one more round leaves them as they are.
use Rattle.std.proofs.Common.{◌≡◌, ℕ, zero, suc, ◌+◌, ◌*◌, ◌<◌, ◌≤◌, max, Bool, true, false, eqb, List, [], ◌∷◌, map, length, get_or, Some, None, Option, sym, refl, ap, ◌∙◌, ap₂, true≢false, not-suc-le-zero, arith}
use mathlib.Core.Bool.{false≢true}
use native.Mathlib.Decide.{dec_le}
use Rattle.std.proofs.lemmas.Bool.{and_parts, eqb-true, eqb-false}
use Rattle.language.specs.Clauses.{Window, Clause, done, lost, step, choice, both, then, call, first, last, body}
use Rattle.language.specs.Ends.{earlier, later, after, up_to, reach, Durations, duration, ends, round, same_day, same, settle, durations}
use Rattle.language.proofs.Basics.{cond_case}
use Rattle.language.proofs.Days.{By, Attained, by_weaker, by_left, by_right, by_later, by_after, by_up_to, at_weaker, at_earlier, at_later, at_after, at_up_to, at_reach, by_reach_earlier}
use Rattle.language.proofs.Shifts.{ends_range}

-- x comes no later than y
abbrev pub NoLater : Option ℕ → Option ℕ → Type 0
NoLater x y = Attained y (λ d. By x d)

earlier_mono : (x x' y y' : Option ℕ) → NoLater x x' → NoLater y y' → NoLater (earlier x y) (earlier x' y')
earlier_mono x x' y y' h k =
    at_earlier x' y' (λ d. By (earlier x y) d) (at_weaker x' (λ d. By x d) (λ d. By (earlier x y) d) h (λ d i. by_left x y d i))
    (at_weaker y' (λ d. By y d) (λ d. By (earlier x y) d) k (λ d i. by_right x y d i))

later_mono : (x x' y y' : Option ℕ) → NoLater x x' → NoLater y y' → NoLater (later x y) (later x' y')
later_mono x x' y y' h k =
    at_later x' y' (λ d. By x d) (λ d. By y d) (λ d. By (later x y) d) h k
    (λ d e i j. by_later x y (max d e) (by_weaker x d (max d e) i (omega arith)) (by_weaker y e (max d e) j (omega arith)))

after_mono : (x x' : Option ℕ) (f g : ℕ → Option ℕ) → NoLater x x' → ((d e : ℕ) → d ≤ e → NoLater (f d) (g e)) → NoLater (after x f) (after x' g)
after_mono x x' f g h k =
    at_after x' g (λ d. By x d) (λ d. By (after x f) d) h
    (λ e i. at_all (g e) (λ n. By (after x f) n) (λ n q. by_after x f e n i (λ d l. at_the (g e) n q (λ m. By (f d) m) (k d e l))))
  where
    at_all : (y : Option ℕ) (Q : ℕ → Type 0) → ((n : ℕ) → y ≡ Some n → Q n) → Attained y Q
    at_all None Q q = tt
    at_all (Some n) Q q = q n refl

    at_the : (y : Option ℕ) (n : ℕ) → y ≡ Some n → (Q : ℕ → Type 0) → Attained y Q → Q n
    at_the y n e Q q = rw e at q

up_to_mono : (n d e : ℕ) → d ≤ e → NoLater (up_to n d) (up_to n e)
up_to_mono n d e h = at_up_to n e (λ m. By (up_to n d) m) (λ k. by_up_to n d e (omega arith) h)

reach_mono : (w : Window) (b c : ℕ) → b ≤ c → NoLater (reach w b b) (reach w c c)
reach_mono w b c h =
    at_weaker (reach w c c) (λ d. (first w c ≤ d) × (d ≤ last w c) × (c ≤ d) × (d ≤ 65535)) (λ d. By (reach w b b) d) (at_reach w c c)
    (λ d q. by_reach_earlier w b c d h q.0 q.1 q.2 q.3)

module _ (D E : Durations) (h : (k : ℕ) → NoLater (duration D k) (duration E k)) where
  pub ends_mono : (c : Clause) (b d : ℕ) → b ≤ d → NoLater (ends D c b) (ends E c d)
  ends_mono done b d k = k
  ends_mono lost b d k = tt
  ends_mono (step e w cs tail) b d k = after_mono (reach w b b) (reach w d d) (ends D tail) (ends E tail) (reach_mono w b d k) (ends_mono tail)
  ends_mono (choice l r) b d k = earlier_mono (ends D l b) (ends E l d) (ends D r b) (ends E r d) (ends_mono l b d k) (ends_mono r b d k)
  ends_mono (both l r) b d k = later_mono (ends D l b) (ends E l d) (ends D r b) (ends E r d) (ends_mono l b d k) (ends_mono r b d k)
  ends_mono (then l r) b d k = after_mono (ends D l b) (ends E l d) (ends D r) (ends E r) (ends_mono l b d k) (ends_mono r)
  ends_mono (call n args) b d k =
      after_mono (duration D n) (duration E n) (λ m. up_to 65535 (b + m)) (λ m. up_to 65535 (d + m)) (h n) (λ i j l. up_to_mono 65535 (b + i) (d + j) (omega arith))

-- tables: each place no later, and in time
abbrev pub Falls : Durations → Durations → Type 0
Falls [] [] = Unit {0}
Falls [] (y ∷ ys) = ⊥
Falls (x ∷ xs) [] = ⊥
Falls (x ∷ xs) (y ∷ ys) = (NoLater x y × Attained x (λ d. d ≤ 65535)) × Falls xs ys

falls_at : (xs ys : Durations) → Falls xs ys → (k : ℕ) → NoLater (get_or xs k None) (get_or ys k None)
falls_at [] [] h k = tt
falls_at [] (y ∷ ys) h k = absurd h
falls_at (x ∷ xs) [] h k = absurd h
falls_at (x ∷ xs) (y ∷ ys) h zero = h.0.0
falls_at (x ∷ xs) (y ∷ ys) h (suc k) = falls_at xs ys h.1 k

pub falls_duration : (D E : Durations) → Falls D E → (k : ℕ) → NoLater (duration D k) (duration E k)
falls_duration D E h zero = tt
falls_duration D E h (suc k) = falls_at D E h k

unfoldable pub weight : Option ℕ → ℕ
weight None = 65536
weight (Some n) = n

unfoldable pub total : Durations → ℕ
total [] = 0
total (x ∷ xs) = weight x + total xs

pub total_mono : (xs ys : Durations) → Falls xs ys → total xs ≤ total ys
unfolding total weight
total_mono [] [] h = omega arith
total_mono [] (y ∷ ys) h = absurd h
total_mono (x ∷ xs) [] h = absurd h
total_mono (None ∷ xs) (None ∷ ys) h = omega (arith, total_mono xs ys h.1)
total_mono (None ∷ xs) (Some b ∷ ys) h = absurd h.0.0
total_mono (Some a ∷ xs) (None ∷ ys) h = omega (arith, total_mono xs ys h.1)
total_mono (Some a ∷ xs) (Some b ∷ ys) h = omega (arith, total_mono xs ys h.1)

pub total_falls : (xs ys : Durations) → Falls xs ys → same ys xs ≡ false → total xs < total ys
unfolding total weight
total_falls [] [] h e = absurd (true≢false e)
total_falls [] (y ∷ ys) h e = absurd h
total_falls (x ∷ xs) [] h e = absurd h
total_falls (None ∷ xs) (None ∷ ys) h e = omega (arith, total_falls xs ys h.1 e)
total_falls (None ∷ xs) (Some b ∷ ys) h e = absurd h.0.0
total_falls (Some a ∷ xs) (None ∷ ys) h e = omega (arith, total_mono xs ys h.1)
total_falls (Some a ∷ xs) (Some b ∷ ys) h e = go (total_falls xs ys h.1) (eqb b a) refl
  where
    go : (same ys xs ≡ false → total xs < total ys) → (t : Bool) → eqb b a ≡ t → a + total xs < b + total ys
    go rec true q = omega (arith, rec (rw q at e))
    go rec false q =
        elim (dec_le b a) [
          | yes k ↦ absurd (eqb-false b a q (omega arith))
          | no k ↦ omega (arith, total_mono xs ys h.1)
        ]

pub same_true : (xs ys : Durations) → same xs ys ≡ true → xs ≡ ys
same_true [] [] e = refl
same_true [] (y ∷ ys) e = absurd (false≢true e)
same_true (x ∷ xs) [] e = absurd (false≢true e)
same_true (x ∷ xs) (y ∷ ys) e =
    let h = and_parts (same_day x y) (same xs ys) e in
    ap₂ (λ (z : Option ℕ) (zs : Durations). z ∷ zs) (same_at x y h.0) (same_true xs ys h.1)
  where
    same_at : (x y : Option ℕ) → same_day x y ≡ true → x ≡ y
    same_at None None e = refl
    same_at None (Some b) e = absurd (false≢true e)
    same_at (Some a) None e = absurd (false≢true e)
    same_at (Some a) (Some b) e = ap (λ (n : ℕ). Some n) (eqb-true a b e)

pub falls_map : (f g : Clause → Option ℕ) → ((c : Clause) → NoLater (f c) (g c) × Attained (f c) (λ d. d ≤ 65535)) → (T : List Clause) → Falls (map f T) (map g T)
falls_map f g h [] = tt
falls_map f g h (c ∷ T) = (h c, falls_map f g h T)

pub in_time : (D : Durations) (c : Clause) → Attained (ends D c 0) (λ d. d ≤ 65535)
in_time D c = at_weaker (ends D c 0) (λ d. (0 ≤ d) × (d ≤ 65535)) (λ d. d ≤ 65535) (ends_range D c 0 (omega arith)) (λ d q. q.1)

pub round_falls : (T : List Clause) (D E : Durations) → Falls D E → Falls (round T D) (round T E)
round_falls T D E h =
    falls_map (λ c. ends D c 0) (λ c. ends E c 0) (λ c. (ends_mono D E (falls_duration D E h) c 0 0 (omega arith), in_time D c)) T

settle_settled : (T : List Clause) (n : ℕ) (D : Durations) → Falls (round T D) D → total D < n → round T (settle T n D) ≡ settle T n D
unfolding settle
settle_settled T zero D h k = absurd (not-suc-le-zero k)
settle_settled T (suc n) D h k =
    cond_case (λ (E : Durations). round T E ≡ E) (same D (round T D))
    (λ e. sym (same_true D (round T D) e))
    (λ e. settle_settled T n (round T D) (round_falls T (round T D) D h) (omega (arith, total_falls (round T D) D h e)))

total_none : (T : List Clause) → total (map (λ c. None) T) ≡ 65536 * length T
unfolding total weight
total_none [] = refl
total_none (c ∷ T) = omega (arith, total_none T)

pub durations_settled : (T : List Clause) → round T (durations T) ≡ durations T
unfolding durations
durations_settled T =
    settle_settled T (suc (65536 * length T)) (map (λ c. None) T)
    (falls_map (λ c. ends (map (λ c. None) T) c 0) (λ c. None) (λ c. (tt, in_time (map (λ c. None) T) c)) T)
    (omega (arith, total_none T))

-- the duration of a template after a round
get_d_map : (f : Clause → Option ℕ) (cs : List Clause) (k : ℕ) → f lost ≡ None → get_or (map f cs) k None ≡ f (get_or cs k lost)
get_d_map f [] k e = sym e
get_d_map f (c ∷ cs) zero e = refl
get_d_map f (c ∷ cs) (suc k) e = get_d_map f cs k e

pub duration_round : (T : List Clause) (D : Durations) (k : ℕ) → duration (round T D) k ≡ ends D (body T k) 0
duration_round T D k = get_d_map (λ c. ends D c 0) (lost ∷ T) k refl

pub duration_settled : (T : List Clause) (k : ℕ) → duration (durations T) k ≡ ends (durations T) (body T k) 0
duration_settled T k = ap (λ (D : Durations). duration D k) (sym (durations_settled T)) ∙ duration_round T (durations T) k

pub durations_in_time : (T : List Clause) (k : ℕ) → Attained (duration (durations T) k) (λ d. d ≤ 65535)
durations_in_time T k = rw (duration_settled T k) (in_time (durations T) (body T k))
