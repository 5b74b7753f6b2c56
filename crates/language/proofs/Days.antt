-- Days that may be absent: bounds from above, and what holds of the day where there is one.
use Rattle.std.proofs.Common.{◌≡◌, ℕ, ◌+◌, ◌<◌, ◌≤◌, min, max, leb, Some, None, Option, subst, arith}
use native.Mathlib.Decide.{dec_le}
use Rattle.std.proofs.lemmas.Bool.{cond-true, cond-false, leb-true, le-leb, lt-leb}
use Rattle.language.specs.Clauses.{Window, from_base, calendar, first, last}
use Rattle.language.specs.Ends.{earlier, later, after, up_to, reach}
use Rattle.language.proofs.Basics.{cond_case}

-- the day is there, and no later than n
abbrev pub By : Option ℕ → ℕ → Type 0
By None n = ⊥
By (Some d) n = d ≤ n

-- where there is a day, Q holds of it
abbrev pub Attained : Option ℕ → (ℕ → Type 0) → Type 0
Attained None Q = Unit {0}
Attained (Some d) Q = Q d

pub up_to_yes : (end d : ℕ) → d ≤ end → up_to end d ≡ Some d
unfolding up_to
up_to_yes end d h = cond-true (leb d end) (Some d) None (le-leb d end h)

pub up_to_no : (end d : ℕ) → end < d → up_to end d ≡ None
unfolding up_to
up_to_no end d h = cond-false (leb d end) (Some d) None (lt-leb d end h)

-- how bounds pass through what is made of days
pub by_weaker : (x : Option ℕ) (n m : ℕ) → By x n → n ≤ m → By x m
by_weaker None n m h k = h
by_weaker (Some d) n m h k = omega arith

pub by_left : (x y : Option ℕ) (n : ℕ) → By x n → By (earlier x y) n
by_left None y n h = absurd h
by_left (Some a) None n h = h
by_left (Some a) (Some b) n h = omega arith

pub by_right : (x y : Option ℕ) (n : ℕ) → By y n → By (earlier x y) n
by_right None y n h = h
by_right (Some a) None n h = absurd h
by_right (Some a) (Some b) n h = omega arith

pub by_later : (x y : Option ℕ) (n : ℕ) → By x n → By y n → By (later x y) n
by_later None y n h k = h
by_later (Some a) None n h k = k
by_later (Some a) (Some b) n h k = omega arith

pub by_after : (x : Option ℕ) (f : ℕ → Option ℕ) (n m : ℕ) → By x n → ((e : ℕ) → e ≤ n → By (f e) m) → By (after x f) m
by_after None f n m h k = absurd h
by_after (Some a) f n m h k = k a h

pub by_up_to : (end d n : ℕ) → d ≤ end → d ≤ n → By (up_to end d) n
by_up_to end d n h k = rw (up_to_yes end d h) k

-- and how what holds of days does
pub at_weaker : (x : Option ℕ) (Q R : ℕ → Type 0) → Attained x Q → ((d : ℕ) → Q d → R d) → Attained x R
at_weaker None Q R h k = tt
at_weaker (Some d) Q R h k = k d h

pub at_earlier : (x y : Option ℕ) (Q : ℕ → Type 0) → Attained x Q → Attained y Q → Attained (earlier x y) Q
at_earlier None y Q h k = k
at_earlier (Some a) None Q h k = h
at_earlier (Some a) (Some b) Q h k =
    elim (dec_le a b) [ yes i ↦ (let e : a ≡ min a b = omega arith in subst Q e h) | no i ↦ (let e : b ≡ min a b = omega arith in subst Q e k) ]

pub at_later : (x y : Option ℕ) (Q R S : ℕ → Type 0) → Attained x Q → Attained y R → ((d e : ℕ) → Q d → R e → S (max d e)) → Attained (later x y) S
at_later None y Q R S h k f = tt
at_later (Some a) None Q R S h k f = tt
at_later (Some a) (Some b) Q R S h k f = f a b h k

pub at_after : (x : Option ℕ) (f : ℕ → Option ℕ) (Q R : ℕ → Type 0) → Attained x Q → ((e : ℕ) → Q e → Attained (f e) R) → Attained (after x f) R
at_after None f Q R h k = tt
at_after (Some a) f Q R h k = k a h

pub at_up_to : (end d : ℕ) (Q : ℕ → Type 0) → (d ≤ end → Q d) → Attained (up_to end d) Q
unfolding up_to
at_up_to end d Q h = cond_case (λ (o : Option ℕ). Attained o Q) (leb d end) (λ e. h (leb-true d end e)) (λ _. tt)

-- a window's first day on or after c
pub by_reach : (w : Window) (base c d : ℕ) → first w base ≤ d → d ≤ last w base → c ≤ d → d ≤ 65535 → By (reach w base c) d
unfolding reach
by_reach w base c d h i j k =
    by_after (up_to (last w base) (max (first w base) c)) (up_to 65535) d d
    (by_up_to (last w base) (max (first w base) c) d (omega arith) (omega arith))
    (λ e l. by_up_to 65535 e d (omega arith) l)

pub at_reach : (w : Window) (base c : ℕ) → Attained (reach w base c) (λ d. (first w base ≤ d) × (d ≤ last w base) × (c ≤ d) × (d ≤ 65535))
unfolding reach
at_reach w base c =
    at_after (up_to (last w base) (max (first w base) c)) (up_to 65535) (λ d. (first w base ≤ d) × (d ≤ last w base) × (c ≤ d))
    (λ d. (first w base ≤ d) × (d ≤ last w base) × (c ≤ d) × (d ≤ 65535))
    (at_up_to (last w base) (max (first w base) c) (λ d. (first w base ≤ d) × (d ≤ last w base) × (c ≤ d)) (λ h. (omega arith, h, omega arith)))
    (λ e q. at_up_to 65535 e (λ d. (first w base ≤ d) × (d ≤ last w base) × (c ≤ d) × (d ≤ 65535)) (λ h. (q.0, q.1, q.2, h)))

-- the same from an earlier base
pub by_reach_earlier : (w : Window) (b c d : ℕ) → b ≤ c → first w c ≤ d → d ≤ last w c → c ≤ d → d ≤ 65535 → By (reach w b b) d
unfolding reach
by_reach_earlier (from_base u v) b c d l h i j k =
    by_after (up_to (b + v) (max (b + u) b)) (up_to 65535) d d
    (by_up_to (b + v) (max (b + u) b) d (omega arith) (omega arith))
    (λ e m. by_up_to 65535 e d (omega arith) m)
by_reach_earlier (calendar u v) b c d l h i j k = by_reach (calendar u v) b b d h i (omega arith) k
