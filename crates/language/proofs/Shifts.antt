-- The earliest end of a clause with no calendar window moves with its base, and every end is in time.
use Rattle.std.proofs.Common.{◌≡◌, ℕ, ◌+◌, ◌<◌, ◌≤◌, Some, None, Option, sym, refl, ap, ◌∙◌, arith}
use native.Mathlib.Decide.{dec_le}
use Rattle.std.proofs.lemmas.Bool.Decides.{nat_tests}
use Rattle.language.specs.Clauses.{Window, from_base, calendar, Clause, done, lost, step, choice, both, then, call, first, last}
use Rattle.language.specs.Terms.{Term, Done, Lost, Leaf, Choice, Both, Follow, may_end}
use Rattle.language.specs.Ends.{earlier, later, after, up_to, reach, Durations, duration, ends, Relative, now_or, next_end, end_day}
use Rattle.language.proofs.Basics.{cond_case}
use Rattle.language.proofs.Days.{Attained, up_to_yes, up_to_no, at_weaker, at_earlier, at_later, at_after, at_up_to, at_reach}

abbrev pub shift : ℕ → Option ℕ → Option ℕ
shift b x = after x (λ n. up_to 65535 (b + n))

shift_earlier : (b : ℕ) (x y : Option ℕ) → shift b (earlier x y) ≡ earlier (shift b x) (shift b y)
unfolding up_to
shift_earlier b None y = refl
shift_earlier b (Some m) None = grind (arith, nat_tests)
shift_earlier b (Some m) (Some n) = grind (arith, nat_tests)

shift_later : (b : ℕ) (x y : Option ℕ) → shift b (later x y) ≡ later (shift b x) (shift b y)
unfolding up_to
shift_later b None y = refl
shift_later b (Some m) None = grind (arith, nat_tests)
shift_later b (Some m) (Some n) = grind (arith, nat_tests)

-- on or after a day, and in time
abbrev pub Within : ℕ → ℕ → Type 0
Within b d = (b ≤ d) × (d ≤ 65535)

-- past 65,535 nothing is left
shift_past : (b e : ℕ) (x : Option ℕ) → Attained x (Within e) → 65535 < b + e → shift b x ≡ None
shift_past b e None h k = refl
shift_past b e (Some d) h k = up_to_no 65535 (b + d) (omega arith)

up_to_shift : (b m n : ℕ) → up_to 65535 ((b + m) + n) ≡ shift b (up_to 65535 (m + n))
unfolding up_to
up_to_shift b m n = grind (arith, nat_tests)

-- the same for a day that may be absent
shift_shift : (b m : ℕ) (x : Option ℕ) → shift (b + m) x ≡ shift b (shift m x)
shift_shift b m None = refl
shift_shift b m (Some n) = up_to_shift b m n

reach_shift : (u v b m : ℕ) → reach (from_base u v) (b + m) (b + m) ≡ shift b (reach (from_base u v) m m)
unfolding reach up_to
reach_shift u v b m = grind (arith, nat_tests)

reach_range : (w : Window) (b c : ℕ) → Attained (reach w b c) (Within c)
reach_range w b c = at_weaker (reach w b c) (λ d. (first w b ≤ d) × (d ≤ last w b) × (c ≤ d) × (d ≤ 65535)) (Within c) (at_reach w b c) (λ d q. (q.2, q.3))

later_range : (c : ℕ) (x y : Option ℕ) → Attained x (Within c) → Attained y (Within c) → Attained (later x y) (Within c)
later_range c x y h k = at_later x y (Within c) (Within c) (Within c) h k (λ d e p q. omega arith)

module _ (D : Durations) where
  after_range : (c : ℕ) (x : Option ℕ) (cl : Clause) → ((d : ℕ) → d ≤ 65535 → Attained (ends D cl d) (Within d))
      → Attained x (Within c) → Attained (after x (ends D cl)) (Within c)
  after_range c x cl ih h =
      at_after x (ends D cl) (Within c) (Within c) h (λ d q. at_weaker (ends D cl d) (Within d) (Within c) (ih d q.1) (λ n s. omega arith))

  -- an end is on or after the base, and in time
  pub ends_range : (c : Clause) (b : ℕ) → b ≤ 65535 → Attained (ends D c b) (Within b)
  ends_range done b h = omega arith
  ends_range lost b h = tt
  ends_range (step e w cs tail) b h = after_range b (reach w b b) tail (ends_range tail) (reach_range w b b)
  ends_range (choice l r) b h = at_earlier (ends D l b) (ends D r b) (Within b) (ends_range l b h) (ends_range r b h)
  ends_range (both l r) b h = later_range b (ends D l b) (ends D r b) (ends_range l b h) (ends_range r b h)
  ends_range (then l r) b h = after_range b (ends D l b) r (ends_range r) (ends_range l b h)
  ends_range (call k args) b h =
      at_after (duration D k) (λ n. up_to 65535 (b + n)) (λ n. Unit {0}) (Within b) (at_any (duration D k)) (λ n q. at_up_to 65535 (b + n) (Within b) (λ i. omega arith))
    where
      at_any : (x : Option ℕ) → Attained x (λ n. Unit {0})
      at_any None = tt
      at_any (Some n) = tt

  now_or_range : (t : Term) (c : ℕ) (x : Option ℕ) → c ≤ 65535 → Attained x (Within c) → Attained (now_or t c x) (Within c)
  now_or_range t c x h k = cond_case (λ (y : Option ℕ). Attained y (Within c)) (may_end t) (λ _. (omega arith, h)) (λ _. k)

  -- the end of a term is on or after the clock, and in time
  pub next_end_range : (t : Term) (c : ℕ) → c ≤ 65535 → Attained (next_end D t c) (Within c)
  next_end_range Done c h = tt
  next_end_range Lost c h = tt
  next_end_range (Leaf e w cs tail row b) c h = after_range c (reach w b c) tail (ends_range tail) (reach_range w b c)
  next_end_range (Choice l r) c h = at_earlier (next_end D l c) (next_end D r c) (Within c) (next_end_range l c h) (next_end_range r c h)
  next_end_range (Both l r) c h =
      let L = next_end_range l c h in
      let Q = next_end_range r c h in
      let x = next_end D l c in
      let y = next_end D r c in
      at_earlier (later x (now_or r c y)) (later (now_or l c x) y) (Within c)
      (later_range c x (now_or r c y) L (now_or_range r c y h Q))
      (later_range c (now_or l c x) y (now_or_range l c x h L) Q)
  next_end_range (Follow t cl row) c h = after_range c (next_end D t c) cl (ends_range cl) (next_end_range t c h)

  pub end_day_range : (t : Term) (c : ℕ) → c ≤ 65535 → Attained (end_day D t c) (Within c)
  end_day_range t c h = now_or_range t c (next_end D t c) h (next_end_range t c h)

  then_shift : (c : Clause) (b : ℕ) → ((m : ℕ) → b + m ≤ 65535 → ends D c (b + m) ≡ shift b (ends D c m))
      → (x : Option ℕ) → Attained x (λ d. d ≤ 65535) → after (shift b x) (ends D c) ≡ shift b (after x (ends D c))
  then_shift c b ih None h = refl
  then_shift c b ih (Some e) h = elim (dec_le (b + e) 65535) [
    | yes k ↦ (let p = up_to_yes 65535 (b + e) k in let q = ih e k in cc)
    | no k ↦ (let p = up_to_no 65535 (b + e) (omega arith) in let q = shift_past b e (ends D c e) (ends_range c e h) (omega arith) in cc)
  ]

  pub ends_shift : (c : Clause) → Relative c → (b m : ℕ) → b + m ≤ 65535 → ends D c (b + m) ≡ shift b (ends D c m)
  ends_shift done r b m h = sym (up_to_yes 65535 (b + m) h)
  ends_shift lost r b m h = refl
  ends_shift (step e (from_base u v) cs tail) r b m h =
      ap (λ (x : Option ℕ). after x (ends D tail)) (reach_shift u v b m)
      ∙ then_shift tail b (ends_shift tail r b) (reach (from_base u v) m m)
      (at_weaker (reach (from_base u v) m m) (Within m) (λ d. d ≤ 65535) (reach_range (from_base u v) m m) (λ d q. q.1))
  ends_shift (step e (calendar u v) cs tail) r b m h = absurd r
  ends_shift (choice p q) r b m h =
      let i = ends_shift p r.0 b m h in let j = ends_shift q r.1 b m h in let k = shift_earlier b (ends D p m) (ends D q m) in cc
  ends_shift (both p q) r b m h =
      let i = ends_shift p r.0 b m h in let j = ends_shift q r.1 b m h in let k = shift_later b (ends D p m) (ends D q m) in cc
  ends_shift (then p q) r b m h =
      ap (λ (x : Option ℕ). after x (ends D q)) (ends_shift p r.0 b m h)
      ∙ then_shift q b (ends_shift q r.1 b) (ends D p m) (at_weaker (ends D p m) (Within m) (λ d. d ≤ 65535) (ends_range p m (omega arith)) (λ d s. s.1))
  ends_shift (call k args) r b m h = shift_shift b m (duration D k)

  -- from base 0
  pub ends_from_zero : (c : Clause) → Relative c → (b : ℕ) → b ≤ 65535 → ends D c b ≡ shift b (ends D c 0)
  ends_from_zero c r b h = let i : b + 0 ≡ b = omega arith in let e : b + 0 ≤ 65535 = omega arith in rw i at (ends_shift c r b 0 e)
