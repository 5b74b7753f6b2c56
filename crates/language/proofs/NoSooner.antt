-- No list that performs a clause or a term ends before its earliest end.
use Rattle.std.proofs.Common.{◌≡◌, ℕ, ◌≤◌, List, [], ◌∷◌, ◌++◌, Option, sym, ap, ◌∙◌, subst, ⊎_elim, arith}
use mathlib.Core.List.{cons≢nil}
use Rattle.std.proofs.lemmas.Bool.{both_ways}
use Rattle.kinds.specs.Rows.{Row}
use Rattle.kinds.specs.Meaning.{Meaning}
use Rattle.language.specs.Clauses.{Clause, body}
use Rattle.language.specs.Performing.{end, InOrder, Performs, by_done, by_step, by_left, by_right, by_both, by_then, by_call}
use Rattle.language.specs.Terms.{Term, Done, Lost, Leaf, Choice, Both, Follow, may_end}
use Rattle.language.specs.Completing.{TermPerforms}
use Rattle.language.specs.Ends.{later, after, reach, duration, ends, Relative, durations, now_or, next_end, end_day}
use Rattle.language.proofs.Basics.{cond_case, parts_cons}
use Rattle.language.proofs.Tidy.{performs_may_end}
use Rattle.language.proofs.Days.{By, by_weaker, by_later, by_after, by_reach, by_reach_earlier}
use Rattle.language.proofs.Days as days
use Rattle.language.proofs.Lists.{end_from, end_in_time, end_append, in_order_front, in_order_rest, in_order_parts, end_parts}
use Rattle.language.proofs.Shifts.{shift, ends_from_zero}
use Rattle.language.proofs.Settled.{duration_settled}

module _ {R : Type 0} (K : Meaning R) (T : List Clause) (relative : (k : ℕ) → Relative (body T k)) where
  -- a call ends as the template's body
  pub ends_call : (k : ℕ) (b : ℕ) → b ≤ 65535 → ends (durations T) (body T k) b ≡ shift b (duration (durations T) k)
  ends_call k b h = ends_from_zero (durations T) (body T k) (relative k) b h ∙ ap (shift b) (sym (duration_settled T k))

  -- from an earlier base too
  pub ends_by : {c : Clause} {row : Row} {b : ℕ} {rs : List R} → Performs K T c row b rs
      → (a : ℕ) → a ≤ b → b ≤ 65535 → InOrder K b rs → By (ends (durations T) c a) (end K b rs)
  ends_by by_done a h i o = h
  ends_by (by_step {w = w} {tail = tail} {base = b} {r = r} {rs = rs} inside m p) a h i o =
      by_after (reach w a a) (ends (durations T) tail) (K.day r) (end K (K.day r) rs)
      (by_reach_earlier w a b (K.day r) h inside.0 inside.1 o.0 o.1)
      (λ e l. ends_by p e l o.1 o.3)
  ends_by (by_left {l = l} {r = r} {base = b} {rs = rs} p) a h i o =
      days.by_left (ends (durations T) l a) (ends (durations T) r a) (end K b rs) (ends_by p a h i o)
  ends_by (by_right {l = l} {r = r} {base = b} {rs = rs} p) a h i o =
      days.by_right (ends (durations T) l a) (ends (durations T) r a) (end K b rs) (ends_by p a h i o)
  ends_by (by_both {l = l} {r = r} {base = b} {xs = xs} {ys = ys} {rs = rs} parts p q) a h i o =
      let os = in_order_parts K parts b o in
      let es = end_parts K parts b o in
      by_later (ends (durations T) l a) (ends (durations T) r a) (end K b rs)
      (by_weaker (ends (durations T) l a) (end K b xs) (end K b rs) (ends_by p a h i os.0) es.0)
      (by_weaker (ends (durations T) r a) (end K b ys) (end K b rs) (ends_by q a h i os.1) es.1)
  ends_by (by_then {l = l} {r = r} {base = b} {front = front} {rest = rest} {rs = rs} e p q) a h i o =
      let o' : InOrder K b (front ++ rest) = subst (λ (zs : List R). InOrder K b zs) (sym e) o in
      let of : InOrder K b front = in_order_front K b front rest o' in
      subst (λ (n : ℕ). By (after (ends (durations T) l a) (ends (durations T) r)) n)
      (sym (end_append K b front rest) ∙ ap (λ (zs : List R). end K b zs) e)
      (by_after (ends (durations T) l a) (ends (durations T) r) (end K b front) (end K (end K b front) rest)
      (ends_by p a h i of)
      (λ d l. ends_by q d l (end_in_time K b front i of) (in_order_rest K b front rest o')))
  ends_by (by_call {k = k} {base = b} {rs = rs} p) a h i o =
      subst (λ (x : Option ℕ). By x (end K b rs)) (ends_call k a (omega arith)) (ends_by p a h i o)

  -- a term, from the clock
  abbrev pub NextBy : Term → Type 0
  NextBy t = (c : ℕ) (r : R) (rs : List R) → c ≤ 65535 → TermPerforms K T t (r ∷ rs) → InOrder K c (r ∷ rs) → By (next_end (durations T) t c) (end K (K.day r) rs)

  end_by_next : (t : Term) → NextBy t → (c : ℕ) (rs : List R) → c ≤ 65535 → TermPerforms K T t rs → InOrder K c rs → By (end_day (durations T) t c) (end K c rs)
  end_by_next t next c [] h p o =
      cond_case (λ (x : Option ℕ). By x c) (may_end t) (λ _. omega arith) (λ e. absurd (both_ways (may_end t) e (performs_may_end K T t p)))
  end_by_next t next c (r ∷ rs) h p o =
      cond_case (λ (x : Option ℕ). By x (end K c (r ∷ rs))) (may_end t) (λ _. end_from K c (r ∷ rs) o) (λ _. next c r rs h p o)

  pub next_by : (t : Term) → NextBy t
  next_by Done c r rs h p o = absurd (cons≢nil p)
  next_by Lost c r rs h p o = absurd p
  next_by (Leaf e w cs tail row b) c r rs h (row', (inside, m), p) o =
      by_after (reach w b c) (ends (durations T) tail) (K.day r) (end K (K.day r) rs)
      (by_reach w b c (K.day r) inside.0 inside.1 o.0 o.1)
      (λ d l. ends_by p d l o.1 o.3)
  next_by (Choice x y) c r rs h p o =
      ⊎_elim (λ q. days.by_left (next_end (durations T) x c) (next_end (durations T) y c) (end K (K.day r) rs) (next_by x c r rs h q o))
      (λ q. days.by_right (next_end (durations T) x c) (next_end (durations T) y c) (end K (K.day r) rs) (next_by y c r rs h q o)) p
  next_by (Both x y) c r rs h (xs, ys, parts, p, q) o =
      let os = in_order_parts K parts c o in
      let es = end_parts K parts c o in
      let D = durations T in
      let n = end K (K.day r) rs in
      let one = later (next_end D x c) (now_or y c (next_end D y c)) in
      let two = later (now_or x c (next_end D x c)) (next_end D y c) in
      ⊎_elim
      (λ (zs, e, s). days.by_left one two n (by_later (next_end D x c) (end_day D y c) n
      (by_weaker (next_end D x c) (end K (K.day r) zs) n
      (next_by x c r zs h (subst (λ (l : List R). TermPerforms K T x l) (sym e) p) (subst (λ (l : List R). InOrder K c l) (sym e) os.0))
      (subst (λ (l : List R). end K c l ≤ n) (sym e) es.0))
      (by_weaker (end_day D y c) (end K c ys) n (end_by_next y (next_by y) c ys h q os.1) es.1)))
      (λ (zs, e, s). days.by_right one two n (by_later (end_day D x c) (next_end D y c) n
      (by_weaker (end_day D x c) (end K c xs) n (end_by_next x (next_by x) c xs h p os.0) es.0)
      (by_weaker (next_end D y c) (end K (K.day r) zs) n
      (next_by y c r zs h (subst (λ (l : List R). TermPerforms K T y l) (sym e) q) (subst (λ (l : List R). InOrder K c l) (sym e) os.1))
      (subst (λ (l : List R). end K c l ≤ n) (sym e) es.1))))
      (parts_cons parts)
  next_by (Follow t cl row) c r rs h (x, front, rest, e, p, q) o =
      let o' : InOrder K c ((x ∷ front) ++ rest) = subst (λ (zs : List R). InOrder K c zs) (sym e) o in
      let of : InOrder K c (x ∷ front) = in_order_front K c (x ∷ front) rest o' in
      subst (λ (n : ℕ). By (after (next_end (durations T) t c) (ends (durations T) cl)) n)
      (sym (end_append K c (x ∷ front) rest) ∙ ap (λ (zs : List R). end K c zs) e)
      (by_after (next_end (durations T) t c) (ends (durations T) cl) (end K c (x ∷ front)) (end K (end K c (x ∷ front)) rest)
      (next_by t c x front h p of)
      (λ d l. ends_by q d l (end_in_time K c (x ∷ front) h of) (in_order_rest K c (x ∷ front) rest o')))

  pub end_by : (t : Term) (c : ℕ) (rs : List R) → c ≤ 65535 → TermPerforms K T t rs → InOrder K c rs → By (end_day (durations T) t c) (end K c rs)
  end_by t = end_by_next t (next_by t)
