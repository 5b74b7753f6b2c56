-- The earliest end of a clause or a term is the end of a list that performs it.
use Rattle.std.proofs.Common.{◌≡◌, ℕ, zero, suc, ◌*◌, ◌≤◌, max, true, List, [], ◌∷◌, ◌++◌, map, length, get_or, None, Option, sym, refl, ap, ◌∙◌, subst, inl, inr, arith}
use mathlib.Core.List.{cons≢nil}
use Rattle.kinds.specs.declared.fields.Conditions.{Conditions}
use Rattle.kinds.specs.Rows.{Row, Fits, fill}
use Rattle.kinds.specs.Meaning.{Meaning, Admits, Lawful}
use Rattle.kinds.specs.Fitting.{fill_fits}
use Rattle.language.specs.Clauses.{Window, Clause, done, lost, step, choice, both, then, call, first, last, body}
use Rattle.language.specs.Performing.{Parts, end, InOrder, Performs, Admitted, by_done, by_step, by_left, by_right, by_both, by_then, by_call}
use Rattle.language.specs.Terms.{Term, Done, Lost, Leaf, Choice, Both, Follow, may_end}
use Rattle.language.specs.Completing.{TermPerforms, TermAdmitted}
use Rattle.language.specs.Ends.{later, after, reach, Durations, duration, ends, Relative, round, same, settle, durations, next_end, end_day}
use Rattle.language.proofs.Basics.{cond_case, parts_nil}
use Rattle.language.proofs.Tidy.{may_end_performs}
use Rattle.language.proofs.Days.{Attained, at_weaker, at_earlier, at_later, at_after, at_reach}
use Rattle.language.proofs.Lists.{end_in_time, end_append, in_order_append, merge}
use Rattle.language.proofs.Shifts.{shift, ends_from_zero}
use Rattle.language.proofs.Settled.{duration_round}

module _ {R : Type 0} (K : Meaning R) (law : Lawful K) (T : List Clause) (relative : (k : ℕ) → Relative (body T k)) (admitted : (k : ℕ) → Admitted K (body T k)) where
  -- a list that performs the clause from its base ends on day d
  abbrev Ending : Clause → Row → ℕ → ℕ → Type 0
  Ending c row b d = (rs : List R) × Performs K T c row b rs × InOrder K b rs × (end K b rs ≡ d)

  -- durations that lists have
  abbrev Real : Durations → Type 0
  Real D = (k : ℕ) (row : Row) → Fits row → (b : ℕ) → b ≤ 65535 → Attained (shift b (duration D k)) (Ending (body T k) row b)

  module _ (D : Durations) (real : Real D) where
    -- a step that is taken by its specimen
    step_at : (e : ℕ) (w : Window) (cs : Conditions) (tail : Clause) → Admits K cs
        → ((row : Row) → Fits row → (b : ℕ) → b ≤ 65535 → Attained (ends D tail b) (Ending tail row b))
        → (row : Row) → Fits row → (b c : ℕ)
        → Attained (after (reach w b c) (ends D tail)) (λ d. (r : R) × (rs : List R) × TermPerforms K T (Leaf e w cs tail row b) (r ∷ rs) × InOrder K c (r ∷ rs) × (end K c (r ∷ rs) ≡ d))
    step_at e w cs tail ok rec row fit b c =
        at_after (reach w b c) (ends D tail) (λ d. (first w b ≤ d) × (d ≤ last w b) × (c ≤ d) × (d ≤ 65535)) Q (at_reach w b c)
        (λ d (i, j, k, l).
        let r = K.specimen cs row d in
        let own = law.specimen cs row d ok fit l in
        let eq : K.day r ≡ d = own.bears in
        let fr : K.fits r ≡ true = own.fits in
        let row' = own.after in
        let m = own.met in
        let i' : first w b ≤ K.day r = omega arith in
        let j' : K.day r ≤ last w b = omega arith in
        let k' : c ≤ K.day r = omega arith in
        let l' : K.day r ≤ 65535 = omega arith in
        subst (λ (x : ℕ). Attained (ends D tail x) Q) eq
        (at_weaker (ends D tail (K.day r)) (Ending tail row' (K.day r)) Q (rec row' (law.keeps cs row r row' ok fit fr m) (K.day r) l')
        (λ n (rs, p, o, q). (r, rs, (row', ((i', j'), m), p), (k', l', fr, o), q))))
      where
        Q : ℕ → Type 0
        Q d = (r : R) × (rs : List R) × TermPerforms K T (Leaf e w cs tail row b) (r ∷ rs) × InOrder K c (r ∷ rs) × (end K c (r ∷ rs) ≡ d)

    pub ends_at : (c : Clause) → Admitted K c → (row : Row) → Fits row → (b : ℕ) → b ≤ 65535 → Attained (ends D c b) (Ending c row b)
    ends_at done ok row fit b h = ([], by_done, tt, refl)
    ends_at lost ok row fit b h = tt
    ends_at (step e w cs tail) ok row fit b h =
        at_weaker (after (reach w b b) (ends D tail))
        (λ d. (r : R) × (rs : List R) × TermPerforms K T (Leaf e w cs tail row b) (r ∷ rs) × InOrder K b (r ∷ rs) × (end K b (r ∷ rs) ≡ d))
        (Ending (step e w cs tail) row b)
        (step_at e w cs tail ok.0 (ends_at tail ok.1) row fit b b)
        (λ d (r, rs, (row', (i, m), p), o, q). (r ∷ rs, by_step i m p, o, q))
    ends_at (choice l r) ok row fit b h =
        at_earlier (ends D l b) (ends D r b) (Ending (choice l r) row b)
        (at_weaker (ends D l b) (Ending l row b) (Ending (choice l r) row b) (ends_at l ok.0 row fit b h) (λ d (rs, p, o, q). (rs, by_left p, o, q)))
        (at_weaker (ends D r b) (Ending r row b) (Ending (choice l r) row b) (ends_at r ok.1 row fit b h) (λ d (rs, p, o, q). (rs, by_right p, o, q)))
    ends_at (both l r) ok row fit b h =
        at_later (ends D l b) (ends D r b) (Ending l row b) (Ending r row b) (Ending (both l r) row b) (ends_at l ok.0 row fit b h) (ends_at r ok.1 row fit b h)
        (λ d e (xs, p, o, q) (ys, p', o', q').
        let (zs, parts, o'', q'') = merge K xs ys b o o' in
        (zs, by_both parts p p', o'', omega arith))
    ends_at (then l r) ok row fit b h =
        at_after (ends D l b) (ends D r) (Ending l row b) (Ending (then l r) row b) (ends_at l ok.0 row fit b h)
        (λ e (front, p, o, q).
        subst (λ (x : ℕ). Attained (ends D r x) (Ending (then l r) row b)) q
        (at_weaker (ends D r (end K b front)) (Ending r row (end K b front)) (Ending (then l r) row b)
        (ends_at r ok.1 row fit (end K b front) (end_in_time K b front h o))
        (λ d (rest, p', o', q'). (front ++ rest, by_then refl p p', in_order_append K b front rest o o', end_append K b front rest ∙ q'))))
    ends_at (call k args) ok row fit b h =
        at_weaker (shift b (duration D k)) (Ending (body T k) (fill args row) b) (Ending (call k args) row b) (real k (fill args row) (fill_fits args row ok fit) b h)
        (λ d (rs, p, o, q). (rs, by_call p, o, q))

    round_real : Real (round T D)
    round_real k row fit b h =
        subst (λ (x : Option ℕ). Attained x (Ending (body T k) row b))
        (ends_from_zero D (body T k) (relative k) b h ∙ ap (shift b) (sym (duration_round T D k)))
        (ends_at (body T k) (admitted k) row fit b h)

  -- no durations are real, and so are those of any number of rounds
  none_real : Real (map (λ c. None) T)
  none_real k row fit b h = subst (λ (x : Option ℕ). Attained (shift b x) (Ending (body T k) row b)) (sym (none T k)) tt
    where
      none_at : (cs : List Clause) (k : ℕ) → get_or {A = Option ℕ} (map (λ c. None) cs) k None ≡ None
      none_at [] k = refl
      none_at (c ∷ cs) zero = refl
      none_at (c ∷ cs) (suc k) = none_at cs k

      none : (cs : List Clause) (k : ℕ) → duration (map (λ c. None) cs) k ≡ None
      none cs zero = refl
      none cs (suc k) = none_at cs k

  settle_real : (n : ℕ) (D : Durations) → Real D → Real (settle T n D)
  unfolding settle
  settle_real zero D real = real
  settle_real (suc n) D real = cond_case Real (same D (round T D)) (λ _. real) (λ _. settle_real n (round T D) (round_real D real))

  pub durations_real : Real (durations T)
  unfolding durations
  durations_real = settle_real (suc (65536 * length T)) (map (λ c. None) T) none_real

  -- terms
  abbrev pub NextEnding : Term → ℕ → ℕ → Type 0
  NextEnding t c d = (r : R) × (rs : List R) × TermPerforms K T t (r ∷ rs) × InOrder K c (r ∷ rs) × (end K c (r ∷ rs) ≡ d)

  abbrev pub TermEnding : Term → ℕ → ℕ → Type 0
  TermEnding t c d = (rs : List R) × TermPerforms K T t rs × InOrder K c rs × (end K c rs ≡ d)

  end_at_next : (t : Term) (c : ℕ) → Attained (next_end (durations T) t c) (NextEnding t c) → Attained (end_day (durations T) t c) (TermEnding t c)
  end_at_next t c next =
      cond_case (λ (x : Option ℕ). Attained x (TermEnding t c)) (may_end t)
      (λ e. ([], may_end_performs K T t e, tt, refl))
      (λ _. at_weaker (next_end (durations T) t c) (NextEnding t c) (TermEnding t c) next (λ d (r, rs, p, o, q). (r ∷ rs, p, o, q)))

  -- two lists for the two sides, one of them not empty
  merge_next : (x y : Term) (c d e : ℕ) (xs ys : List R) → ((xs ≡ []) → (ys ≡ []) → ⊥) → TermPerforms K T x xs → InOrder K c xs → end K c xs ≡ d
      → TermPerforms K T y ys → InOrder K c ys → end K c ys ≡ e → NextEnding (Both x y) c (max d e)
  merge_next x y c d e xs ys some p o q p' o' q' = let (zs, parts, o'', q'') = merge K xs ys c o o' in go zs parts o'' (omega arith)
    where
      go : (zs : List R) → Parts xs ys zs → InOrder K c zs → end K c zs ≡ max d e → NextEnding (Both x y) c (max d e)
      go [] parts s f = let h = parts_nil parts in absurd (some h.0 h.1)
      go (r ∷ zs) parts s f = (r, zs, (xs, ys, parts, p, p'), s, f)

  pub next_at : (t : Term) → TermAdmitted K t → (c : ℕ) → c ≤ 65535 → Attained (next_end (durations T) t c) (NextEnding t c)
  next_at Done ok c h = tt
  next_at Lost ok c h = tt
  next_at (Leaf e w cs tail row b) ok c h = step_at (durations T) durations_real e w cs tail ok.0 (ends_at (durations T) durations_real tail ok.1) row ok.2 b c
  next_at (Choice x y) ok c h =
      let D = durations T in
      at_earlier (next_end D x c) (next_end D y c) (NextEnding (Choice x y) c)
      (at_weaker (next_end D x c) (NextEnding x c) (NextEnding (Choice x y) c) (next_at x ok.0 c h) (λ d (r, rs, p, o, q). (r, rs, inl p, o, q)))
      (at_weaker (next_end D y c) (NextEnding y c) (NextEnding (Choice x y) c) (next_at y ok.1 c h) (λ d (r, rs, p, o, q). (r, rs, inr p, o, q)))
  next_at (Both x y) ok c h =
      let D = durations T in
      let X = next_at x ok.0 c h in
      let Y = next_at y ok.1 c h in
      at_earlier (later (next_end D x c) (end_day D y c)) (later (end_day D x c) (next_end D y c)) (NextEnding (Both x y) c)
      (at_later (next_end D x c) (end_day D y c) (NextEnding x c) (TermEnding y c) (NextEnding (Both x y) c) X (end_at_next y c Y)
      (λ d e (r, rs, p, o, q) (ys, p', o', q'). merge_next x y c d e (r ∷ rs) ys (λ i j. cons≢nil i) p o q p' o' q'))
      (at_later (end_day D x c) (next_end D y c) (TermEnding x c) (NextEnding y c) (NextEnding (Both x y) c) (end_at_next x c X) Y
      (λ d e (xs, p, o, q) (r, rs, p', o', q'). merge_next x y c d e xs (r ∷ rs) (λ i j. cons≢nil j) p o q p' o' q'))
  next_at (Follow t cl row) ok c h =
      let D = durations T in
      at_after (next_end D t c) (ends D cl) (NextEnding t c) (NextEnding (Follow t cl row) c) (next_at t ok.0 c h)
      (λ e (r, front, p, o, q).
      let b = end K c (r ∷ front) in
      subst (λ (x : ℕ). Attained (ends D cl x) (NextEnding (Follow t cl row) c)) q
      (at_weaker (ends D cl b) (Ending cl row b) (NextEnding (Follow t cl row) c)
      (ends_at D durations_real cl ok.1 row ok.2 b (end_in_time K c (r ∷ front) h o))
      (λ d (rest, p', o', q'). (r, front ++ rest, (r, front, rest, refl, p, p'), in_order_append K c (r ∷ front) rest o o', end_append K c (r ∷ front) rest ∙ q'))))

  pub end_at : (t : Term) → TermAdmitted K t → (c : ℕ) → c ≤ 65535 → Attained (end_day (durations T) t c) (TermEnding t c)
  end_at t ok c h = end_at_next t c (next_at t ok c h)
