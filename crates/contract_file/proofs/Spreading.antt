-- The pass that finds the lowest template that reaches each entry.
use Rattle.std.proofs.Common.{◌≡◌, ℕ, ◌+◌, ◌<◌, ◌≤◌, ◌⊎◌, Bool, true, false, not, List, is_some, Some, None, Decides, Option, IfSome, length, replicate, sym, refl, ap, ◌∙◌, subst, inl, inr, arith}
use Rattle.std.proofs.lemmas.Bool.{cases_eq, cases_lt, false≢true}
use Rattle.std.proofs.lemmas.Bool.Decides.{Decides-like}
use Rattle.std.proofs.lemmas.List.{get_or_past, get_or-replicate, length-replicate}
use Rattle.entries.specs.declared.entries.Entry.{Entry}
use Rattle.entries.specs.declared.entries.Entry.TheVariants.{Lost, Done, Step, Choice, Both, Then, Call, Template, Condition, Argument}
use Rattle.entries.specs.Parts.{at}
use Rattle.contract_file.specs.Marks.{mark}
use Rattle.contract_file.specs.Pass.{LowestReach, lowered, begun, handed_on}
use Rattle.contract_file.specs.Reach.{Follows, To, Reached, at_body, further}
use Rattle.contract_file.proofs.Lowering.{AtMost, lower}

-- no entry of a new table is marked
pub unmarked : (n k : ℕ) → mark (replicate n None) k ≡ None
unmarked n k =
    elim (cases_lt k n) [
      | inl lt ↦ get_or-replicate n k None None lt
      | inr ge ↦ get_or_past (replicate n None) k None (simp length-replicate ge)
    ]

-- what is at most a mark that is at most n
through : (o : Option ℕ) (n : ℕ) (P : Type 0) → AtMost o n → ((m : ℕ) → o ≡ Some m → m ≤ n → P) → P
through None n P le f = absurd le
through (Some m) n P le f = f m refl le

at_most_more : (o : Option ℕ) (m n : ℕ) → m ≤ n → AtMost o m → AtMost o n
at_most_more None m n le h = h
at_most_more (Some a) m n le h = omega arith

-- a pointer from entry i is none, or leads up and into the table
abbrev pub Near : ℕ → ℕ → Type 0
Near i p = (p ≡ 0) ⊎ ((i < p) × (p ≤ 256))

module _ (way : Entry → ℕ × ℕ) (es : List Entry) where
  -- the entries below i have been passed
  pub record Spread (marks : List (Option ℕ)) (i : ℕ) : Type 0 where
    pub long : length marks ≡ 257
    pub real : (t k : ℕ) → 0 < k → mark marks k ≡ Some t → Reached way es t k
    pub bodies : (j t b n : ℕ) → j < i → at es j ≡ Template t b n → AtMost (mark marks b) t
    pub went : (j k t : ℕ) → 0 < j → j < i → To (way (at es j)) k → mark marks j ≡ Some t → AtMost (mark marks k) t

  pub none_passed : Spread (replicate 257 None) 0
  none_passed = record {
    long = refl;
    real = λ t k some is. absurd (let no : None ≡ Some t = sym (unmarked 257 k) ∙ is in cc);
    bodies = λ j t b n lt is. absurd (omega arith);
    went = λ j k t some lt to is. absurd (omega arith);
  }

  -- lowering a mark from i on, to a template that reaches the entry, keeps all that
  pub kept : (marks : List (Option ℕ)) (i k n : ℕ) → Spread marks i → (k ≡ 0) ⊎ (i < k) → (0 < k → Reached way es n k) → Spread (lowered marks k n) i
  kept marks i k n s up reached =
      let l = lower marks k n in
      record {
        long = l.long ∙ s.long;
        real = λ t x some is.
            elim (cases_eq x k) [
              | inr ne ↦ s.real t x some (sym (l.other x ne) ∙ is)
              | inl e ↦
                  elim l.which [
                    | inl same ↦ s.real t x some (ap (mark marks) e ∙ sym same ∙ sym (ap (mark (lowered marks k n)) e) ∙ is)
                    | inr new ↦
                        let told : Some n ≡ Some t = sym new ∙ sym (ap (mark (lowered marks k n)) e) ∙ is in
                        let number : n ≡ t = cc in
                        rw (← number, e) (reached (omega arith))
                  ]
            ];
        bodies = λ j t b m lt is. l.less b t (s.bodies j t b m lt is);
        went = λ j x t some lt to is.
            let ne : j ≡ k → ⊥ = λ e. elim up [ inl z ↦ omega arith | inr above ↦ omega arith ] in
            l.less x t (s.went j x t some lt to (sym (l.other j ne) ∙ is));
      }

  -- a template, or an entry that begins nothing
  Begins : Entry → Type 0
  Begins e = ((t : ℕ) × (b : ℕ) × (n : ℕ) × (e ≡ Template t b n)) ⊎ (((marks : List (Option ℕ)) → begun e marks ≡ marks) × ((t b n : ℕ) → e ≡ Template t b n → ⊥))

  begins : (e : Entry) → Begins e
  unfolding Begins
  begins Lost = inr ((λ _. refl), (λ t b n q. cc))
  begins Done = inr ((λ _. refl), (λ t b n q. cc))
  begins (Step _ _ _) = inr ((λ _. refl), (λ t b n q. cc))
  begins (Choice _ _) = inr ((λ _. refl), (λ t b n q. cc))
  begins (Both _ _) = inr ((λ _. refl), (λ t b n q. cc))
  begins (Then _ _) = inr ((λ _. refl), (λ t b n q. cc))
  begins (Call _ _) = inr ((λ _. refl), (λ t b n q. cc))
  begins (Template t b n) = inl (t, b, n, refl)
  begins (Condition _ _ _) = inr ((λ _. refl), (λ t b n q. cc))
  begins (Argument _ _ _) = inr ((λ _. refl), (λ t b n q. cc))

  -- the body of entry i is noted
  pub record Started (marks : List (Option ℕ)) (i : ℕ) : Type 0 where
    pub spread : Spread (begun (at es i) marks) i
    pub noted : (t b n : ℕ) → at es i ≡ Template t b n → AtMost (mark (begun (at es i) marks) b) t

  pub started : (marks : List (Option ℕ)) (i : ℕ) → Spread marks i → ((t b n : ℕ) → at es i ≡ Template t b n → (i < b) × (b ≤ 256)) → Started marks i
  unfolding Begins
  started marks i s up =
      elim (begins (at es i)) [
        | inr plain ↦ record {
          spread = rw (plain.0 marks) s;
          noted = λ t b n q. absurd (plain.1 t b n q);
        }
        | inl (t, b, n, is) ↦
            let above = up t b n is in
            let after : begun (at es i) marks ≡ lowered marks b t = rw is in
            record {
              spread = rw after (kept marks i b t s (inr above.0) (λ _. at_body i b n is));
              noted = λ t' b' n' q.
                  let same_t : t ≡ t' = cc in
                  let same_b : b ≡ b' = cc in
                  rw (after, ← same_t, ← same_b) ((lower marks b t).here (omega (arith, s.long)));
            }
      ]

  module _ (follows : Follows way) (nowhere : at es 0 ≡ Lost) where
    -- nothing is onward from lost
    lost_ends : (e : Entry) (k : ℕ) → e ≡ Lost → To (way e) k → ⊥
    lost_ends e k is to =
        let none : way Lost ≡ (0, 0) = elim (follows Lost) [ inl none ↦ none | inr all ↦ all ] in
        at_none (subst (λ (p : ℕ × ℕ). To p k) none (subst (λ (x : Entry). To (way x) k) is to))
      where
        at_none : To (0, 0) k → ⊥
        at_none (some, inl z) = omega arith
        at_none (some, inr z) = omega arith

    -- entry i is passed
    module _ (marks : List (Option ℕ)) (i : ℕ) (left : Near i (way (at es i)).0) (right : Near i (way (at es i)).1) (s : Spread marks i)
        (noted : (t b n : ℕ) → at es i ≡ Template t b n → AtMost (mark marks b) t) where
      passed_by : (o : Option ℕ) → mark marks i ≡ o → Spread (handed_on (way (at es i)) o marks) (i + 1)
      passed_by None is = record {
        long = s.long;
        real = s.real;
        bodies = λ j t c n lt q.
            elim (cases_lt j i) [
              | inl below ↦ s.bodies j t c n below q
              | inr above ↦ let e : j ≡ i = omega arith in noted t c n (rw e at q)
            ];
        went = λ j k t some lt to q.
            elim (cases_lt j i) [
              | inl below ↦ s.went j k t some below to q
              | inr above ↦
                  let e : j ≡ i = omega arith in
                  let no : None ≡ Some t = sym is ∙ sym (ap (mark marks) e) ∙ q in
                  cc
            ];
      }
      passed_by (Some here) is =
          let l = (way (at es i)).0 in
          let r = (way (at es i)).1 in
          let t₂ = lowered marks l here in
          let t₃ = lowered t₂ r here in
          let reached : (k : ℕ) → To (way (at es i)) k → Reached way es here k =
          λ k to.
          elim (cases_eq i 0) [
            | inl z ↦ absurd (lost_ends (at es i) k (ap (at es) z ∙ nowhere) to)
            | inr ne ↦ further i k (s.real here i (omega arith) is) to
          ] in
          let up_left : (l ≡ 0) ⊎ (i < l) = elim left [ inl z ↦ inl z | inr a ↦ inr a.0 ] in
          let up_right : (r ≡ 0) ⊎ (i < r) = elim right [ inl z ↦ inl z | inr a ↦ inr a.0 ] in
          let s₂ : Spread t₂ i = kept marks i l here s up_left (λ some. reached l (some, inl refl)) in
          let s₃ : Spread t₃ i = kept t₂ i r here s₂ up_right (λ some. reached r (some, inr refl)) in
          let a = lower marks l here in
          let b = lower t₂ r here in
          record {
            long = s₃.long;
            real = s₃.real;
            bodies = λ j t c n lt q.
                elim (cases_lt j i) [
                  | inl below ↦ s₃.bodies j t c n below q
                  | inr above ↦
                      let e : j ≡ i = omega arith in
                      b.less c t (a.less c t (noted t c n (rw e at q)))
                ];
            went = λ j k t some lt to q.
                elim (cases_lt j i) [
                  | inl below ↦ s₃.went j k t some below to q
                  | inr above ↦
                      let e : j ≡ i = omega arith in
                      let stays : mark t₃ i ≡ Some here =
                      b.other i (λ x. elim up_right [ inl z ↦ omega arith | inr g ↦ omega arith ])
                      ∙ a.other i (λ x. elim up_left [ inl z ↦ omega arith | inr g ↦ omega arith ]) ∙ is in
                      let told : Some here ≡ Some t = sym stays ∙ sym (ap (mark t₃) e) ∙ q in
                      let number : here ≡ t = cc in
                      let to' : To (way (at es i)) k = rw e at to in
                      let low : AtMost (mark t₃ k) here =
                      elim to'.1 [
                        | inl q ↦ let q' : k ≡ l = q in elim left [ inl z ↦ absurd (omega arith) | inr g ↦ subst (λ (x : ℕ). AtMost (mark t₃ x) here) (sym q') (b.less l here (a.here (omega (arith, s.long)))) ]
                        | inr q ↦ let q' : k ≡ r = q in elim right [ inl z ↦ absurd (omega arith) | inr g ↦ subst (λ (x : ℕ). AtMost (mark t₃ x) here) (sym q') (b.here (omega (arith, s₂.long))) ]
                      ] in
                      subst (AtMost (mark t₃ k)) number low
                ];
          }

      pub passed : Spread (handed_on (way (at es i)) (mark marks i) marks) (i + 1)
      passed = passed_by (mark marks i) refl

    -- all entries are passed
    pub all_passed : (marks : List (Option ℕ)) (i : ℕ) → length es ≤ i → Spread marks i → LowestReach way es marks
    all_passed marks i end s = record { real = s.real; least = least }
      where
        within : (j : ℕ) → (at es j ≡ Lost → ⊥) → j < i
        within j some = elim (cases_lt j i) [ inl lt ↦ lt | inr ge ↦ absurd (some (get_or_past es j Lost (omega arith))) ]

        least : (t k : ℕ) → Reached way es t k → AtMost (mark marks k) t
        least t k (at_body j b n is) = s.bodies j t b n (within j (λ lost. cc)) is
        least t k (further j x r to) =
            elim (cases_eq j 0) [
              | inl z ↦ absurd (lost_ends (at es j) k (ap (at es) z ∙ nowhere) to)
              | inr ne ↦ through (mark marks j) t (AtMost (mark marks k) t) (least t j r) (λ m is le. at_most_more (mark marks k) m t le (s.went j k m (omega arith) (within j (λ lost. lost_ends (at es j) k lost to)) to is))
            ]

-- what a mark tells of all templates that reach an entry
abbrev pub Under : ℕ → Option ℕ → Type 0
Under n o = IfSome o (λ m. n < m)

module _ (way : Entry → ℕ × ℕ) (es : List Entry) (marks : List (Option ℕ)) (reach : LowestReach way es marks) (i : ℕ) (some : 0 < i) where
  pub decides_unreached : (b : Bool) → is_some (mark marks i) ≡ not b → Decides b ((t : ℕ) → Reached way es t i → ⊥)
  decides_unreached b = by_mark (mark marks i) refl b
    where
      by_mark : (o : Option ℕ) → mark marks i ≡ o → (b : Bool) → is_some o ≡ not b → Decides b ((t : ℕ) → Reached way es t i → ⊥)
      by_mark None is true told = ((λ _ t r. subst (λ (o : Option ℕ). AtMost o t) is (reach.least t i r)), (λ _. refl))
      by_mark None is false told = absurd (false≢true told)
      by_mark (Some t) is true told = absurd (false≢true (sym told))
      by_mark (Some t) is false told = ((λ e. absurd (false≢true e)), (λ none. absurd (none t (reach.real t i some is))))

  pub decides_below : (n : ℕ) (b : Bool) → Decides b (Under n (mark marks i)) → Decides b ((t : ℕ) → Reached way es t i → n < t)
  decides_below n b = Decides-like b (λ under t r. below_by t (mark marks i) under (reach.least t i r)) (λ below. by_mark below (mark marks i) refl)
    where
      below_by : (t : ℕ) (o : Option ℕ) → Under n o → AtMost o t → n < t
      below_by t None under le = absurd le
      below_by t (Some m) under le = omega arith

      by_mark : ((t : ℕ) → Reached way es t i → n < t) → (o : Option ℕ) → mark marks i ≡ o → Under n o
      by_mark below None is = tt
      by_mark below (Some t) is = below t (reach.real t i some is)
