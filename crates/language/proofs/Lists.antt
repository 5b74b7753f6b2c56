-- Lists of records in order: parts, fronts and merges.
use Rattle.std.proofs.Common.{◌≡◌, ℕ, ◌≤◌, max, List, [], ◌∷◌, ◌++◌, refl, arith}
use native.Mathlib.Decide.{dec_le}
use Rattle.kinds.specs.Meaning.{Meaning}
use Rattle.language.specs.Performing.{Parts, empty, to_left, to_right, end, InOrder}
use Rattle.language.proofs.Basics.{all_left, all_right}

module _ {R : Type 0} (K : Meaning R) where
  pub from_earlier : (b c : ℕ) (rs : List R) → b ≤ c → InOrder K c rs → InOrder K b rs
  from_earlier b c [] h o = tt
  from_earlier b c (r ∷ rs) h o = (omega arith, o.1, o.2, o.3)

  pub end_mono : (b c : ℕ) (rs : List R) → b ≤ c → end K b rs ≤ end K c rs
  end_mono b c [] h = h
  end_mono b c (r ∷ rs) h = omega arith

  pub end_from : (b : ℕ) (rs : List R) → InOrder K b rs → b ≤ end K b rs
  end_from b [] o = omega arith
  end_from b (r ∷ rs) o = omega (arith, end_from (K.day r) rs o.3)

  pub end_in_time : (b : ℕ) (rs : List R) → b ≤ 65535 → InOrder K b rs → end K b rs ≤ 65535
  end_in_time b [] h o = h
  end_in_time b (r ∷ rs) h o = end_in_time (K.day r) rs o.1 o.3

  pub end_append : (b : ℕ) (front rest : List R) → end K b (front ++ rest) ≡ end K (end K b front) rest
  end_append b [] rest = refl
  end_append b (r ∷ front) rest = end_append (K.day r) front rest

  pub in_order_front : (b : ℕ) (front rest : List R) → InOrder K b (front ++ rest) → InOrder K b front
  in_order_front b [] rest o = tt
  in_order_front b (r ∷ front) rest o = (o.0, o.1, o.2, in_order_front (K.day r) front rest o.3)

  pub in_order_rest : (b : ℕ) (front rest : List R) → InOrder K b (front ++ rest) → InOrder K (end K b front) rest
  in_order_rest b [] rest o = o
  in_order_rest b (r ∷ front) rest o = in_order_rest (K.day r) front rest o.3

  pub in_order_append : (b : ℕ) (front rest : List R) → InOrder K b front → InOrder K (end K b front) rest → InOrder K b (front ++ rest)
  in_order_append b [] rest o p = p
  in_order_append b (r ∷ front) rest o p = (o.0, o.1, o.2, in_order_append (K.day r) front rest o.3 p)

  -- the two parts of a list in order
  pub in_order_parts : {xs ys zs : List R} → Parts xs ys zs → (b : ℕ) → InOrder K b zs → InOrder K b xs × InOrder K b ys
  in_order_parts empty b o = (tt, tt)
  in_order_parts (to_left {r = r} {ys = ys} p) b o =
      let h = in_order_parts p (K.day r) o.3 in ((o.0, o.1, o.2, h.0), from_earlier b (K.day r) ys o.0 h.1)
  in_order_parts (to_right {r = r} {xs = xs} p) b o =
      let h = in_order_parts p (K.day r) o.3 in (from_earlier b (K.day r) xs o.0 h.0, (o.0, o.1, o.2, h.1))

  pub end_parts : {xs ys zs : List R} → Parts xs ys zs → (b : ℕ) → InOrder K b zs → (end K b xs ≤ end K b zs) × (end K b ys ≤ end K b zs)
  end_parts empty b o = (omega arith, omega arith)
  end_parts (to_left {r = r} {ys = ys} p) b o =
      let h = end_parts p (K.day r) o.3 in (h.0, omega (arith, end_mono b (K.day r) ys o.0))
  end_parts (to_right {r = r} {xs = xs} p) b o =
      let h = end_parts p (K.day r) o.3 in (omega (arith, end_mono b (K.day r) xs o.0), h.1)

  -- two lists in order merge into one
  abbrev pub Merged : List R → List R → ℕ → Type 0
  Merged xs ys c = (zs : List R) × Parts xs ys zs × InOrder K c zs × (end K c zs ≡ max (end K c xs) (end K c ys))

  merge_head : (x : R) (xs : List R) → ((ys : List R) (c : ℕ) → InOrder K c xs → InOrder K c ys → Merged xs ys c)
      → (ys : List R) (c : ℕ) → InOrder K c (x ∷ xs) → InOrder K c ys → Merged (x ∷ xs) ys c
  merge_head x xs rec [] c o p = (x ∷ xs, all_left (x ∷ xs), o, omega (arith, end_from c (x ∷ xs) o))
  merge_head x xs rec (y ∷ ys) c o p =
      elim (dec_le (K.day x) (K.day y)) [
        | yes h ↦ (let (zs, q, s, e) = rec (y ∷ ys) (K.day x) o.3 (h, p.1, p.2, p.3) in (x ∷ zs, to_left q, (o.0, o.1, o.2, s), e))
        | no h ↦ (let (zs, q, s, e) = merge_head x xs rec ys (K.day y) (omega arith, o.1, o.2, o.3) p.3 in (y ∷ zs, to_right q, (p.0, p.1, p.2, s), e))
      ]

  pub merge : (xs ys : List R) (c : ℕ) → InOrder K c xs → InOrder K c ys → Merged xs ys c
  merge [] ys c o p = (ys, all_right ys, p, omega (arith, end_from c ys p))
  merge (x ∷ xs) ys c o p = merge_head x xs (merge xs) ys c o p
