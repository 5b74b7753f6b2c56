-- Items written one behind the other.
use Rattle.std.proofs.Common.{◌≡◌, ℕ, ◌+◌, ◌*◌, ◌<◌, ◌≤◌, List, [], ◌∷◌, ◌++◌, length, get_or, take, drop, set, sym, refl, ap, ◌∙◌, ap₂, arith}
use Rattle.std.specs.List.{flat_map, enumerate_from}
use Rattle.std.proofs.lemmas.List.{take_all, take_more, take-append-drop, drop-drop}
use Rattle.std.proofs.lemmas.List.FromFn.{length-enumerate_from, get_or-enumerate_from}
use Rattle.std.proofs.lemmas.Grind.{flat_map-append}
use Rattle.std.proofs.lemmas.Slice.{take-put_mid, drop-put_mid}
use borrow.Rule.Slice.PartMut.{put_mid}
use Rattle.due.specs.Items.{Item, numbers, over}

-- three numbers for each item
pub numbers_long : (xs : List Item) → length (flat_map numbers xs) ≡ 3 * length xs
numbers_long [] = refl
numbers_long (x ∷ xs) = omega (arith, numbers_long xs)

-- an item in a part of its length
pub filled : (part : List ℕ) (x : Item) → length part ≡ 3 → set (set (set part 0 x.0) 1 x.1) 2 x.2 ≡ numbers x
filled [] x long = absurd (omega arith)
filled (a ∷ []) x long = absurd (omega arith)
filled (a ∷ b ∷ []) x long = absurd (omega arith)
filled (a ∷ b ∷ c ∷ []) x long = refl
filled (a ∷ b ∷ c ∷ d ∷ l) x long = absurd (omega arith)

-- an item that is counted stands at its number
pub record Stands (dues : List Item) (i leaf : ℕ) (due : Item) : Type 0 where
  pub within : i < length dues
  pub at : leaf ≡ i
  pub is : due ≡ get_or dues i due

pub stands : (dues : List Item) (i : ℕ) (x : ℕ × Item) → (i < length (enumerate_from 0 dues)) × (x ≡ get_or (enumerate_from 0 dues) i x) → Stands dues i x.0 x.1
stands dues i x h =
    let within : i < length dues = omega (arith, length-enumerate_from 0 dues) in
    let e : x ≡ (0 + i, get_or dues i x.1) = h.1 ∙ get_or-enumerate_from 0 dues i x within in
    let at : x.0 ≡ 0 + i = ap {A = ℕ × Item} (λ p. p.0) e in
    record { within = within; at = omega arith; is = ap {A = ℕ × Item} (λ p. p.1) e }

module _ (dues : List Item) (before : List ℕ) where
  -- what the list holds after some of the items
  pub record SoFar (i : ℕ) (list : List ℕ) : Type 0 where
    pub front : take (3 * i) list ≡ flat_map numbers (take i dues)
    pub rest : drop (3 * i) list ≡ drop (3 * i) before

  -- one item more
  pub one_more : (i j place k : ℕ) (list new : List ℕ) (d : Item) → i < length dues → j ≡ i + 1 → place ≡ 3 * i → 3 * i + 3 ≤ length list → k ≡ 3 → new ≡ numbers (get_or dues i d) → SoFar i list
      → SoFar j (put_mid place k list new)
  one_more i j place k list new d more next at room three is so =
      let long : length new ≡ 3 = ap length is in
      let again = λ (xs : List ℕ). sym (ap (λ n. drop n xs) (let e : 3 * i + 3 ≡ 3 * j = omega arith in e)) in
      record {
        front =
            take-put_mid place k list new (3 * j) (omega arith) (omega arith) ∙ ap₂ ◌++◌ (ap (λ n. take n list) at ∙ so.front) is
            ∙ sym (ap (λ n. flat_map numbers (take n dues)) next ∙ ap (flat_map numbers) (take_more dues i d more) ∙ flat_map-append numbers (take i dues) (get_or dues i d ∷ []));
        rest =
            drop-put_mid place k list new (3 * j) (omega arith) (omega arith) (omega arith)
            ∙ again list ∙ sym (drop-drop 3 (3 * i) list) ∙ ap (drop 3) so.rest ∙ drop-drop 3 (3 * i) before ∙ sym (again before);
      }

  -- all of them
  pub all_written : (i : ℕ) (list : List ℕ) → i ≡ length dues → SoFar i list → list ≡ over (flat_map numbers dues) before
  all_written i list end so =
      let all : take i dues ≡ dues = take_all i dues (omega arith) in
      let long : length (flat_map numbers dues) ≡ 3 * i = omega (arith, numbers_long dues) in
      sym (take-append-drop (3 * i) list) ∙ ap₂ ◌++◌ (so.front ∙ ap (flat_map numbers) all) so.rest ∙ ap (λ n. flat_map numbers dues ++ drop n before) (sym long)
