-- Small facts on conditionals, options and the parts of a list.
use Rattle.std.proofs.Common.{◌≡◌, Bool, true, false, cond, ◌⊎◌, List, [], ◌∷◌, Some, None, Option, sym, refl, ap, subst, inl, inr}
use mathlib.Core.List.{cons≢nil}
use Rattle.language.specs.Performing.{Parts, empty, to_left, to_right}

pub cond_case : {A : Type 0} (P : A → Type 0) (b : Bool) {x y : A} → (b ≡ true → P x) → (b ≡ false → P y) → P (cond b x y)
cond_case P true f g = f refl
cond_case P false f g = g refl

abbrev is_some : {A : Type 0} → Option A → Type 0
is_some None = ⊥
is_some (Some a) = Unit {0}

pub none_some : {A B : Type 0} {a : A} → None ≡ Some a → B
none_some {A} {B} {a} e = absurd (subst (λ (o : Option A). is_some o) (sym e) tt)

pub some_inj : {A : Type 0} {a b : A} → Some a ≡ Some b → a ≡ b
some_inj {A} {a} {b} e = ap (λ (o : Option A). elim o [ None ↦ a | Some x ↦ x ]) e

-- a list parts into itself and nothing, either way round
module _ {A : Type 0} where
  pub all_left : (xs : List A) → Parts xs [] xs
  all_left [] = empty
  all_left (x ∷ xs) = to_left (all_left xs)

  pub all_right : (xs : List A) → Parts [] xs xs
  all_right [] = empty
  all_right (x ∷ xs) = to_right (all_right xs)

  -- a side that is empty leaves all to the other
  pub left_empty : {xs ys zs : List A} → Parts xs ys zs → xs ≡ [] → ys ≡ zs
  left_empty empty e = refl
  left_empty (to_left p) e = absurd (cons≢nil e)
  left_empty (to_right {r = r} p) e = ap (λ (l : List A). r ∷ l) (left_empty p e)

  pub right_empty : {xs ys zs : List A} → Parts xs ys zs → ys ≡ [] → xs ≡ zs
  right_empty empty e = refl
  right_empty (to_left {r = r} p) e = ap (λ (l : List A). r ∷ l) (right_empty p e)
  right_empty (to_right p) e = absurd (cons≢nil e)

  -- the empty list has empty parts; a first record goes to one side
  pub parts_nil : {xs ys : List A} → Parts xs ys [] → (xs ≡ []) × (ys ≡ [])
  parts_nil empty = (refl, refl)

  pub parts_cons : {xs ys rs : List A} {r : A} → Parts xs ys (r ∷ rs)
      → ((xs' : List A) × (r ∷ xs' ≡ xs) × Parts xs' ys rs) ⊎ ((ys' : List A) × (r ∷ ys' ≡ ys) × Parts xs ys' rs)
  parts_cons (to_left p) = inl (_, refl, p)
  parts_cons (to_right p) = inr (_, refl, p)
