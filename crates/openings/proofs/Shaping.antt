-- What a shape tells of a term, and a tidied node's shape, made of the shapes of its parts.
use Rattle.std.proofs.Common.{◌≡◌, Bool, true, false, cond, min, ◌||◌, ◌&&◌, refl, sym, ap, ◌∙◌, ap₂, arith, Some, None, Option}
use Rattle.kinds.specs.Rows.{Row}
use Rattle.language.specs.Clauses.{Clause}
use Rattle.language.specs.Terms.{Term, Done, Lost, Leaf, Choice, Both, Follow, nodes, is_lost, is_done, may_end, choice_of, both_of, follow_of, then_of}
use Rattle.std.proofs.lemmas.Bool.{cond_both}
use Rattle.openings.specs.declared.shapes.Shape.{Shape}
use Rattle.openings.specs.declared.shapes.Shape.TheVariants as shape
use Rattle.openings.specs.declared.shapes.Tidied.{Tidied}
use Rattle.openings.specs.declared.shapes.Tidied.TheVariants as tidied
use Rattle.openings.specs.declared.shapes.Followed.{Followed}
use Rattle.openings.specs.declared.shapes.Followed.TheVariants as follows
use Rattle.openings.specs.Shapes.{shape_of, size, lost, done, ends, lost_shape, choice_node, both_node, follow_node, tidied_choice, tidied_both, followed, by_sides, by_both, by_followed, choice_shape, both_shape, follow_shape, then_shape}

pub lost_is : (t : Term) → lost (shape_of t) ≡ is_lost t
lost_is Done = refl
lost_is Lost = refl
lost_is (Leaf e w cs tail row base) = refl
lost_is (Choice l r) = refl
lost_is (Both l r) = refl
lost_is (Follow t c row) = refl

pub done_is : (t : Term) → done (shape_of t) ≡ is_done t
done_is Done = refl
done_is Lost = refl
done_is (Leaf e w cs tail row base) = refl
done_is (Choice l r) = refl
done_is (Both l r) = refl
done_is (Follow t c row) = refl

pub ends_is : (t : Term) → ends (shape_of t) ≡ may_end t
ends_is Done = refl
ends_is Lost = refl
ends_is (Leaf e w cs tail row base) = refl
ends_is (Choice l r) = refl
ends_is (Both l r) = refl
ends_is (Follow t c row) = refl

pub size_is : (t : Term) → size (shape_of t) ≡ min (nodes t) 257
size_is Done = refl
size_is Lost = refl
size_is (Leaf e w cs tail row base) = refl
size_is (Choice l r) = refl
size_is (Both l r) = refl
size_is (Follow t c row) = refl

shape_cond : (b : Bool) (x y : Term) → shape_of (cond b x y) ≡ cond b (shape_of x) (shape_of y)
shape_cond true x y = refl
shape_cond false x y = refl

pub choice_node_is : (l r : Term) → shape_of (Choice l r) ≡ choice_node (shape_of l) (shape_of r)
choice_node_is l r = ap₂ shape.Open (omega (arith, size_is l, size_is r)) (sym (ap₂ ◌||◌ (ends_is l) (ends_is r)))

pub both_node_is : (l r : Term) → shape_of (Both l r) ≡ both_node (shape_of l) (shape_of r)
both_node_is l r = ap₂ shape.Open (omega (arith, size_is l, size_is r)) (sym (ap₂ ◌&&◌ (ends_is l) (ends_is r)))

pub follow_node_is : (t : Term) (c : Clause) (row : Row) → shape_of (Follow t c row) ≡ follow_node (shape_of t)
follow_node_is t c row = ap (λ n. shape.Open n false) (omega (arith, size_is t))

pub follow_shape_is : (t : Term) (c : Clause) (row : Row) → shape_of (follow_of t c row) ≡ follow_shape (shape_of t)
unfolding follow_of
follow_shape_is t c row =
    rw (lost_is t, done_is t) (shape_cond (is_done t || is_lost t) Lost (Follow t c row) ∙ ap (cond (is_done t || is_lost t) lost_shape) (follow_node_is t c row))

-- what tidying leaves of two terms, by their shapes
module _ (l r : Term) where
  abbrev pub ChoiceLeaves : Tidied → Type 0
  ChoiceLeaves tidied.Left = choice_of l r ≡ l
  ChoiceLeaves tidied.Right = choice_of l r ≡ r
  ChoiceLeaves tidied.Whole = choice_of l r ≡ Choice l r

  abbrev pub BothLeaves : Option Tidied → Type 0
  BothLeaves None = both_of l r ≡ Lost
  BothLeaves (Some tidied.Left) = both_of l r ≡ l
  BothLeaves (Some tidied.Right) = both_of l r ≡ r
  BothLeaves (Some tidied.Whole) = both_of l r ≡ Both l r

  module _ (a b : Shape) (p : a ≡ shape_of l) (q : b ≡ shape_of r) where
    gone_l : is_lost l ≡ lost a
    gone_l = sym (ap lost p ∙ lost_is l)

    gone_r : is_lost r ≡ lost b
    gone_r = sym (ap lost q ∙ lost_is r)

    gone : (is_lost l || is_lost r) ≡ (lost a || lost b)
    gone = ap₂ ◌||◌ gone_l gone_r

    done_l : is_done l ≡ done a
    done_l = sym (ap done p ∙ done_is l)

    done_r : is_done r ≡ done b
    done_r = sym (ap done q ∙ done_is r)

    pub choice_leaves : ChoiceLeaves (tidied_choice a b)
    unfolding choice_of
    choice_leaves =
        cond_both (lost a) _ _ ChoiceLeaves
        (λ e. rw (gone_l ∙ e))
        (λ e. cond_both (lost b) _ _ ChoiceLeaves
        (λ g. rw (gone_l ∙ e, gone_r ∙ g))
        (λ g. rw (gone_l ∙ e, gone_r ∙ g)))

    pub both_leaves : BothLeaves (tidied_both a b)
    unfolding both_of
    both_leaves =
        cond_both (lost a || lost b) _ _ BothLeaves
        (λ e. rw (gone ∙ e))
        (λ e. cond_both (done a) _ _ BothLeaves
        (λ g. rw (gone ∙ e, done_l ∙ g))
        (λ g. cond_both (done b) _ _ BothLeaves
        (λ h. rw (gone ∙ e, done_l ∙ g, done_r ∙ h))
        (λ h. rw (gone ∙ e, done_l ∙ g, done_r ∙ h))))

  pub choice_shape_is : shape_of (choice_of l r) ≡ choice_shape (shape_of l) (shape_of r)
  choice_shape_is = by _ (choice_leaves _ _ refl refl)
    where
      by : (k : Tidied) → ChoiceLeaves k → shape_of (choice_of l r) ≡ by_sides (shape_of l) (shape_of r) (choice_node (shape_of l) (shape_of r)) k
      by tidied.Left e = ap shape_of e
      by tidied.Right e = ap shape_of e
      by tidied.Whole e = ap shape_of e ∙ choice_node_is l r

  pub both_shape_is : shape_of (both_of l r) ≡ both_shape (shape_of l) (shape_of r)
  both_shape_is = by _ (both_leaves _ _ refl refl)
    where
      by : (k : Option Tidied) → BothLeaves k → shape_of (both_of l r) ≡ by_both lost_shape (shape_of l) (shape_of r) (both_node (shape_of l) (shape_of r)) k
      by None e = ap shape_of e
      by (Some tidied.Left) e = ap shape_of e
      by (Some tidied.Right) e = ap shape_of e
      by (Some tidied.Whole) e = ap shape_of e ∙ both_node_is l r

-- and of a term with a clause behind it
module _ (t : Term) (c : Clause) (row : Row) (o : Term) where
  abbrev pub ThenLeaves : Option Followed → Type 0
  ThenLeaves None = then_of t c row o ≡ Lost
  ThenLeaves (Some follows.Clause) = then_of t c row o ≡ o
  ThenLeaves (Some follows.Follow) = then_of t c row o ≡ Follow t c row
  ThenLeaves (Some follows.Skip) = then_of t c row o ≡ Choice (Follow t c row) o

  pub then_leaves : (a b : Shape) → a ≡ shape_of t → b ≡ shape_of o → ThenLeaves (followed a b)
  unfolding then_of follow_of choice_of
  then_leaves a b p q =
      let ends_t : may_end t ≡ ends a = sym (ap ends p ∙ ends_is t) in
      let empty : (is_done t || is_lost t) ≡ (done a || lost a) = ap₂ ◌||◌ (sym (ap done p ∙ done_is t)) (sym (ap lost p ∙ lost_is t)) in
      let gone_o : is_lost o ≡ lost b = sym (ap lost q ∙ lost_is o) in
      cond_both (ends a) _ _ ThenLeaves
      (λ e. cond_both (done a || lost a) _ _ ThenLeaves
      (λ g. rw (ends_t ∙ e, empty ∙ g))
      (λ g. cond_both (lost b) _ _ ThenLeaves
      (λ h. rw (ends_t ∙ e, empty ∙ g, gone_o ∙ h))
      (λ h. rw (ends_t ∙ e, empty ∙ g, gone_o ∙ h))))
      (λ e. cond_both (done a || lost a) _ _ ThenLeaves
      (λ g. rw (ends_t ∙ e, empty ∙ g))
      (λ g. rw (ends_t ∙ e, empty ∙ g)))

  pub then_shape_is : shape_of (then_of t c row o) ≡ then_shape (shape_of t) (shape_of o)
  then_shape_is = by _ (then_leaves _ _ refl refl)
    where
      by : (k : Option Followed) → ThenLeaves k
          → shape_of (then_of t c row o) ≡ by_followed lost_shape (shape_of o) (follow_node (shape_of t)) (choice_node (follow_node (shape_of t)) (shape_of o)) k
      by None e = ap shape_of e
      by (Some follows.Clause) e = ap shape_of e
      by (Some follows.Follow) e = ap shape_of e ∙ follow_node_is t c row
      by (Some follows.Skip) e =
          ap shape_of e ∙ choice_node_is (Follow t c row) o ∙ ap (λ s. choice_node s (shape_of o)) (follow_node_is t c row)
