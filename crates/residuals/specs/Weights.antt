-- What a term and what is left of it come to. Assumes nothing.
use Rattle.std.specs.Prelude.{◌≡◌, ℕ, ◌+◌, ◌<◌, ◌≤◌, List, slice_index_or}
use Rattle.language.specs.Terms.{Term, nodes}
use Rattle.openings.specs.declared.shapes.Shape.{Shape}
use Rattle.openings.specs.Shapes.{shape_of, lost_shape, done_shape, leaf_shape, choice_node, both_node, follow_node, choice_shape, both_shape, then_shape}
use Rattle.residuals.specs.declared.weights.Weight.{Weight}
use Rattle.residuals.specs.declared.marked.Marked.{Marked}
use Rattle.residuals.specs.Marked.{Stands, left}

-- The weight of a term that stands at a place.
abbrev pub weight_of : Marked → ℕ → Term → Weight
weight_of m at t = record { held = shape_of t; left = shape_of (left m at t) }

-- The weight of each sort of node, by the weights of its parts.
abbrev pub unmet_weight : Shape → Weight
unmet_weight held = record { held = held; left = lost_shape }

abbrev pub lost_weight : Weight
lost_weight = unmet_weight lost_shape

abbrev pub done_weight : Weight
done_weight = unmet_weight done_shape

abbrev pub leaf_weight : Shape → Weight
leaf_weight o = record { held = leaf_shape; left = o }

abbrev pub choice_weight : Weight → Weight → Weight
choice_weight l r = record { held = choice_node l.held r.held; left = choice_shape l.left r.left }

abbrev pub both_weight : Weight → Weight → Weight
both_weight l r = record { held = both_node l.held r.held; left = choice_shape (both_shape l.left r.held) (both_shape l.held r.left) }

abbrev pub follow_weight : Weight → Shape → Weight
follow_weight t o = record { held = follow_node t.held; left = then_shape t.left o }

abbrev pub weight_in : List Weight → ℕ → Weight
weight_in weights k = slice_index_or weights k lost_weight

-- From a place up to an end the table tells the weight of each term that stands there, and below the place it is as it was; of a
-- term that stands at the place itself this is the weight, and this the end.
pub record Weighs (m : Marked) (at end : ℕ) (w : Weight) (old new : List Weight) : Type 0 where
  pub ends : (t : Term) → Stands m at t → end ≡ at + nodes t
  pub root : (t : Term) → Stands m at t → w ≡ weight_of m at t
  pub kept : (k : ℕ) → k < at → weight_in new k ≡ weight_in old k
  pub told : (k : ℕ) (u : Term) → at ≤ k → k < end → Stands m k u → weight_in new k ≡ weight_of m k u
