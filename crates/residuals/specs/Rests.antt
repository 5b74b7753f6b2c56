-- What is written for what a record leaves of a term, by the weights of its parts. Assumes nothing.
use Rattle.std.specs.Prelude.{◌≡◌, ℕ, ◌+◌, ◌<◌, ◌≤◌, List, length, Some, None, Option}
use Rattle.language.specs.Terms.{Term, nodes, both_of}
use Rattle.openings.specs.declared.shapes.Shape.{Shape}
use Rattle.openings.specs.Shapes.{size, tidied_choice, followed, by_sides, by_followed, both_shape}
use Rattle.openings.specs.Rounds.{of}
use Rattle.terms.specs.declared.nodes.Node.{Node}
use Rattle.terms.specs.declared.nodes.Node.TheVariants as node
use Rattle.terms.specs.Tables.{Wrote}
use Rattle.residuals.specs.declared.marks.Next.{Next}
use Rattle.residuals.specs.declared.marked.Marked.{Marked}
use Rattle.residuals.specs.declared.weights.Weight.{Weight}
use Rattle.residuals.specs.declared.weighed.Weighed.{Weighed}
use Rattle.residuals.specs.declared.rests.Side.{Side}
use Rattle.residuals.specs.declared.rests.Side.TheVariants as side
use Rattle.residuals.specs.declared.rests.Rest.{Rest}
use Rattle.residuals.specs.declared.rests.Rest.TheVariants as rest
use Rattle.residuals.specs.Marked.{file_of, Stands, mark_at, left}
use Rattle.residuals.specs.Weights.{weight_of, weight_in}

-- A term stands at a place, and the weights tell each of its parts.
pub record Ready (w : Weighed) (at : ℕ) : Type 0 where
  pub term : Term
  pub held : Stands w.marked at term
  pub told : (k : ℕ) (u : Term) → at ≤ k → k < at + nodes term → Stands w.marked k u → weight_in w.weights.now k ≡ weight_of w.marked k u

-- What is left of it.
abbrev pub left_of : {w : Weighed} {at : ℕ} → Ready w at → Term
left_of {w} {at} x = left w.marked at x.term

-- The place of a side, its term, and what it comes to.
abbrev pub place : Side → ℕ
place (side.Taken p) = p
place (side.Kept p) = p

abbrev pub side_term : {w : Weighed} (s : Side) → Ready w (place s) → Term
side_term (side.Taken p) x = left_of x
side_term (side.Kept p) x = x.term

abbrev pub side_shape : List Weight → Side → Shape
side_shape weights (side.Taken p) = (weight_in weights p).left
side_shape weights (side.Kept p) = (weight_in weights p).held

-- What is written for each sort of node.
abbrev pub leaf_rest : Option Next → Rest
leaf_rest None = rest.Lost
leaf_rest (Some next) = rest.Open next

abbrev pub choice_rest : List Weight → ℕ → ℕ → Rest
choice_rest ws l r = by_sides (rest.Only l) (rest.Only r) (rest.Choice l r) (tidied_choice (weight_in ws l).left (weight_in ws r).left)

abbrev pub both_rest : List Weight → ℕ → ℕ → Rest
both_rest ws l r =
    by_sides (rest.Both (side.Taken l) (side.Kept r)) (rest.Both (side.Kept l) (side.Taken r)) (rest.Either l r)
    (tidied_choice (both_shape (weight_in ws l).left (weight_in ws r).held) (both_shape (weight_in ws l).held (weight_in ws r).left))

abbrev pub follow_rest : Marked → Shape → Next → Rest
follow_rest m t next = by_followed rest.Lost (rest.Open next) (rest.Follow next) (rest.Skip next) (followed t (of m.openings.now.shapes next.clause))

-- Where the second of two parts stands.
abbrev pub second_at : List Weight → ℕ → ℕ
second_at ws at = at + 1 + size (weight_in ws (at + 1)).held

abbrev pub rest_by : Marked → List Weight → ℕ → Node → Rest
rest_by m ws at node.Lost = rest.Lost
rest_by m ws at node.Done = rest.Lost
rest_by m ws at (node.Leaf e row base) = leaf_rest (mark_at m at)
rest_by m ws at node.Choice = choice_rest ws (at + 1) (second_at ws at)
rest_by m ws at node.Both = both_rest ws (at + 1) (second_at ws at)
rest_by m ws at (node.Follow e row) = follow_rest m (weight_in ws (at + 1)).left (record { clause = e; row = row })

-- What is left of the term at a place is written, a side of a both is, and a both of two sides.
abbrev pub Builds : Weighed → ℕ → List Node → List Node → Type 0
Builds w at before after = (x : Ready w at) → Wrote (file_of w.marked) before after (left_of x)

abbrev pub BuildsSide : Weighed → Side → List Node → List Node → Type 0
BuildsSide w s before after = (x : Ready w (place s)) → Wrote (file_of w.marked) before after (side_term s x)

abbrev pub BuildsBoth : Weighed → Side → Side → List Node → List Node → Type 0
BuildsBoth w l r before after =
    (x : Ready w (place l)) (y : Ready w (place r)) → Wrote (file_of w.marked) before after (both_of (side_term l x) (side_term r y))

-- Behind some nodes there is room for something that comes to this.
abbrev pub HasRoom : List Node → Shape → Type 0
HasRoom ns s = length ns + size s ≤ 256
