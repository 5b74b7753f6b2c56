-- What a term comes to: its size held at 257, whether it is lost or done, and whether it may end. Assumes nothing.
use Rattle.std.specs.Prelude.{◌≡◌, ℕ, ◌+◌, min, Bool, true, false, cond, ◌&&◌, ◌||◌, List, map, slice_index_or, Some, None, Option}
use Rattle.std.specs.List.{range_with_len}
use Rattle.kinds.specs.Rows.{Row, zeros}
use Rattle.language.specs.Terms.{Term, nodes, is_lost, is_done, may_end, open_call, opened}
use Rattle.contract_file.specs.declared.files.File.{File}
use Rattle.openings.specs.declared.shapes.Shape.{Shape}
use Rattle.openings.specs.declared.shapes.Shape.TheVariants.{Lost, Done, Open}
use Rattle.openings.specs.declared.shapes.Tidied.{Tidied}
use Rattle.openings.specs.declared.shapes.Tidied.TheVariants.{Left, Right, Whole}
use Rattle.openings.specs.declared.shapes.Followed.{Followed}
use Rattle.openings.specs.declared.shapes.Followed.TheVariants.{Clause, Follow, Skip}
use Rattle.openings.specs.Clauses.{clause_at, templates_of}

abbrev pub shape_of : Term → Shape
shape_of t = cond (is_lost t) Lost (cond (is_done t) Done (Open (min (nodes t) 257) (may_end t)))

-- what a shape tells
abbrev pub size : Shape → ℕ
size Lost = 1
size Done = 1
size (Open n e) = n

abbrev pub lost : Shape → Bool
lost Lost = true
lost Done = false
lost (Open n e) = false

abbrev pub done : Shape → Bool
done Lost = false
done Done = true
done (Open n e) = false

abbrev pub ends : Shape → Bool
ends Lost = false
ends Done = true
ends (Open n e) = e

abbrev pub lost_shape : Shape
lost_shape = Lost

abbrev pub done_shape : Shape
done_shape = Done

abbrev pub leaf_shape : Shape
leaf_shape = Open 1 false

abbrev pub choice_node : Shape → Shape → Shape
choice_node l r = Open (min (1 + size l + size r) 257) (ends l || ends r)

abbrev pub both_node : Shape → Shape → Shape
both_node l r = Open (min (1 + size l + size r) 257) (ends l && ends r)

abbrev pub follow_node : Shape → Shape
follow_node t = Open (min (1 + size t) 257) false

-- what tidying leaves, as of terms; none is lost
abbrev pub tidied_choice : Shape → Shape → Tidied
tidied_choice l r = cond (lost l) Right (cond (lost r) Left Whole)

abbrev pub tidied_both : Shape → Shape → Option Tidied
tidied_both l r = cond (lost l || lost r) None (cond (done l) (Some Right) (cond (done r) (Some Left) (Some Whole)))

abbrev pub followed : Shape → Shape → Option Followed
followed t o =
    cond (ends t)
    (cond (done t || lost t) (Some Clause) (cond (lost o) (Some Follow) (Some Skip)))
    (cond (done t || lost t) None (Some Follow))

-- one of these, by what is left
module _ {A : Type 0} where
  abbrev pub by_sides : (left right whole : A) → Tidied → A
  by_sides left right whole Left = left
  by_sides left right whole Right = right
  by_sides left right whole Whole = whole

  abbrev pub by_both : (lost left right whole : A) → Option Tidied → A
  by_both lost left right whole None = lost
  by_both lost left right whole (Some t) = by_sides left right whole t

  abbrev pub by_followed : (lost clause follow skip : A) → Option Followed → A
  by_followed lost clause follow skip None = lost
  by_followed lost clause follow skip (Some Clause) = clause
  by_followed lost clause follow skip (Some Follow) = follow
  by_followed lost clause follow skip (Some Skip) = skip

-- tidied
abbrev pub choice_shape : Shape → Shape → Shape
choice_shape l r = by_sides l r (choice_node l r) (tidied_choice l r)

abbrev pub both_shape : Shape → Shape → Shape
both_shape l r = by_both lost_shape l r (both_node l r) (tidied_both l r)

abbrev pub follow_shape : Shape → Shape
follow_shape t = cond (done t || lost t) lost_shape (follow_node t)

abbrev pub then_shape : Shape → Shape → Shape
then_shape t o = by_followed lost_shape o (follow_node t) (choice_node (follow_node t) o) (followed t o)

-- What the file's entries open to, from zeros on day 0; place 0 is no entry's.
unfoldable pub openings_of : File → List Shape
openings_of f = map (λ i. shape_of (opened (templates_of f) (clause_at f i) zeros 0)) (range_with_len 0 257)

-- The same from any row and on any day: the table tells of each.
abbrev pub Known : File → List Shape → Type 0
Known f shapes = (i : ℕ) (row : Row) (base : ℕ) → slice_index_or shapes i lost_shape ≡ shape_of (opened (templates_of f) (clause_at f i) row base)

-- What templates open to, where calls stand at most n deep.
abbrev pub KnownCalls : File → ℕ → List Shape → Type 0
KnownCalls f n calls = (k : ℕ) (row : Row) (base : ℕ) → slice_index_or calls k lost_shape ≡ shape_of (open_call (templates_of f) n k row base)
