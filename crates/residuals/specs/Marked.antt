-- What a record's marks leave of a term that stands in a table. Assumes nothing.
use Rattle.std.specs.Prelude.{ℕ, ◌+◌, List, Some, None, Option, slice_index_or}
use Rattle.language.specs.Terms.{Term, Done, Lost, Leaf, Choice, Both, Follow, nodes, choice_of, both_of, then_of, opened}
use Rattle.contract_file.specs.declared.files.File.{File}
use Rattle.openings.specs.declared.shapes.Shape.{Shape}
use Rattle.openings.specs.Clauses.{clause_at, templates_of}
use Rattle.openings.specs.Shapes.{lost_shape}
use Rattle.openings.specs.Rounds.{of}
use Rattle.terms.specs.declared.nodes.Node.{Node}
use Rattle.terms.specs.Tables.{Holds}
use Rattle.residuals.specs.declared.marks.Next.{Next}
use Rattle.residuals.specs.declared.marked.Marked.{Marked}

abbrev pub file_of : Marked → File
file_of m = m.openings.now.read.file

abbrev pub nodes_of : Marked → List Node
nodes_of m = m.nodes.now

-- A term stands in the table, from a place on.
abbrev pub Stands : Marked → ℕ → Term → Type 0
Stands m at t = Holds (file_of m) (nodes_of m) at t

abbrev pub mark_at : Marked → ℕ → Option Next
mark_at m at = slice_index_or m.marks.now at None

-- What opens next, on the record's day: lost where nothing does.
abbrev pub opened_if : Marked → Option Next → Term
opened_if m None = Lost
opened_if m (Some next) = opened (templates_of (file_of m)) (clause_at (file_of m) next.clause) next.row m.day

-- What it comes to.
abbrev pub shape_if : Marked → Option Next → Shape
shape_if m None = lost_shape
shape_if m (Some next) = of m.openings.now.shapes next.clause

-- What the marks leave of a term that stands at a place.
unfoldable pub left : Marked → ℕ → Term → Term
left m at Done = Lost
left m at Lost = Lost
left m at (Leaf e w cs tail row base) = opened_if m (mark_at m at)
left m at (Choice a b) = choice_of (left m (at + 1) a) (left m (at + 1 + nodes a) b)
left m at (Both a b) = choice_of (both_of (left m (at + 1) a) b) (both_of a (left m (at + 1 + nodes a) b))
left m at (Follow t c row) =
    let again : Term = opened (templates_of (file_of m)) c row m.day in
    then_of (left m (at + 1) t) c row again
