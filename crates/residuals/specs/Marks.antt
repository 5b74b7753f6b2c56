-- What a record makes of the leaves of a term, by what its kind means. Assumes nothing.
use Rattle.std.specs.Prelude.{ℕ, Some, None, Option}
use Rattle.kinds.specs.Rows.{Row}
use Rattle.kinds.specs.Meaning.{Meaning}
use Rattle.language.specs.Residuals.{met_row}
use Rattle.days.specs.Windows.{meant}
use Rattle.entries.specs.declared.entries.Entry.{Entry}
use Rattle.entries.specs.declared.entries.Entry.TheVariants as entries
use Rattle.entries.specs.Parts.{at}
use Rattle.contract_file.specs.declared.files.File.{File}
use Rattle.openings.specs.Clauses.{conditions_at}
use Rattle.terms.specs.declared.nodes.Node.{Node}
use Rattle.terms.specs.declared.nodes.Node.TheVariants as node
use Rattle.residuals.specs.declared.marks.Next.{Next}

-- A clause goes on from the row that results, if there is one.
abbrev pub next_from : ℕ → Option Row → Option Next
next_from tail None = None
next_from tail (Some row) = Some (record { clause = tail; row = row })

module _ {R : Type 0} (K : Meaning R) (f : File) (r : R) where
  -- A leaf with a row and a base, whose step is this entry. What is no step is not met.
  abbrev pub leaf_mark : Row → ℕ → Entry → Option Next
  leaf_mark row base entries.Lost = None
  leaf_mark row base entries.Done = None
  leaf_mark row base (entries.Step w tail conditions) = next_from tail (met_row K (meant w) (conditions_at f conditions) row base r)
  leaf_mark row base (entries.Choice left right) = None
  leaf_mark row base (entries.Both left right) = None
  leaf_mark row base (entries.Then left right) = None
  leaf_mark row base (entries.Call template arguments) = None
  leaf_mark row base (entries.Template number body next) = None
  leaf_mark row base (entries.Condition field test next) = None
  leaf_mark row base (entries.Argument slot value next) = None

  -- Only leaves are met.
  abbrev pub mark_of : Node → Option Next
  mark_of node.Lost = None
  mark_of node.Done = None
  mark_of (node.Leaf step row base) = leaf_mark row base (at f.entries step)
  mark_of node.Choice = None
  mark_of node.Both = None
  mark_of (node.Follow clause row) = None
