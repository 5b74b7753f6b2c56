-- A table that takes over a term if it fits. Assumes nothing.
use Rattle.std.specs.Prelude.{◌≡◌, ◌<◌, ◌≤◌, List, Ok, Err, Result}
use Rattle.language.specs.Terms.{Term, nodes}
use Rattle.contract_file.specs.declared.files.File.{File}
use Rattle.terms.specs.declared.nodes.Node.{Node}
use Rattle.terms.specs.declared.too_large.TooLarge.{TooLarge}
use Rattle.terms.specs.Tables.{Whole}

-- A term of at most 256 nodes is what the nodes hold after, and nothing else; a larger one is refused, and the nodes are as they were.
pub record Replaced (f : File) (t : Term) (before after : List Node) (r : Result (Unit {0}) TooLarge) : Type 0 where
  pub fits : nodes t ≤ 256 → (r ≡ Ok tt) × Whole f after t
  pub large : 256 < nodes t → (r ≡ Err (record {})) × (after ≡ before)
