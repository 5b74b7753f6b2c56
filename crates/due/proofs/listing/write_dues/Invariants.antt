use Rattle.std.proofs.Common.{length}
use Rattle.std.specs.List.{filter_map}
use Rattle.due.specs.Items.{node_due}
use Rattle.due.proofs.Writing.{SoFar}
use Rattle.due.proofs.listing.write_dues.Given as goal

abbrev pub invariant-loop-leaf : goal.invariant-loop-leaf
invariant-loop-leaf l = SoFar (filter_map (node_due l.file) l.nodes) l.initial.list (length l.yielded) l.list
