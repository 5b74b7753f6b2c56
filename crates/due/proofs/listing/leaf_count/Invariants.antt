use Rattle.std.proofs.Common.{◌≡◌, take, count_by}
use Rattle.due.specs.Items.{is_leaf}
use Rattle.due.proofs.listing.leaf_count.Given as goal

abbrev pub invariant-loop-node : goal.invariant-loop-node
invariant-loop-node l = l.count ≡ count_by is_leaf (take l.node-index l.nodes)
