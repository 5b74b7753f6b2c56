use Rattle.std.proofs.Common.{◌-◌, length}
use Rattle.terms.proofs.nodes.+end_of.Given as goal

abbrev pub decreases-end_of : goal.decreases-end_of
decreases-end_of l = length l.nodes.now - l.at
