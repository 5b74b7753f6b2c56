use Rattle.terms.proofs.Walks.{listed_links}
use Rattle.terms.proofs.filling.filled.Goals as goal

pub loop-slot-init : goal.loop-slot-init
loop-slot-init c = let all = listed_links c.args.file.now 8 c.args.first in cc
