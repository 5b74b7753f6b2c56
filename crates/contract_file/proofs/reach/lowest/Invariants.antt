use Rattle.contract_file.proofs.Spreading.{Spread}
use Rattle.contract_file.proofs.reach.lowest.Given as goal

abbrev pub invariant-loop-i : goal.invariant-loop-i
invariant-loop-i g l = Spread g.way l.leading.file.now.entries l.lowest.marks l.i
