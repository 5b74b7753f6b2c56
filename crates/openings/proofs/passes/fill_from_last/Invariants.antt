use Rattle.openings.proofs.Downward.{ToldFrom}
use Rattle.openings.proofs.passes.fill_from_last.Given as goal

abbrev pub invariant-loop-place : goal.invariant-loop-place
invariant-loop-place g l = ToldFrom g.F.Fn l.rule l.fn.untold l.place l.table
