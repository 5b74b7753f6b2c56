use Rattle.std.proofs.Common.{refl, arith}
use Rattle.openings.proofs.Downward.{one_more}
use Rattle.openings.proofs.passes.fill_from_last.Goals as goal

pub loop-place-preserved : goal.loop-place-preserved
loop-place-preserved g c =
    one_more g.F.Fn c.args.rule c.args.untold c.loop-place.table _ c.loop-place.place c.rule.result (omega arith) (omega arith) c.loop-place.invariant (record { seen = _; shows = refl; says = c.rule.ensures })
