use Rattle.std.proofs.Common.{◌-◌, sym, ◌∙◌, arith}
use Rattle.spans.proofs.Settling.{settles_first, settles_more, settled, settles_last, same_is}
use Rattle.spans.proofs.rounds.durations.Goals as goal

pub loop-init : goal.loop-init
loop-init c = settles_first c.args.read.now.file

pub returns-then-eq : goal.returns-then-eq
returns-then-eq c =
    settled c.args.read.now.file (1048577 - c.loop.counter) (1048576 - c.loop.counter) c.loop.durations c.round-next.result _ (omega arith) c.loop.invariant c.round-next.ensures
    (sym (same_is c.loop.durations c.round-next.result) ∙ sym c.eq.ensures ∙ c.if-eq.true)

pub loop-preserved : goal.loop-preserved
loop-preserved c =
    settles_more c.args.read.now.file (1048577 - c.loop.counter) _ c.loop.durations c.round-next.result _ (omega arith) c.loop.invariant c.round-next.ensures
    (sym (same_is c.loop.durations c.round-next.result) ∙ sym c.eq.ensures ∙ c.if-eq.false)

pub returns : goal.returns
returns c = settles_last c.args.read.now.file (1048577 - c.loop.counter) c.loop.durations _ (omega arith) c.loop.invariant
