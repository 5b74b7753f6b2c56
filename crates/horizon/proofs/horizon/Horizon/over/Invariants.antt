use Rattle.horizon.proofs.Telling.{Standing}
use Rattle.horizon.proofs.horizon.Horizon.over.Given as goal

abbrev pub invariant-loop-number : goal.invariant-loop-number
invariant-loop-number l = Standing l.read.file l.horizon.spans l.horizon.rows.items l.number
