use Rattle.std.proofs.Common.{◌≡◌, ◌-◌}
use Rattle.spans.specs.Spans.{rows_in}
use Rattle.spans.proofs.Telling.{ToldFrom}
use Rattle.spans.proofs.passes.told.Given as goal

abbrev pub invariant-loop-at : goal.invariant-loop-at
invariant-loop-at l = ToldFrom l.read.file l.lasts l.at l.spans × (l.rows ≡ rows_in l.read.file (257 - l.at) l.at)
