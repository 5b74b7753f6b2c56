use Rattle.openings.specs.Shapes.{KnownCalls}
use Rattle.openings.proofs.rounds.openings.Given as goal

abbrev pub invariant-loop : goal.invariant-loop
invariant-loop l = KnownCalls l.fn.read.file l.counter l.calls
