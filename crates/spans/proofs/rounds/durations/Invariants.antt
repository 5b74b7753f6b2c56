use Rattle.std.proofs.Common.{◌≡◌, ◌-◌}
use Rattle.language.specs.Ends.{settle, durations}
use Rattle.openings.specs.Clauses.{templates_of}
use Rattle.spans.proofs.rounds.durations.Given as goal

abbrev pub invariant-loop : goal.invariant-loop
invariant-loop l = settle (templates_of l.read.file) (1048577 - l.counter) l.durations ≡ durations (templates_of l.read.file)
