use Rattle.std.proofs.Common.{◌≡◌, replicate, None}
use Rattle.openings.specs.Clauses.{gathered}
use Rattle.residuals.proofs.Gathering.{with_tests}
use Rattle.residuals.proofs.conditions.conditions_from.Given as goal

-- what is gathered, with what the rest of the chain puts
abbrev pub invariant-loop-field : goal.invariant-loop-field
invariant-loop-field l = with_tests l.field-iterator l.tests ≡ gathered l.file 4 l.first (replicate 4 None)
