use Rattle.std.proofs.Common.{sym, ap, ◌∙◌, replicate, None}
use Rattle.openings.specs.Clauses.{conditions_at}
use Rattle.residuals.proofs.Gathering.{with_tests, gathered_links}
use Rattle.residuals.proofs.conditions.conditions_from.Goals as goal

pub loop-field-init : goal.loop-field-init
loop-field-init c = let all = gathered_links c.args.file.now 4 c.args.first (replicate 4 None) in cc

pub returns : goal.returns
unfolding conditions_at
returns c = ap (λ ts. record { tests = ts }) (sym (ap (λ ls. with_tests ls c.loop-field.tests) c.in-None.ensures.steps.0) ∙ c.loop-field.invariant)
