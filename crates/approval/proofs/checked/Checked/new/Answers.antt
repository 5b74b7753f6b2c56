use Rattle.std.proofs.Common.{◌∙◌, arith}
use Rattle.approval.proofs.Sizes.{fresh_small}
use Rattle.approval.proofs.checked.Checked.new.Goals as goal

pub invariant_of-result : goal.invariant_of-result
invariant_of-result c = record { early = omega arith; small = fresh_small _ (c.of.ensures.same ∙ c.new.ensures) }
