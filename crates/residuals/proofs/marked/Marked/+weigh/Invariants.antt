use Rattle.std.proofs.Common.{◌-◌}
use Rattle.residuals.proofs.marked.Marked.+weigh.Given as goal

-- the places behind
abbrev pub decreases-weigh : goal.decreases-weigh
decreases-weigh l = 256 - l.at
