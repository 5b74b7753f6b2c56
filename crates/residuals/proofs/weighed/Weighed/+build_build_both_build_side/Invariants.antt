use Rattle.std.proofs.Common.{◌+◌, ◌-◌, ◌*◌}
use Rattle.residuals.specs.Rests.{place}
use Rattle.residuals.proofs.weighed.Weighed.+build_build_both_build_side.Given as goal

-- the places behind; a both comes before its sides, and these before what is left of them
abbrev pub decreases-build : goal.decreases-build
decreases-build l = 3 * (256 - l.at)

abbrev pub decreases-build_both : goal.decreases-build_both
decreases-build_both l = 3 * (256 - place l.left) + 2

abbrev pub decreases-build_side : goal.decreases-build_side
decreases-build_side l = 3 * (256 - place l.side) + 1
