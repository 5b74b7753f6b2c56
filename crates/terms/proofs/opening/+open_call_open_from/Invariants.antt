use Rattle.std.proofs.Common.{◌+◌, ◌-◌, ◌*◌}
use Rattle.terms.proofs.opening.+open_call_open_from.Given as goal

-- the pair of template number and entry order falls: here it is in one number
abbrev pub decreases-open_call : goal.decreases-open_call
decreases-open_call l = l.template * 131072 + 100000

abbrev pub decreases-open_from : goal.decreases-open_from
decreases-open_from l = l.level * 131072 + (65536 - l.at)
