use Rattle.std.proofs.Common.{◌-◌, length}
use Rattle.outlook.proofs.looking.+look.Given as goal

abbrev pub decreases-look : goal.decreases-look
decreases-look l = length l.nodes.now - l.at
