use Rattle.language.proofs.Depth.{opening_rules}
use Rattle.language.proofs.opening_keeps_its_rules.Goals as goal

pub returns : goal.returns
returns c = opening_rules
