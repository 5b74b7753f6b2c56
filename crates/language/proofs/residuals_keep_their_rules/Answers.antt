use Rattle.language.proofs.Residuals.{residual_rules}
use Rattle.language.proofs.residuals_keep_their_rules.Goals as goal

pub returns : goal.returns
returns g c = residual_rules g.K.Kind.meaning
