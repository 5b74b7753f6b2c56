use Rattle.language.proofs.Residuals.{residual_iff}
use Rattle.language.proofs.residuals_stand_for_what_is_left.Goals as goal

pub returns : goal.returns
returns g c = residual_iff g.K.Kind.meaning
