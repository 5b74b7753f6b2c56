use Rattle.std.proofs.Common.{refl}
use Rattle.horizon.proofs.Facts.{known_ends}
use Rattle.held.proofs.foreseen.Foreseen.horizon.Goals as goal

pub returns : goal.returns
returns c = record { same = refl; foretold = known_ends _ _ _ c.args.self.now.prospect.foretold }
