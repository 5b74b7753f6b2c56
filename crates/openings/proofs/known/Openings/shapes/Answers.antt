use Rattle.std.proofs.Common.{refl}
use Rattle.openings.proofs.Facts.{known_openings}
use Rattle.openings.proofs.known.Openings.shapes.Goals as goal

pub returns : goal.returns
returns c = record { same = refl; known = known_openings _ _ c.args.self.now.known }
