use Rattle.horizon.proofs.Facts.{known_ends}
use Rattle.terms.proofs.Writing.{held_before}
use Rattle.outlook.proofs.looking.look_from.Goals as goal

pub look_ahead-requires : goal.look_ahead-requires
look_ahead-requires c = record { foretold = known_ends _ _ _ c.args.prospect.now.foretold }

pub returns : goal.returns
returns c = λ t h. c.look_ahead.ensures t (held_before _ _ c.args.table.now.spare 0 t h)
