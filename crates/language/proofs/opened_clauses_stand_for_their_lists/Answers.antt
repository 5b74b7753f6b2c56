use Rattle.language.proofs.Opening.{opened_iff}
use Rattle.language.proofs.opened_clauses_stand_for_their_lists.Goals as goal

pub returns : goal.returns
returns g c = opened_iff g.K.Kind.meaning
