use Rattle.language.proofs.Tidy.{may_end_iff}
use Rattle.language.proofs.may_end_is_the_empty_list.Goals as goal

pub returns : goal.returns
returns g c = may_end_iff g.K.Kind.meaning
