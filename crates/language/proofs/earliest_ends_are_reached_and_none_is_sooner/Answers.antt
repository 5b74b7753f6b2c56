use Rattle.language.proofs.Earliest.{earliest_law}
use Rattle.language.proofs.earliest_ends_are_reached_and_none_is_sooner.Goals as goal

pub returns : goal.returns
returns g c = λ templates. earliest_law g.K.Kind.meaning templates g.met.K.Kind.lawful
