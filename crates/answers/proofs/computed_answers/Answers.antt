use Rattle.answers.proofs.Answering.{computed_answers_lem}
use Rattle.answers.proofs.computed_answers.Goals as goal

pub returns : goal.returns
returns g c number day b = computed_answers_lem number _ day b
