use Rattle.contract_file.proofs.OneAnswer.{one_answer}
use Rattle.answers.specs.Approving.{checking}
use Rattle.answers.proofs.one_answer.Goals as goal

pub returns : goal.returns
returns g c number day b = one_answer (checking number _ day b) 12
