use Rattle.contract_file.proofs.OneAnswer.{one_answer_reading}
use Rattle.contract_file.proofs.theorems.one_answer.Goals as goal

pub returns : goal.returns
returns c = one_answer_reading
