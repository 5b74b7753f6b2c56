-- The answer is told apart from every other: no two results answer the questions.
use Rattle.std.specs.Prelude.{◌≡◌, ℕ, List, Result}
use Rattle.contract_file.specs.declared.faults.Fault.{Fault}
use Rattle.contract_file.specs.Asking.{Answers}
use Rattle.contract_file.specs.Questions.{reading}

abbrev pub OneAnswerReading : Type 0
OneAnswerReading = (b : List ℕ) (r s : Result (Unit {0}) Fault) → Answers (reading b) 8 r → Answers (reading b) 8 s → r ≡ s
