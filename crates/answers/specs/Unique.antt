-- Each file, with a kind and a signing day, has one answer: no two results answer the questions, and what is computed does.
use Rattle.std.specs.Prelude.{◌≡◌, ℕ, Bool, List, Result}
use Rattle.kinds.specs.declared.fields.Test.{Test}
use Rattle.contract_file.specs.declared.faults.Fault.{Fault}
use Rattle.contract_file.specs.Asking.{Answers}
use Rattle.answers.specs.Approving.{checking}
use Rattle.answers.specs.Computed.{computed}

abbrev pub OneAnswerChecking : (ℕ → Test → Bool) → Type 0
OneAnswerChecking admits =
    (number day : ℕ) (b : List ℕ) (r s : Result (Unit {0}) Fault) → Answers (checking number admits day b) 12 r → Answers (checking number admits day b) 12 s → r ≡ s

abbrev pub ComputedAnswers : (ℕ → Test → Bool) → Type 0
ComputedAnswers admits = (number day : ℕ) (b : List ℕ) → Answers (checking number admits day b) 12 (computed number admits day b)
