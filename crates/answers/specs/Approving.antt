-- What is asked of a file that has been read, with a kind and a signing day; and what check asks of a file's bytes.
-- Assumes nothing: of the kind it takes its number and which tests it admits.
use Rattle.std.specs.Prelude.{◌≡◌, ℕ, ◌≤◌, Bool, true, List, [], ◌∷◌, ◌++◌}
use Rattle.kinds.specs.declared.fields.Test.{Test}
use Rattle.kinds.specs.Rows.{zeros}
use Rattle.language.specs.Terms.{Term, nodes, opened}
use Rattle.entries.specs.declared.entries.Entry.{Entry}
use Rattle.entries.specs.declared.entries.Entry.TheVariants.{Lost, Done, Step, Choice, Both, Then, Call, Template, Condition, Argument}
use Rattle.entries.specs.Parts.{at}
use Rattle.contract_file.specs.declared.files.File.{File}
use Rattle.contract_file.specs.Asking.{Question, of_whole, unasked}
use Rattle.contract_file.specs.Files.{decoded}
use Rattle.contract_file.specs.Questions.{reading}
use Rattle.openings.specs.Clauses.{clause_at, templates_of}

-- an entry is no condition, or one that the kind admits
abbrev pub Admitted : (ℕ → Test → Bool) → Entry → Type 0
Admitted admits Lost = Unit {0}
Admitted admits Done = Unit {0}
Admitted admits (Step w tail conditions) = Unit {0}
Admitted admits (Choice left right) = Unit {0}
Admitted admits (Both left right) = Unit {0}
Admitted admits (Then left right) = Unit {0}
Admitted admits (Call template arguments) = Unit {0}
Admitted admits (Template number body next) = Unit {0}
Admitted admits (Condition field test next) = admits field test ≡ true
Admitted admits (Argument slot value next) = Unit {0}

-- the question of each condition
abbrev pub Conditions : (ℕ → Test → Bool) → File → Question
Conditions admits f i = Admitted admits (at f.entries i)

-- the contract's clause, opened from zeros on the signing day
abbrev pub contract_opened : File → ℕ → Term
contract_opened f day = opened (templates_of f) (clause_at f f.contract) zeros day

module _ (number : ℕ) (admits : ℕ → Test → Bool) (day : ℕ) where
  -- 8 to 11: the kind's number, its conditions, the size of the opened contract, the signing day
  abbrev pub approvals : File → List Question
  approvals f =
      of_whole (f.kind ≡ number)
      ∷ Conditions admits f
      ∷ of_whole (nodes (contract_opened f day) ≤ 256)
      ∷ of_whole (day ≤ 65535)
      ∷ []

  -- what approving asks: nothing under the numbers 0 to 7, which are reading's
  abbrev pub approving : File → List Question
  approving f = unasked ∷ unasked ∷ unasked ∷ unasked ∷ unasked ∷ unasked ∷ unasked ∷ unasked ∷ approvals f

  -- what both ask of a file's bytes
  abbrev pub checking : List ℕ → List Question
  checking b = reading b ++ approvals (decoded b)
