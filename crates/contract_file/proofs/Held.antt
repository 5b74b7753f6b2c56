-- What is known of a file that is read, behind the questions that pass.
use Rattle.std.proofs.Common.{◌≡◌, ℕ, List, subst}
use Rattle.entries.specs.Parts.{at, Listed}
use Rattle.contract_file.specs.Files.{decoded}
use Rattle.contract_file.specs.Questions.{RightLength, reading}
use Rattle.contract_file.specs.Sound.{Parsed}
use Rattle.contract_file.proofs.Tables.{table_long, table_nowhere, table_past}
use Rattle.contract_file.specs.declared.files.File.{File}
use Rattle.contract_file.specs.Asking.{Passed}
use Rattle.contract_file.specs.Pointing.{Pointers}
use Rattle.contract_file.specs.Chains.{Chained}
use Rattle.contract_file.specs.Clauses.{Calls, Windows}
use Rattle.contract_file.proofs.Passing.{Below, one_more}

module _ (b : List ℕ) where
  pub decoded_parsed : RightLength b → ((i : ℕ) → Listed (at (decoded b).entries i)) → Parsed (decoded b)
  decoded_parsed right values = record { some = right.some; few = right.few; long = table_long b; nowhere = table_nowhere b; past = table_past b; values = values }

  -- the questions that the file passes, one by one behind those of its bytes
  module _ (f : File) (same : f ≡ decoded b) (parsed : Below (reading b) 4) where
    pub pointers_pass : Passed (Pointers f) → Below (reading b) 5
    pointers_pass pointers = one_more (reading b) 4 parsed (subst (λ (g : File). Passed (Pointers g)) same pointers)

    pub chains_pass : Passed (Pointers f) → Passed (Chained f) → Below (reading b) 6
    chains_pass pointers chains = one_more (reading b) 5 (pointers_pass pointers) (subst (λ (g : File). Passed (Chained g)) same chains)

    pub calls_pass : Passed (Pointers f) → Passed (Chained f) → Passed (Calls f) → Below (reading b) 7
    calls_pass pointers chains calls = one_more (reading b) 6 (chains_pass pointers chains) (subst (λ (g : File). Passed (Calls g)) same calls)

    pub windows_pass : Passed (Pointers f) → Passed (Chained f) → Passed (Calls f) → Passed (Windows f) → Below (reading b) 8
    windows_pass pointers chains calls windows = one_more (reading b) 7 (calls_pass pointers chains calls) (subst (λ (g : File). Passed (Windows g)) same windows)
