-- What is asked of each place of a table is asked of each number, if past the table all is well.
use Rattle.std.proofs.Common.{◌≡◌, ℕ, ◌≤◌, Bool, true, false, Ok, Err, Result, Decides, length, refl, inl, inr, arith}
use Rattle.std.proofs.lemmas.Bool.{cases_lt}
use Rattle.std.proofs.lemmas.Bool.Decides.{not_from_Decides}
use Rattle.contract_file.specs.declared.faults.Fault.{Fault}
use Rattle.contract_file.specs.declared.faults.Fault.TheVariants.{Pointer}
use Rattle.contract_file.specs.declared.files.File.{File}
use Rattle.contract_file.specs.Asking.{Question, Asked, AskedOfEach}
use Rattle.contract_file.specs.Pointing.{EntryLeads, Pointers}
use Rattle.contract_file.proofs.Everywhere.{past_end}

pub asked : (asks : Question) (fault : ℕ → Fault) (tells : ℕ → Bool → Type 0) (faults : ℕ → Fault → Type 0)
    → ((i : ℕ) → 257 ≤ i → asks i) → ((i : ℕ) (b : Bool) → tells i b → Decides b (asks i)) → ((i : ℕ) (f : Fault) → faults i f → f ≡ fault i)
    → (r : Result (Unit {0}) Fault) → AskedOfEach tells faults r → Asked asks fault r
asked asks fault tells faults past decides is (Ok _) answer =
    λ i. elim (cases_lt i 257) [ inl lt ↦ (decides i true (answer.passed i lt)).0 refl | inr ge ↦ past i ge ]
asked asks fault tells faults past decides is (Err f) answer = (
  answer.refused.0,
  is answer.refused.0 f answer.refused.2,
  record {
    broken = not_from_Decides false (decides answer.refused.0 false answer.refused.3) refl;
    below = λ j lt. (decides j true (answer.refused.4 j lt)).0 refl;
  },
)

-- the pointers of a table's entries, past whose end nothing points
pub asked_pointers : (f : File) → length f.entries ≡ 257 → (tells : ℕ → Bool → Type 0) (faults : ℕ → Fault → Type 0)
    → ((i : ℕ) (b : Bool) → tells i b → Decides b (Pointers f i)) → ((i : ℕ) (e : Fault) → faults i e → e ≡ Pointer i)
    → (r : Result (Unit {0}) Fault) → AskedOfEach tells faults r → Asked (Pointers f) Pointer r
asked_pointers f long tells faults =
    asked (Pointers f) Pointer tells faults (λ i ge. ((λ head. absurd (omega arith)), past_end f.entries (EntryLeads f i) tt i (omega (arith, long))))
