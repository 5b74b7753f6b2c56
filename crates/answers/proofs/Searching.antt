-- Questions asked in order: what is found of one, and the first that fails.
use Rattle.std.proofs.Common.{◌≡◌, ℕ, zero, suc, ◌+◌, ◌<◌, ◌≤◌, Bool, List, ◌∷◌, Some, None, Decides, Option, sym, refl, subst, inl, inr, arith, below_more}
use Rattle.std.proofs.lemmas.Bool.{cases_lt, cond_both}
use Rattle.std.proofs.lemmas.Bool.Decides.{not_from_Decides}
use Rattle.contract_file.specs.declared.faults.Fault.{Fault}
use Rattle.contract_file.specs.Faults.{fault_number, fault_entry}
use Rattle.contract_file.specs.Asking.{Question, of_whole, nth, Passed, Lowest, Answers}
use Rattle.contract_file.proofs.Passing.{Below, one_more}
use Rattle.answers.specs.Computed.{unless, lowest_from, each, first}

-- what is found of question n: no fault, and it passes, or its fault with the lowest entry that breaks it
abbrev pub Found : Question → ℕ → Option Fault → Type 0
Found asks n None = Passed asks
Found asks n (Some f) = (fault_number f ≡ n) × Lowest asks (fault_entry f)

-- asked of the whole
pub found_whole : (P : Type 0) (good : Bool) (f : Fault) (n : ℕ) → Decides good P → fault_number f ≡ n → fault_entry f ≡ 0 → Found (of_whole P) n (unless good f)
found_whole P good f n tells number entry =
    cond_both good None (Some f) (Found (of_whole P) n)
    (λ e i _. tells.0 e)
    (λ e. (number, subst (Lowest (of_whole P)) (sym entry) (record { broken = λ h. not_from_Decides good tells e (h refl); below = λ j lt. absurd (omega arith) })))

-- asked of each entry
module _ (asks : Question) (good : ℕ → Bool) (fault : ℕ → Fault) (n : ℕ)
    (tells : (i : ℕ) → i < 257 → Decides (good i) (asks i)) (past : (i : ℕ) → 257 ≤ i → asks i)
    (number : (i : ℕ) → fault_number (fault i) ≡ n) (entry : (i : ℕ) → fault_entry (fault i) ≡ i) where
  found_from : (m i : ℕ) → i + m ≡ 257 → ((j : ℕ) → j < i → asks j) → Found asks n (lowest_from good fault m i)
  unfolding lowest_from
  found_from zero i all below = λ j. elim (cases_lt j 257) [ inl lt ↦ below j (omega arith) | inr ge ↦ past j ge ]
  found_from (suc m) i all below =
      let here = tells i (omega arith) in
      cond_both (good i) (lowest_from good fault m (i + 1)) (Some (fault i)) (Found asks n)
      (λ e. found_from m (i + 1) (omega arith) (below_more asks i below (here.0 e)))
      (λ e. (number i, subst (Lowest asks) (sym (entry i)) (record { broken = λ h. not_from_Decides (good i) here e h; below = below })))

  pub found_each : Found asks n (each good fault)
  found_each = found_from 257 0 refl (λ j lt. absurd (omega arith))

-- one question more: if it passes, those behind it are asked
pub ask_next : (questions : List Question) (n : ℕ) (o : Option Fault) (rest : List (Option Fault)) → n < 12 → Below questions n → Found (nth questions n) n o
    → (Below questions (n + 1) → Answers questions 12 (first rest)) → Answers questions 12 (first (o ∷ rest))
ask_next questions n None rest lt below found later = later (one_more questions n below found)
ask_next questions n (Some f) rest lt below (number, low) later = record {
  asked = omega arith;
  earlier = λ q h. below q (omega arith);
  lowest = rw number low;
}
