-- One question more that passes, and the first that fails.
use Rattle.std.proofs.Common.{◌≡◌, ℕ, ◌+◌, ◌<◌, ◌≤◌, List, arith, below_none, below_more}
use Rattle.contract_file.specs.declared.faults.Fault.{Fault}
use Rattle.contract_file.specs.Faults.{fault_number, fault_entry}
use Rattle.contract_file.specs.Asking.{Question, nth, Passed, Lowest, Refused}

module _ (questions : List Question) where
  -- the questions below n pass
  abbrev pub Below : ℕ → Type 0
  Below n = (q : ℕ) → q < n → Passed (nth questions q)

  pub none_yet : Below 0
  none_yet = below_none (λ q. Passed (nth questions q))

  pub one_more : (n : ℕ) → Below n → Passed (nth questions n) → Below (n + 1)
  one_more n below here = below_more (λ q. Passed (nth questions q)) n below here

  -- the answer to a question, behind those that pass
  pub refused : (f : Fault) (fault : ℕ → Fault) (n last : ℕ) → n < last → ((i : ℕ) → fault_number (fault i) ≡ n) → ((i : ℕ) → fault_entry (fault i) ≡ i) → Below n → (i : ℕ) × (f ≡ fault i) × Lowest (nth questions n) i → Refused questions last f
  refused f fault n last within number entry below (i, is, low) =
      rw is (record { asked = rw (number i) within; earlier = λ q lt. below q (rw (number i) at lt); lowest = rw (number i, entry i) low })

  -- more questions may follow
  pub refused_more : (f : Fault) (n m : ℕ) → n ≤ m → Refused questions n f → Refused questions m f
  refused_more f n m le r = record { asked = omega (arith, r.asked); earlier = r.earlier; lowest = r.lowest }
