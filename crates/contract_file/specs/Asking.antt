-- What it is to be the answer to a list of questions: the first question that fails, with the lowest entry at fault.
-- A question is what it asks of an entry, by the entry's number; it asks the head or the whole as entry 0.
use Rattle.std.specs.Prelude.{◌≡◌, ℕ, ◌<◌, Bool, true, false, List, Ok, Err, Result, OnOk, IfErr, slice_index_or}
use Rattle.contract_file.specs.declared.faults.Fault.{Fault}
use Rattle.contract_file.specs.Faults.{fault_number, fault_entry}

abbrev pub Question : Type 1
Question = ℕ → Type 0

-- asks the head or the whole alone
abbrev pub of_whole : Type 0 → Question
of_whole P i = i ≡ 0 → P

-- asks nothing
abbrev pub unasked : Question
unasked i = Unit {0}

-- the question of a number; the list begins with number 0, and past its end nothing is asked
abbrev pub nth : List Question → ℕ → Question
nth questions q = slice_index_or questions q unasked

-- entry i is the lowest that breaks a question
pub record Lowest (asks : Question) (i : ℕ) : Type 0 where
  pub broken : asks i → ⊥
  pub below : (j : ℕ) → j < i → asks j

-- no entry breaks it
abbrev pub Passed : Question → Type 0
Passed asks = (i : ℕ) → asks i

-- the answer to one question, where `fault` tells the entry at fault
abbrev pub Asked : {X : Type 0} → Question → (ℕ → Fault) → Result X Fault → Type 0
Asked asks fault (Ok _) = Passed asks
Asked asks fault (Err f) = (i : ℕ) × (f ≡ fault i) × Lowest asks i

-- f is the first fault, of the questions with numbers below n: those before its own pass, and its entry is the lowest that breaks its own
pub record Refused (questions : List Question) (n : ℕ) (f : Fault) : Type 0 where
  pub asked : fault_number f < n
  pub earlier : (q : ℕ) → q < fault_number f → Passed (nth questions q)
  pub lowest : Lowest (nth questions (fault_number f)) (fault_entry f)

-- the answer to the questions with numbers below n, asked in order
abbrev pub Answers : {X : Type 0} → List Question → ℕ → Result X Fault → Type 0
Answers questions n (Ok _) = (q : ℕ) → q < n → Passed (nth questions q)
Answers questions n (Err f) = Refused questions n f

-- the answer to a question put to each place of a table, the head's first: `tells i b` where it may be answered b of place i, and
-- `faults i f` where f may be the fault there
pub record AskedOfEach (tells : ℕ → Bool → Type 0) (faults : ℕ → Fault → Type 0) (r : Result (Unit {0}) Fault) : Type 0 where
  pub passed : OnOk r ((i : ℕ) → i < 257 → tells i true)
  pub refused : IfErr r (λ f. (i : ℕ) × (i < 257) × faults i f × tells i false × ((j : ℕ) → j < i → tells j true))
