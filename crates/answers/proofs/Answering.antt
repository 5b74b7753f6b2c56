-- What is computed is the answer.
use Rattle.std.proofs.Common.{◌≡◌, ℕ, ◌≤◌, Bool, List, [], Result, refl, arith}
use Rattle.std.proofs.lemmas.Bool.Decides.{Decides-eqb}
use Rattle.kinds.specs.declared.fields.Test.{Test}
use Rattle.entries.specs.declared.entries.Entry.{Entry}
use Rattle.entries.specs.declared.entries.Entry.TheVariants.{Lost}
use Rattle.entries.specs.Parts.{at, sides, pointers}
use Rattle.contract_file.specs.declared.faults.Fault.{Fault}
use Rattle.contract_file.specs.declared.faults.Fault.TheVariants as fault
use Rattle.contract_file.specs.declared.files.File.{File}
use Rattle.contract_file.specs.Asking.{Question, Answers}
use Rattle.contract_file.specs.Files.{decoded}
use Rattle.contract_file.specs.Pointing.{Pointers, EntryLeads}
use Rattle.contract_file.specs.Chains.{Numbered, Rising, Chained}
use Rattle.contract_file.specs.Clauses.{CallRight, Calls, WindowRight, Windows}
use Rattle.contract_file.specs.Questions.{RightLength, EntriesListed}
use Rattle.contract_file.proofs.OneAnswer.{one_answer}
use Rattle.contract_file.proofs.Passing.{Below, none_yet, one_more}
use Rattle.contract_file.proofs.Everywhere.{past_end}
use Rattle.contract_file.proofs.Tables.{table_long, table_nowhere, table_past}
use Rattle.openings.proofs.Unfolding.{Leading}
use Rattle.answers.specs.Approving.{Admitted, Conditions, checking}
use Rattle.answers.specs.Computed.{length_test, version_test, listed_test, pointers_test, chained_test, reached, calls_test, windows_test, conditions_test, size_test, computed}
use Rattle.answers.proofs.Searching.{found_whole, found_each, ask_next}
use Rattle.answers.proofs.Deciding.{decides_leb, decides_length, decides_version, decides_listed, decides_pointers, decides_chained, decides_conditions}
use Rattle.answers.proofs.Reaching.{decides_calls, decides_windows}
use Rattle.answers.proofs.Sizing.{decides_size}

module _ (number : ℕ) (admits : ℕ → Test → Bool) (day : ℕ) (b : List ℕ) where
  abbrev f : File
  f = decoded b

  abbrev questions : List Question
  questions = checking number admits day b

  -- past the last place, what holds of lost is asked
  at_lost : (P : Entry → Type 0) (i : ℕ) → 257 ≤ i → P Lost → P (at f.entries i)
  at_lost P i ge h = past_end f.entries P h i (omega (arith, table_long b))

  past_pointers : (i : ℕ) → 257 ≤ i → Pointers f i
  past_pointers i ge = ((λ head. absurd (omega arith)), at_lost (EntryLeads f i) i ge tt)

  past_chained : (i : ℕ) → 257 ≤ i → Chained f i
  past_chained i ge = (at_lost (Numbered f i) i ge (λ k c n q. cc), at_lost (Rising f i) i ge tt)

  -- what the questions that are passed tell of the file
  right_length : (n : ℕ) → 2 ≤ n → Below questions n → RightLength b
  right_length n le below = below 1 (omega arith) 0 refl

  leading : (n : ℕ) → 5 ≤ n → Below questions n → Leading f
  leading n le below = record { few = (right_length n (omega arith) below).few; long = table_long b; nowhere = table_nowhere b; pointers = below 4 (omega arith) }

  pub computed_answers_lem : Answers questions 12 (computed number admits day b)
  unfolding computed
  computed_answers_lem =
      ask_next questions 1 _ _ (omega arith) (one_more questions 0 (none_yet questions) (λ i. tt)) (found_whole _ (length_test b) fault.Length 1 (decides_length b) refl refl) (λ below₂.
      ask_next questions 2 _ _ (omega arith) below₂ (found_whole _ (version_test b) fault.Version 2 (decides_version b) refl refl) (λ below₃.
      let few = (right_length 3 (omega arith) below₃).few in
      ask_next questions 3 _ _ (omega arith) below₃ (found_each (EntriesListed b) (listed_test b) fault.Unlisted 3 (λ i _. decides_listed b i) (λ i ge low high. absurd (omega arith)) (λ _. refl) (λ _. refl)) (λ below₄.
      ask_next questions 4 _ _ (omega arith) below₄ (found_each (Pointers f) (pointers_test f) fault.Pointer 4 (λ i _. decides_pointers f i) past_pointers (λ _. refl) (λ _. refl)) (λ below₅.
      let up = leading 5 (omega arith) below₅ in
      ask_next questions 5 _ _ (omega arith) below₅ (found_each (Chained f) (chained_test f) fault.Chain 5 (λ i _. decides_chained f i) past_chained (λ _. refl) (λ _. refl)) (λ below₆.
      ask_next questions 6 _ _ (omega arith) below₆ (found_each (Calls f) (calls_test f (reached sides f)) fault.Call 6 (λ i _. decides_calls f up i) (λ i ge. at_lost (CallRight f i) i ge tt) (λ _. refl) (λ _. refl)) (λ below₇.
      ask_next questions 7 _ _ (omega arith) below₇ (found_each (Windows f) (windows_test f (reached pointers f)) fault.Window 7 (λ i _. decides_windows f up i) (λ i ge. at_lost (WindowRight f i) i ge tt) (λ _. refl) (λ _. refl)) (λ below₈.
      ask_next questions 8 _ _ (omega arith) below₈ (found_whole _ _ fault.Kind 8 (Decides-eqb f.kind number) refl refl) (λ below₉.
      ask_next questions 9 _ _ (omega arith) below₉ (found_each (Conditions admits f) (conditions_test admits f) fault.Inadmissible 9 (λ i _. decides_conditions admits f i) (λ i ge. at_lost (Admitted admits) i ge tt) (λ _. refl) (λ _. refl)) (λ below₁₀.
      ask_next questions 10 _ _ (omega arith) below₁₀ (found_whole _ (size_test f) fault.Size 10 (decides_size f up (table_past b) day) refl refl) (λ below₁₁.
      ask_next questions 11 _ [] (omega arith) below₁₁ (found_whole _ _ fault.Day 11 (decides_leb day 65535) refl refl) (λ all. all)))))))))))

  -- and so each answer is what is computed
  pub is_computed : (r : Result (Unit {0}) Fault) → Answers questions 12 r → r ≡ computed number admits day b
  is_computed r answer = one_answer questions 12 r (computed number admits day b) answer computed_answers_lem
