-- Reading's questions with approving's behind them: the answer to the first list, and then to the second, is that to both.
use Rattle.std.proofs.Common.{◌≡◌, ℕ, ◌+◌, ◌-◌, ◌<◌, ◌≤◌, Bool, List, [], ◌∷◌, sym, ◌∙◌, subst, inl, inr, arith}
use Rattle.std.proofs.lemmas.List.{get_or_append_left, get_or-append-add}
use Rattle.std.proofs.lemmas.Bool.{cases_lt}
use Rattle.kinds.specs.declared.fields.Test.{Test}
use Rattle.contract_file.specs.declared.faults.Fault.{Fault}
use Rattle.contract_file.specs.declared.faults.Fault.TheVariants.{Length, Version, Unlisted, Pointer, Chain, Call, Window, Kind, Inadmissible, Size, Day}
use Rattle.contract_file.specs.Faults.{fault_number, fault_entry}
use Rattle.contract_file.specs.Asking.{Question, unasked, nth, Passed, Lowest, Refused}
use Rattle.contract_file.specs.Files.{decoded}
use Rattle.contract_file.specs.Questions.{reading}
use Rattle.answers.specs.Approving.{approvals, approving, checking}
use Rattle.contract_file.proofs.Passing.{Below}

abbrev eight : List Question
eight = unasked ∷ unasked ∷ unasked ∷ unasked ∷ unasked ∷ unasked ∷ unasked ∷ unasked ∷ []

module _ (number : ℕ) (admits : ℕ → Test → Bool) (day : ℕ) (b : List ℕ) where
  abbrev all : List Question
  all = checking number admits day b

  abbrev second : List Question
  second = approving number admits day (decoded b)

  abbrev more : List Question
  more = approvals number admits day (decoded b)

  front : (q : ℕ) → q < 8 → nth (reading b) q ≡ nth all q
  front q lt = sym (get_or_append_left (reading b) more unasked q lt)

  behind : (n : ℕ) → nth second (8 + n) ≡ nth all (8 + n)
  behind n = get_or-append-add eight more n unasked ∙ sym (get_or-append-add (reading b) more n unasked)

  back : (q : ℕ) → 8 ≤ q → nth second q ≡ nth all q
  back q ge = let e : 8 + (q - 8) ≡ q = omega arith in subst (λ (x : ℕ). nth second x ≡ nth all x) e (behind (q - 8))

  pub refused_reading : (f : Fault) → Refused (reading b) 8 f → Refused all 12 f
  refused_reading f r = record {
    asked = omega (arith, r.asked);
    earlier = λ q h. subst Passed (front q (omega (arith, r.asked))) (r.earlier q h);
    lowest = subst (λ (x : Question). Lowest x (fault_entry f)) (front (fault_number f) r.asked) r.lowest;
  }

  asks_late : (f : Fault) → Refused second 12 f → 8 ≤ fault_number f
  asks_late Length r = absurd (r.lowest.broken tt)
  asks_late Version r = absurd (r.lowest.broken tt)
  asks_late (Unlisted i) r = absurd (r.lowest.broken tt)
  asks_late (Pointer i) r = absurd (r.lowest.broken tt)
  asks_late (Chain i) r = absurd (r.lowest.broken tt)
  asks_late (Call i) r = absurd (r.lowest.broken tt)
  asks_late (Window i) r = absurd (r.lowest.broken tt)
  asks_late Kind r = omega arith
  asks_late (Inadmissible i) r = omega arith
  asks_late Size r = omega arith
  asks_late Day r = omega arith

  joined : (n : ℕ) → Below (reading b) 8 → Below second n → Below all n
  joined n first then' q lt =
      elim (cases_lt q 8) [
        | inl early ↦ subst Passed (front q early) (first q early)
        | inr late ↦ subst Passed (back q late) (then' q lt)
      ]

  pub refused_approving : (f : Fault) → Below (reading b) 8 → Refused second 12 f → Refused all 12 f
  refused_approving f first r = record {
    asked = r.asked;
    earlier = joined (fault_number f) first r.earlier;
    lowest = subst (λ (x : Question). Lowest x (fault_entry f)) (back (fault_number f) (asks_late f r)) r.lowest;
  }

  pub all_pass : Below (reading b) 8 → Below second 12 → Below all 12
  all_pass first then' = joined 12 first then'
