-- No two results answer the same questions.
use Rattle.std.proofs.Common.{◌≡◌, ℕ, cond, eqb, List, Ok, Err, Result, sym, refl, ap, ◌∙◌, subst, inl, inr}
use Rattle.std.proofs.lemmas.Bool.{cases_order}
use Rattle.contract_file.specs.declared.faults.Fault.{Fault}
use Rattle.contract_file.specs.declared.faults.Fault.TheVariants.{Length, Version, Unlisted, Pointer, Chain, Call, Window, Kind, Inadmissible, Size, Day}
use Rattle.contract_file.specs.Faults.{fault_number, fault_entry}
use Rattle.contract_file.specs.Asking.{Question, nth, Refused, Answers}
use Rattle.contract_file.specs.Questions.{reading}
use Rattle.contract_file.specs.Unique.{OneAnswerReading}

-- a fault by its number and entry
abbrev fault_of : ℕ → ℕ → Fault
fault_of n i =
    cond (eqb n 1) Length
    (cond (eqb n 2) Version
    (cond (eqb n 3) (Unlisted i)
    (cond (eqb n 4) (Pointer i)
    (cond (eqb n 5) (Chain i)
    (cond (eqb n 6) (Call i)
    (cond (eqb n 7) (Window i)
    (cond (eqb n 8) Kind
    (cond (eqb n 9) (Inadmissible i)
    (cond (eqb n 10) Size Day)))))))))

told : (f : Fault) → fault_of (fault_number f) (fault_entry f) ≡ f
told Length = refl
told Version = refl
told (Unlisted i) = refl
told (Pointer i) = refl
told (Chain i) = refl
told (Call i) = refl
told (Window i) = refl
told Kind = refl
told (Inadmissible i) = refl
told Size = refl
told Day = refl

module _ (questions : List Question) (n : ℕ) where
  one_fault : (f g : Fault) → Refused questions n f → Refused questions n g → f ≡ g
  one_fault f g a b =
      elim (cases_order (fault_number f) (fault_number g)) [
        | inr (inl lt) ↦ absurd (a.lowest.broken (b.earlier (fault_number f) lt (fault_entry f)))
        | inr (inr gt) ↦ absurd (b.lowest.broken (a.earlier (fault_number g) gt (fault_entry g)))
        | inl same ↦
            elim (cases_order (fault_entry f) (fault_entry g)) [
              | inr (inl lt) ↦ absurd (a.lowest.broken (subst (λ (q : ℕ). nth questions q (fault_entry f)) (sym same) (b.lowest.below (fault_entry f) lt)))
              | inr (inr gt) ↦ absurd (b.lowest.broken (subst (λ (q : ℕ). nth questions q (fault_entry g)) same (a.lowest.below (fault_entry g) gt)))
              | inl entry ↦ sym (told f) ∙ ap (λ (q : ℕ). fault_of q (fault_entry f)) same ∙ ap (fault_of (fault_number g)) entry ∙ told g
            ]
      ]

  pub one_answer : (r s : Result (Unit {0}) Fault) → Answers questions n r → Answers questions n s → r ≡ s
  one_answer (Ok x) (Ok y) a b = refl
  one_answer (Ok x) (Err g) a b = absurd (b.lowest.broken (a (fault_number g) b.asked (fault_entry g)))
  one_answer (Err f) (Ok y) a b = absurd (a.lowest.broken (b (fault_number f) a.asked (fault_entry f)))
  one_answer (Err f) (Err g) a b = ap Err (one_fault f g a b)

pub one_answer_reading : OneAnswerReading
one_answer_reading b = one_answer (reading b) 8
