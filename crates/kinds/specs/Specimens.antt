-- Both kinds meet the condition on kinds: each field by its test, then the four together.
use Rattle.std.specs.Prelude.{◌≡◌, ℕ, ◌≤◌, Bool, true, cond, ◌&&◌, List, [], ◌∷◌, Some, None, Option, ◌≢◌, refl}
use Rattle.std.proofs.Common.{arith}
use Rattle.std.proofs.Math.Bool.{and-true}
use Rattle.std.proofs.lemmas.Bool.Decides.{nat_tests}
use Rattle.kinds.specs.declared.fields.Test.{Test}
use Rattle.kinds.specs.declared.fields.Field.{Field}
use Rattle.kinds.specs.declared.transfers.Transfer.{Transfer}
use Rattle.kinds.specs.declared.inspections.Inspection.{Inspection}
use Rattle.kinds.specs.Rows.{word, signed_word, Row, Fits}
use Rattle.kinds.specs.Fields.{passes_if, chosen_if, chosen_signed_if, unsigned, signed, filled_if, held, at}
use Rattle.kinds.specs.Meaning.{Lawful, AdmitsOn}
use Rattle.kinds.specs.Transfers.{transfers, transfer_fields}
use Rattle.kinds.specs.Inspections.{inspections, inspection_fields}
use Rattle.kinds.specs.Fitting.{BitsFit, held_fits, signed_lt}

-- four fields, each under the test of its own place
held_by_four : (tests : List (Option Test)) (row : Row) (a b c d : Field)
    → held tests row (a ∷ b ∷ c ∷ d ∷ [])
    ≡ cond (passes_if (at tests 0) row a && (passes_if (at tests 1) row b && (passes_if (at tests 2) row c && passes_if (at tests 3) row d)))
    (Some (filled_if (at tests 3) d (filled_if (at tests 2) c (filled_if (at tests 1) b (filled_if (at tests 0) a row)))))
    None
held_by_four [] row a b c d = refl
held_by_four (t ∷ []) row a b c d = refl
held_by_four (t ∷ u ∷ []) row a b c d = refl
held_by_four (t ∷ u ∷ v ∷ []) row a b c d = refl
held_by_four (t ∷ u ∷ v ∷ w ∷ []) row a b c d = simp and-true
held_by_four (t ∷ u ∷ v ∷ w ∷ x ∷ tests) row a b c d = simp and-true

-- four fields that pass are held
held_met : (tests : List (Option Test)) (row : Row) (a b c d : Field)
    → passes_if (at tests 0) row a ≡ true → passes_if (at tests 1) row b ≡ true → passes_if (at tests 2) row c ≡ true → passes_if (at tests 3) row d ≡ true
    → held tests row (a ∷ b ∷ c ∷ d ∷ []) ≡ Some (filled_if (at tests 3) d (filled_if (at tests 2) c (filled_if (at tests 1) b (filled_if (at tests 0) a row))))
held_met tests row a b c d p q r s = rw (held_by_four tests row a b c d) (simp (p, q, r, s))

day_word : (day : ℕ) → day ≤ 65535 → word day ≡ true
day_word day h = grind (arith, nat_tests)

-- a field of a specimen: its number fits, and it passes its test, if it has one
pub record Suits (o : Option Test) (row : Row) (fit : Bool) (field : Field) : Type 0 where
  pub fits : fit ≡ true
  pub passes : passes_if o row field ≡ true

-- a field without sign
abbrev SuitsUnsigned : Option Test → Row → Type 0
SuitsUnsigned o row = Suits o row (word (chosen_if o row)) (unsigned (chosen_if o row))

-- the reading
abbrev SuitsSigned : Option Test → Row → Type 0
SuitsSigned o row = Suits o row (signed_word (chosen_signed_if o row)) (signed (chosen_signed_if o row))

-- a field of a transfer
transfer_field : (field : ℕ) (o : Option Test) (row : Row) → Fits row → AdmitsOn transfers field o → SuitsUnsigned o row
transfer_field field o row f a = record { fits = grind (arith, nat_tests, f.words); passes = grind (arith, nat_tests) }

transfer_bits : (r : Transfer) → transfers.fits r ≡ true → BitsFit (transfer_fields r)
transfer_bits r e = grind (arith, nat_tests)

pub transfers_lawful : Lawful transfers
transfers_lawful = record {
  specimen = λ c row day a f small.
      let p = transfer_field 1 (at c.tests 0) row f a.first in
      let q = transfer_field 2 (at c.tests 1) row f a.second in
      let r = transfer_field 3 (at c.tests 2) row f a.third in
      let s = transfer_field 4 (at c.tests 3) row f a.fourth in
      let d = day_word day small in
      record {
        fits = cc;
        bears = refl;
        after = _;
        met = held_met c.tests row _ _ _ _ p.passes q.passes r.passes s.passes;
      };
  keeps = λ c row r row' a f g e. held_fits c.tests row (transfer_fields r) row' (transfer_bits r g) f e;
}

-- the vehicle, the check and the odometer of an inspection
counted_field : (field : ℕ) (o : Option Test) (row : Row) → (field ≢ 3) → Fits row → AdmitsOn inspections field o → SuitsUnsigned o row
counted_field field o row n f a = record { fits = grind (arith, nat_tests, f.words); passes = grind (arith, nat_tests) }

-- the reading
reading_field : (o : Option Test) (row : Row) → AdmitsOn inspections 3 o → SuitsSigned o row
reading_field o row a = record { fits = grind (arith, nat_tests); passes = grind (arith, nat_tests) }

inspection_bits : (r : Inspection) → inspections.fits r ≡ true → BitsFit (inspection_fields r)
inspection_bits r e = grind (arith, nat_tests, signed_lt)

pub inspections_lawful : Lawful inspections
inspections_lawful = record {
  specimen = λ c row day a f small.
      let p = counted_field 1 (at c.tests 0) row (λ e. omega arith) f a.first in
      let q = counted_field 2 (at c.tests 1) row (λ e. omega arith) f a.second in
      let r = reading_field (at c.tests 2) row a.third in
      let s = counted_field 4 (at c.tests 3) row (λ e. omega arith) f a.fourth in
      let d = day_word day small in
      record {
        fits = cc;
        bears = refl;
        after = _;
        met = held_met c.tests row _ _ _ _ p.passes q.passes r.passes s.passes;
      };
  keeps = λ c row r row' a f g e. held_fits c.tests row (inspection_fields r) row' (inspection_bits r g) f e;
}
