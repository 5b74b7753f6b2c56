-- What inspections mean: kind 2, with the fields vehicle, check, reading and odometer, of which the reading is signed. Assumes nothing.
use Rattle.std.specs.Prelude.{ℕ, Bool, true, false, ◌&&◌, List, [], ◌∷◌, ◌==◌, nat_le}
use Rattle.kinds.specs.declared.fields.Test.{Test}
use Rattle.kinds.specs.declared.fields.Test.TheVariants.{Equals, Between, EqualsSlot, Put, AtLeastSlotPlus, Near}
use Rattle.kinds.specs.declared.fields.Field.{Field}
use Rattle.kinds.specs.declared.inspections.Inspection.{Inspection}
use Rattle.kinds.specs.Rows.{word, signed_word}
use Rattle.kinds.specs.Fields.{at, held, chosen_if, chosen_signed_if, unsigned, signed}
use Rattle.kinds.specs.Meaning.{Meaning}

-- what is admitted on a field: 1 is the vehicle, 2 the check, 3 the reading, 4 the odometer
abbrev pub checked : ℕ → Test → Bool
checked field (Equals u) = nat_le field 2
checked field (Between u v) = false
checked field (EqualsSlot b) = nat_le field 2
checked field (Put b) = true
checked field (AtLeastSlotPlus b u) = field == 4
checked field (Near u v) = field == 3

-- its fields, in their order
abbrev pub inspection_fields : Inspection → List Field
inspection_fields r = unsigned r.vehicle ∷ unsigned r.check ∷ signed r.reading ∷ unsigned r.odometer ∷ []

-- the meaning of inspections
abbrev pub inspections : Meaning Inspection
inspections = record {
  admits = checked;
  fits = λ r. word r.vehicle && word r.check && signed_word r.reading && word r.odometer && word r.day;
  day = λ r. r.day;
  meets = λ c row r. held c.tests row (inspection_fields r);
  specimen = λ c row d. record { vehicle = chosen_if (at c.tests 0) row; check = chosen_if (at c.tests 1) row; reading = chosen_signed_if (at c.tests 2) row; odometer = chosen_if (at c.tests 3) row; day = d };
}
