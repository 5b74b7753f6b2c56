-- What transfers mean: kind 1, with the fields from, to, resource and amount, none of them signed. Assumes nothing.
use Rattle.std.specs.Prelude.{Bool, true, false, ◌&&◌, List, [], ◌∷◌, nat_le}
use Rattle.kinds.specs.declared.fields.Test.{Test}
use Rattle.kinds.specs.declared.fields.Test.TheVariants.{Equals, Between, EqualsSlot, Put, AtLeastSlotPlus, Near}
use Rattle.kinds.specs.declared.fields.Field.{Field}
use Rattle.kinds.specs.declared.transfers.Transfer.{Transfer}
use Rattle.kinds.specs.Rows.{word}
use Rattle.kinds.specs.Fields.{at, held, chosen_if, unsigned}
use Rattle.kinds.specs.Meaning.{Meaning}

-- what is admitted, on every field alike; a range only if it is not empty
abbrev pub admitted : Test → Bool
admitted (Equals u) = true
admitted (Between u v) = nat_le u v
admitted (EqualsSlot b) = true
admitted (Put b) = true
admitted (AtLeastSlotPlus b u) = false
admitted (Near u v) = false

-- its fields, in their order
abbrev pub transfer_fields : Transfer → List Field
transfer_fields r = unsigned r.from ∷ unsigned r.to ∷ unsigned r.resource ∷ unsigned r.amount ∷ []

-- the meaning of transfers
abbrev pub transfers : Meaning Transfer
transfers = record {
  admits = λ field t. admitted t;
  fits = λ r. word r.from && word r.to && word r.resource && word r.amount && word r.day;
  day = λ r. r.day;
  meets = λ c row r. held c.tests row (transfer_fields r);
  specimen = λ c row d. record { from = chosen_if (at c.tests 0) row; to = chosen_if (at c.tests 1) row; resource = chosen_if (at c.tests 2) row; amount = chosen_if (at c.tests 3) row; day = d };
}
