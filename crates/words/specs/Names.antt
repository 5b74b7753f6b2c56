-- The words of a kind of record: its name, and those of its fields 1 to 4.
use Rattle.std.specs.Prelude.{ℕ, cond, List, codes, ◌==◌}
use Rattle.words.specs.declared.names.Names.{Names}
use Rattle.words.specs.declared.names.Names.TheVariants.{Transfers, Inspections}

-- the words that byte 0 of a file picks
abbrev pub names_of : ℕ → Names
names_of number = cond (number == 2) Inspections Transfers

abbrev pub kind_name : Names → List ℕ
kind_name Transfers = codes "transfers"
kind_name Inspections = codes "inspections"

-- one of four, and the last past them
abbrev pub one_of : ℕ → List ℕ → List ℕ → List ℕ → List ℕ → List ℕ → List ℕ
one_of n a b c d other = cond (n == 1) a (cond (n == 2) b (cond (n == 3) c (cond (n == 4) d other)))

abbrev pub field_name : Names → ℕ → List ℕ
field_name Transfers n = one_of n (codes "from") (codes "to") (codes "resource") (codes "amount") (codes "no field")
field_name Inspections n = one_of n (codes "vehicle") (codes "check") (codes "reading") (codes "odometer") (codes "no field")
