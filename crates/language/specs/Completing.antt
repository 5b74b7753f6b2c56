-- Which lists of records perform a term, and whether a kind admits its conditions. Assumes nothing.
use Rattle.std.specs.Prelude.{◌≡◌, ◌⊎◌, List, [], ◌∷◌, ◌++◌, Some}
use Rattle.kinds.specs.Rows.{Row, Fits}
use Rattle.kinds.specs.Meaning.{Meaning, Admits}
use Rattle.language.specs.Clauses.{Clause}
use Rattle.language.specs.Performing.{Parts, end, Inside, Performs, Admitted}
use Rattle.language.specs.Terms.{Term, Done, Lost, Leaf, Choice, Both, Follow}

module _ {R : Type 0} (K : Meaning R) (templates : List Clause) where
  abbrev pub TermPerforms : Term → List R → Type 0
  TermPerforms Done rs = rs ≡ []
  TermPerforms Lost rs = ⊥
  TermPerforms (Leaf e w cs tail row base) [] = ⊥
  TermPerforms (Leaf e w cs tail row base) (r ∷ rs) =
      (row' : Row) × (Inside K w base r × (K.meets cs row r ≡ Some row')) × Performs K templates tail row' (K.day r) rs
  TermPerforms (Choice l r) rs = TermPerforms l rs ⊎ TermPerforms r rs
  TermPerforms (Both l r) rs = (xs : List R) × (ys : List R) × Parts xs ys rs × TermPerforms l xs × TermPerforms r ys
  -- the front is not empty
  TermPerforms (Follow t c row) rs =
      (r : R) × (front : List R) × (rest : List R)
      × ((r ∷ front) ++ rest ≡ rs) × TermPerforms t (r ∷ front) × Performs K templates c row (end K (K.day r) front) rest

module _ {R : Type 0} (K : Meaning R) where
  abbrev pub TermAdmitted : Term → Type 0
  TermAdmitted Done = Unit {0}
  TermAdmitted Lost = Unit {0}
  TermAdmitted (Leaf e w cs tail row b) = (Admits K cs) × Admitted K tail × (Fits row)
  TermAdmitted (Choice x y) = TermAdmitted x × TermAdmitted y
  TermAdmitted (Both x y) = TermAdmitted x × TermAdmitted y
  TermAdmitted (Follow t c row) = TermAdmitted t × Admitted K c × (Fits row)
