-- Which lists of records perform a clause: one rule for each sentence. Assumes nothing.
use Rattle.std.specs.Prelude.{◌≡◌, ℕ, ◌≤◌, true, List, [], ◌∷◌, ◌++◌, Some}
use Rattle.kinds.specs.declared.fields.Conditions.{Conditions}
use Rattle.kinds.specs.Rows.{Row, Arguments, fill, ListedArguments}
use Rattle.kinds.specs.Meaning.{Meaning, Admits}
use Rattle.language.specs.Clauses.{Window, Clause, done, lost, step, choice, both, then, call, first, last, body}

-- A list parts into two, order kept.
pub data Parts {R : Type 0} : List R → List R → List R → Type 0 where
  empty : Parts [] [] []
  to_left : {r : R} {xs ys zs : List R} → Parts xs ys zs → Parts (r ∷ xs) ys (r ∷ zs)
  to_right : {r : R} {xs ys zs : List R} → Parts xs ys zs → Parts xs (r ∷ ys) (r ∷ zs)

module _ {R : Type 0} (K : Meaning R) where
  -- The day on which a list ends that follows day b.
  abbrev pub end : ℕ → List R → ℕ
  end b [] = b
  end b (r ∷ rs) = end (K.day r) rs

  -- Days never fall, from day c to 65,535, and each record is one that there can be.
  abbrev pub InOrder : ℕ → List R → Type 0
  InOrder c [] = Unit {0}
  InOrder c (r ∷ rs) = (c ≤ K.day r) × (K.day r ≤ 65535) × (K.fits r ≡ true) × InOrder (K.day r) rs

  -- The record lies in the window by that base day.
  abbrev pub Inside : Window → ℕ → R → Type 0
  Inside w base r = (first w base ≤ K.day r) × (K.day r ≤ last w base)

  -- The kind admits the conditions of each step, tails included, and the arguments of calls fit.
  abbrev pub Admitted : Clause → Type 0
  Admitted done = Unit {0}
  Admitted lost = Unit {0}
  Admitted (step e w cs tail) = (Admits K cs) × Admitted tail
  Admitted (choice l r) = Admitted l × Admitted r
  Admitted (both l r) = Admitted l × Admitted r
  Admitted (then l r) = Admitted l × Admitted r
  Admitted (call k args) = ListedArguments args

  -- A list performs a clause from a row and a base day.
  pub data Performs (templates : List Clause) : Clause → Row → ℕ → List R → Type 0 where
    by_done : {row : Row} {base : ℕ} → Performs templates done row base []
    by_step : {e : ℕ} {w : Window} {cs : Conditions} {tail : Clause} {row row' : Row} {base : ℕ} {r : R} {rs : List R}
        → Inside w base r → K.meets cs row r ≡ Some row' → Performs templates tail row' (K.day r) rs
        → Performs templates (step e w cs tail) row base (r ∷ rs)
    by_left : {l r : Clause} {row : Row} {base : ℕ} {rs : List R}
        → Performs templates l row base rs → Performs templates (choice l r) row base rs
    by_right : {l r : Clause} {row : Row} {base : ℕ} {rs : List R}
        → Performs templates r row base rs → Performs templates (choice l r) row base rs
    by_both : {l r : Clause} {row : Row} {base : ℕ} {xs ys rs : List R}
        → Parts xs ys rs → Performs templates l row base xs → Performs templates r row base ys
        → Performs templates (both l r) row base rs
    by_then : {l r : Clause} {row : Row} {base : ℕ} {front rest rs : List R}
        → front ++ rest ≡ rs → Performs templates l row base front → Performs templates r row (end base front) rest
        → Performs templates (then l r) row base rs
    by_call : {k : ℕ} {args : Arguments} {row : Row} {base : ℕ} {rs : List R}
        → Performs templates (body templates k) (fill args row) base rs
        → Performs templates (call k args) row base rs
