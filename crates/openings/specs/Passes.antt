-- What a table holds that is filled from its last place to the first. Assumes nothing.
use Rattle.std.specs.Prelude.{◌≡◌, ℕ, ◌+◌, List, ◌++◌, drop, replicate}
use denote.Ref.{Bor}
use denote.Param.Members.{Shared}

-- A table as it stands when it is the turn of a place: told past that place, and untold up to it.
abbrev pub told_past : {A : Type 0} → A → List A → ℕ → List A
told_past untold table i = replicate (i + 1) untold ++ drop (i + 1) table

-- The rule may give the value for a place, where the table stands as given.
pub record Gives {F A : Type 0} (G : Shared F (ℕ × (Bor (List A) × Unit {0})) A) (rule : F) (i : ℕ) (table : List A) (value : A) : Type 0 where
  pub seen : Bor (List A)
  pub shows : seen.now ≡ table
  pub says : G.post rule (i, (seen, tt)) value
