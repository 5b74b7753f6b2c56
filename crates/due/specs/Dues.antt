-- What is due: the open steps of a term, leaf by leaf, left to right, each by its entry, first day and last day. Assumes nothing.
use Rattle.std.specs.Prelude.{ℕ, ◌+◌, List, [], ◌∷◌, ◌++◌}
use Rattle.language.specs.Clauses.{first, last}
use Rattle.language.specs.Terms.{Term, Done, Lost, Leaf, Choice, Both, Follow}

abbrev pub leaves : Term → ℕ
leaves Done = 0
leaves Lost = 0
leaves (Leaf e w cs tail row base) = 1
leaves (Choice l r) = leaves l + leaves r
leaves (Both l r) = leaves l + leaves r
leaves (Follow t c row) = leaves t

abbrev pub dues : Term → List ℕ
dues Done = []
dues Lost = []
dues (Leaf e w cs tail row base) = e ∷ first w base ∷ last w base ∷ []
dues (Choice l r) = dues l ++ dues r
dues (Both l r) = dues l ++ dues r
dues (Follow t c row) = dues t
