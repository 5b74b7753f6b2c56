-- A table of numbers that entries are marked with, each at its place.
use Rattle.std.specs.Prelude.{◌≡◌, ℕ, List, Some, None, Option, MatchOption, slice_index_or, slice_set}

-- what an entry is marked with
abbrev pub mark : List (Option ℕ) → ℕ → Option ℕ
mark marks k = slice_index_or marks k None

-- one mark is added: the number itself to what has none, and else what is chosen of the two; past the table nothing is
abbrev pub Marked : (ℕ → ℕ → ℕ → Type 0) → List (Option ℕ) → ℕ → ℕ → List (Option ℕ) → Type 0
Marked chosen old k n new = (m : ℕ) × (new ≡ slice_set old k (Some m)) × MatchOption (mark old k) (m ≡ n) (λ has. chosen has n m)
