-- The questions asked of a file's bytes, in their order. The answer is the first that fails, with the lowest entry at fault.
use Rattle.std.specs.Prelude.{◌≡◌, ℕ, ◌+◌, ◌*◌, ◌≤◌, true, List, [], ◌∷◌, length, is_some, slice_index}
use Rattle.contract_file.specs.Asking.{Question, of_whole, unasked}
use Rattle.entries.specs.Layout.{entry_of}
use Rattle.contract_file.specs.Files.{count_of, bytes_of, decoded}
use Rattle.contract_file.specs.Pointing.{Pointers}
use Rattle.contract_file.specs.Chains.{Chained}
use Rattle.contract_file.specs.Clauses.{Calls, Windows}

-- 1: a head of eight bytes, and 1 to 256 entries of sixteen
pub record RightLength (b : List ℕ) : Type 0 where
  pub whole : length b ≡ 8 + 16 * count_of b
  pub some : 1 ≤ count_of b
  pub few : count_of b ≤ 256

-- 2: the version byte
abbrev pub RightVersion : List ℕ → Type 0
RightVersion b = slice_index b 1 ≡ 1

-- 3: each entry has a listed tag, listed values, and zeros elsewhere
abbrev pub EntriesListed : List ℕ → Question
EntriesListed b i = 1 ≤ i → i ≤ count_of b → is_some (entry_of (bytes_of b i)) ≡ true

-- what reading asks: the questions 1 to 7; none has the number 0
abbrev pub reading : List ℕ → List Question
reading b =
    unasked
    ∷ of_whole (RightLength b)
    ∷ of_whole (RightVersion b)
    ∷ EntriesListed b
    ∷ Pointers (decoded b)
    ∷ Chained (decoded b)
    ∷ Calls (decoded b)
    ∷ Windows (decoded b)
    ∷ []
