-- How many rows there are, and that the rows of the entries above stand in front of an entry's own.
use Rattle.std.proofs.Common.{◌≡◌, ℕ, zero, suc, ◌+◌, ◌-◌, ◌<◌, ◌≤◌, Bool, true, cond, ap, arith}
use Rattle.contract_file.specs.declared.files.File.{File}
use Rattle.openings.specs.Clauses.{clause_at}
use Rattle.spans.specs.Spans.{dated, rows_in, row_of}

module _ (f : File) where
  -- the rows of the entries from i on
  abbrev pub rows_from : ℕ → ℕ
  rows_from i = rows_in f (257 - i) i

  pub with_its_own : (i : ℕ) → i ≤ 256 → rows_from i ≡ row_of f i + cond (dated (clause_at f i)) 1 0
  unfolding rows_in
  with_its_own i h = let e : 257 - i ≡ suc (256 - i) = omega arith in ap (λ n. rows_in f n i) e

  pub those_above : (i : ℕ) → i ≤ 256 → row_of f i ≡ rows_from (suc i)
  those_above i h = let e : 256 - i ≡ 257 - suc i = omega arith in ap (λ n. rows_in f n (suc i)) e

  no_more_above : (n i k : ℕ) → i + n ≡ k → k ≤ 257 → rows_from k ≤ rows_from i
  no_more_above zero i k e h = let same : k ≡ i = omega arith in let q = ap rows_from same in omega (arith, q)
  no_more_above (suc n) i k e h = omega (arith, no_more_above n (suc i) k (omega arith) h, those_above i (omega arith), with_its_own i (omega arith))

  abbrev its_own : Bool → ℕ
  its_own b = cond b 1 0

  one_of : (i : ℕ) → dated (clause_at f i) ≡ true → its_own (dated (clause_at f i)) ≡ its_own true
  one_of i d = ap its_own d

  pub rows_of_entries_above_stand_in_front : (i k : ℕ) → i < k → k ≤ 256 → dated (clause_at f k) ≡ true → row_of f k < row_of f i
  rows_of_entries_above_stand_in_front i k h top d =
      omega (arith, those_above i (omega arith), no_more_above (k - suc i) (suc i) k (omega arith) (omega arith), with_its_own k top, one_of k d)
