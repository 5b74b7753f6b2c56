-- What a number is on a line: 1 to 10 decimal digits whose value fits 32 bits. Assumes nothing.
use Rattle.std.specs.Prelude.{ℕ, ◌+◌, ◌-◌, ◌*◌, Bool, cond, ◌&&◌, List, [], ◌∷◌, length, Some, None, Option, nat_le, nat_lt}

-- '0' to '9'
abbrev pub digit : ℕ → Bool
digit b = nat_le 48 b && nat_le b 57

-- the value of digits behind an earlier value, if they are digits
unfoldable pub value_from : ℕ → List ℕ → Option ℕ
value_from n [] = Some n
value_from n (b ∷ bs) = cond (digit b) (value_from (n * 10 + (b - 48)) bs) None

-- a value, if it fits 32 bits
abbrev pub fitting : Option ℕ → Option ℕ
fitting None = None
fitting (Some v) = cond (nat_lt v 4294967296) (Some v) None

unfoldable pub number_of : List ℕ → Option ℕ
number_of bs = cond (nat_le 1 (length bs) && nat_le (length bs) 10) (fitting (value_from 0 bs)) None
