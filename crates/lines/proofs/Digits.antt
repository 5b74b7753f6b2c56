-- Digits by the words of std and by those of `Numbers`.
use Rattle.std.proofs.Common.{◌≡◌, ℕ, ◌+◌, ◌-◌, ◌*◌, ◌<◌, ◌≤◌, true, false, List, [], ◌∷◌, length, Some, None, Result, Ok, Err, refl, arith, rules}
use Rattle.std.proofs.lemmas.Bool.Decides.{nat_tests}
use Rattle.std.specs.Char.{is_ascii_digit}
use Rattle.std.specs.List.{list_all}
use Rattle.std.specs.Str.{IsUtf8, IsAscii}
use Rattle.std.specs.Str.Parse.{ParsesUnsigned, digits_value, digits_value_after}
use Rattle.std.specs.Result.{result_ok}
use Rattle.std.proofs.lemmas.Str.{IsUtf8-from_ascii}
use Rattle.std.proofs.lemmas.Str.Ascii.{IsAscii-nil, IsAscii-cons}
use Rattle.std.proofs.lemmas.Str.Parse.{IsNumeralModel, numerals_by_value, parse_digits}
use Rattle.lines.specs.Numbers.{value_from, number_of}

abbrev AreDigits : List ℕ → Type 0
AreDigits bs = list_all is_ascii_digit bs ≡ true

-- the digits that std's `parse` reads
own : IsNumeralModel AreDigits (digits_value 10)
own = numerals_by_value _ (search rules)

ascii : (bs : List ℕ) → AreDigits bs → IsAscii bs
ascii [] h = IsAscii-nil
ascii (b ∷ bs) h = IsAscii-cons b bs (grind (arith, nat_tests)) (ascii bs (grind (arith, nat_tests)))

-- digits alone are a text
pub utf8 : (bs : List ℕ) → AreDigits bs → IsUtf8 bs
utf8 bs h = IsUtf8-from_ascii bs (ascii bs h)

value_from-digits : (n : ℕ) (bs : List ℕ) → AreDigits bs → value_from n bs ≡ Some (digits_value_after 10 n bs)
unfolding value_from
value_from-digits n [] h = refl
value_from-digits n (b ∷ bs) h = grind (arith, nat_tests, value_from-digits (n * 10 + (b - 48)) bs)

value_from-other : (n : ℕ) (bs : List ℕ) → list_all is_ascii_digit bs ≡ false → value_from n bs ≡ None
unfolding value_from
value_from-other n [] h = absurd (cc)
value_from-other n (b ∷ bs) h = grind (arith, nat_tests, value_from-other (n * 10 + (b - 48)) bs)

pub number_of-long : (bs : List ℕ) → 10 < length bs → number_of bs ≡ None
unfolding number_of
number_of-long bs h = grind (arith, nat_tests)

pub number_of-other : (bs : List ℕ) → list_all is_ascii_digit bs ≡ false → number_of bs ≡ None
unfolding number_of
number_of-other bs h = grind (arith, nat_tests, value_from-other 0 bs h)

-- what `parse` reads of digits alone
pub parsed : {E : Type 0} (bs : List ℕ) (r : Result ℕ E) → AreDigits bs → length bs ≤ 10 → ParsesUnsigned 32 10 bs r → result_ok r ≡ number_of bs
unfolding number_of
parsed {E} bs (Ok v) h short p = grind (arith, nat_tests, value_from-digits 0 bs h, parse_digits own {E = E} 32 bs (Ok v) p h)
parsed {E} bs (Err e) h short p = grind (arith, nat_tests, value_from-digits 0 bs h, parse_digits own {E = E} 32 bs (Err e) p h)
