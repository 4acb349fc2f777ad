-- What `parse` reads of digits.
use Rattle.std.proofs.Common.{◌≡◌, ℕ, ◌<◌, ◌^◌, List, true, Some, Result, Ok, Err, length, refl, rules, arith}
use Rattle.std.specs.Result.{result_ok}
use Rattle.std.specs.List.{list_all}
use Rattle.std.specs.Char.{is_ascii_digit}
use Rattle.std.specs.Result.{OkIff}
use Rattle.std.specs.Str.Parse.{digits_value, ParsesUnsigned}
use Rattle.std.proofs.lemmas.Str.{is_utf8-from_IsUtf8, IsUtf8-from_ascii}
use Rattle.std.proofs.lemmas.Str.Parse.{IsNumeralModel, numerals_by_value, parse_digits}
use Rattle.std.proofs.lemmas.Fmt.{IsAscii-from_digits}
use Rattle.bt_base.specs.Utf8.{utf8_text}
use Rattle.bt_base.specs.Digits.{number_in}

own : IsNumeralModel (λ ds. list_all is_ascii_digit ds ≡ true) (digits_value 10)
own = numerals_by_value _ (search rules)

pub text_of_digits : (bytes : List ℕ) → list_all is_ascii_digit bytes ≡ true → utf8_text bytes ≡ Some bytes
unfolding utf8_text
text_of_digits bytes h = rw (is_utf8-from_IsUtf8 bytes (IsUtf8-from_ascii bytes (IsAscii-from_digits bytes (own.to bytes h)))) refl

by_cases : {E : Type 0} (bytes : List ℕ) (r : Result ℕ E) → list_all is_ascii_digit bytes ≡ true → OkIff r ((0 < length bytes) × (digits_value 10 bytes < 2 ^ 64)) (digits_value 10 bytes) → result_ok r ≡ number_in bytes
unfolding number_in
by_cases bytes (Ok n) all h = rw all (grind (arith, h.0.0, h.0.1, h.1))
by_cases bytes (Err e) all h = rw all (grind (arith, h))

pub number_parsed : {E : Type 0} (bytes : List ℕ) (r : Result ℕ E) → list_all is_ascii_digit bytes ≡ true → ParsesUnsigned 64 10 bytes r → result_ok r ≡ number_in bytes
number_parsed bytes r all h = by_cases bytes r all (parse_digits own 64 bytes r h all)
