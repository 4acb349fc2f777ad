-- Texts whose words, ids and numbers were worked out by hand, computed.
use Rattle.std.proofs.Common.{◌≡◌, [], ◌∷◌, Some, None, Ok, Err, map, refl}
use Rattle.std.specs.Prelude.{codes, pos, negsuc}
use Rattle.std.specs.Fmt.{digits}
use Rattle.bt_base.specs.declared.id.IdFault.TheVariants.{Empty, BadCharacter}
use Rattle.bt_base.specs.declared.line.LineFault.TheVariants.{NoWord, OpenQuote}
use Rattle.bt_base.specs.declared.number.NumFault.TheVariants.{NotANumber, TooLarge, DivideByZero}
use Rattle.bt_base.specs.CommandLines.{read_words}
use Rattle.bt_base.specs.Ids.{read_id, id_number}
use Rattle.bt_base.specs.Numbers.{read_number, number_text, quotient_of, bounded, is_digits, zeros, millionths_of, fraction_text, decimals}

words_of_lines : map read_words
    (codes "sh -c \"echo hi\"" ∷ codes "a\"b c\"d" ∷ codes "\"\"" ∷ codes "\"a\\\"b\"" ∷ codes "\"a\\\\b\\c\"" ∷ codes "a\\b" ∷ codes " " ∷ codes "a \"b" ∷
    []) ≡
    Ok (codes "sh" ∷ codes "-c" ∷ codes "echo hi" ∷ []) ∷
    Ok (codes "ab cd" ∷ []) ∷
    Ok ([] ∷ []) ∷
    Ok (codes "a\"b" ∷ []) ∷
    Ok (codes "a\\b\\c" ∷ []) ∷
    Ok (codes "a\\b" ∷ []) ∷
    Err NoWord ∷
    Err OpenQuote ∷
    []
unfolding read_words
words_of_lines = refl

ids : map read_id (codes "Pool-1_a" ∷ [] ∷ codes "a b" ∷ codes "ä" ∷ []) ≡ Ok (codes "Pool-1_a") ∷ Err Empty ∷ Err (BadCharacter 1) ∷ Err (BadCharacter 0) ∷ []
unfolding read_id
ids = refl

id_numbers : map id_number (codes "004" ∷ codes "2x" ∷ codes "2147483647" ∷ codes "2147483648" ∷ []) ≡ Some 4 ∷ None ∷ Some 2147483647 ∷ None ∷ []
unfolding id_number
id_numbers = refl

numbers : map read_number (codes "0.1234567" ∷ codes "-0012.50" ∷ codes "1000000000001" ∷ codes "1." ∷ codes ".5" ∷ codes "-" ∷ []) ≡
    Ok (pos 123456) ∷ Ok (negsuc 12499999) ∷ Err TooLarge ∷ Err NotANumber ∷ Err NotANumber ∷ Err NotANumber ∷ []
unfolding read_number bounded is_digits millionths_of zeros
numbers = refl

number_texts : map number_text (pos 123456 ∷ negsuc 12499999 ∷ pos 0 ∷ pos 1000000000000000000 ∷ []) ≡
    codes "0.123456" ∷ codes "-12.5" ∷ codes "0" ∷ codes "1000000000000" ∷ []
unfolding number_text fraction_text decimals digits
number_texts = refl

quotients : quotient_of (pos 1000000) (pos 3000000) ∷ quotient_of (negsuc 999999) (pos 3000000) ∷ quotient_of (pos 6000000) (negsuc 3999999) ∷ quotient_of
    (pos 1) (pos 0) ∷ [] ≡
    Ok (pos 333333) ∷ Ok (negsuc 333332) ∷ Ok (negsuc 1499999) ∷ Err DivideByZero ∷ []
unfolding bounded
quotients = refl
