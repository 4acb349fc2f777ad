use Rattle.std.proofs.Common.{◌≡◌, true, refl, sym, ◌∙◌, ap, arith}
use Rattle.std.specs.List.{list_all}
use Rattle.std.specs.Char.{is_ascii_digit}
use Rattle.bt_base.specs.Digits.{number_in}
use Rattle.bt_base.proofs.ReadNumbers.{text_of_digits, number_parsed}
use Rattle.bt_base.proofs.digits.read_number.Goals as goal

pub returns-then-not-has_digits : goal.returns-then-not-has_digits
unfolding number_in
returns-then-not-has_digits c = rw (← c.has_digits.ensures, c.if-not-has_digits.true) refl

pub returns-in-Some : goal.returns-in-Some
returns-in-Some c =
    let all : list_all is_ascii_digit c.args.text.now ≡ true = sym c.has_digits.ensures ∙ c.if-not-has_digits.false in
    let told = text_of_digits c.args.text.now all in
    let same : c.in-Some.text.now ≡ c.args.text.now = grind (arith, told, c.in-Some.ensures) in
    c.ok.ensures.value ∙ (number_parsed c.in-Some.text.now c.parse.result (rw same all) c.parse.ensures.value.0 ∙ ap number_in same)

pub returns-in-None : goal.returns-in-None
returns-in-None c =
    let all : list_all is_ascii_digit c.args.text.now ≡ true = sym c.has_digits.ensures ∙ c.if-not-has_digits.false in
    let told = text_of_digits c.args.text.now all in
    absurd (grind (arith, told, c.in-None.ensures))
