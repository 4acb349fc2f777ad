-- The id of a node is an id.
use Rattle.std.proofs.Common.{◌≡◌, ℕ, ◌+◌, ◌%◌, ◌^◌, ◌<◌, ◌≤◌, true, false, not, List, [], ◌∷◌, ◌++◌, length, nat_eq, nat_lt}
use Rattle.std.proofs.Common.{None, Ok, refl, ap, ◌∙◌, arith}
use Rattle.std.specs.Prelude.{codes}
use Rattle.std.specs.Fmt.{decimal}
use Rattle.std.specs.List.{list_all, prefix_len, position_or_len}
use Rattle.std.proofs.lemmas.Bool.{and_parts, and_from, cond-true, not_from_true, not_from_false, le-ltb, ne_eqb}
use Rattle.std.proofs.lemmas.Bool.Decides.{nat_tests}
use Rattle.std.proofs.lemmas.Fmt.{decimal_by_steps, length-decimal-le}
use Rattle.std.proofs.lemmas.List.Folds.{list_all-append}
use Rattle.std.proofs.lemmas.List.Sums.{count_by-le-length}
use Rattle.bt_base.specs.Ids.{within, is_id_byte, character_count, bad_place, read_id}

digit_fits : (d : ℕ) → d < 10 → is_id_byte (48 + d) ≡ true
digit_fits d h = grind (arith, nat_tests)

one_digit_fits : (n : ℕ) → n < 10 → list_all is_id_byte ((48 + n) ∷ []) ≡ true
one_digit_fits n h = and_from _ _ (digit_fits n h) refl

more_digits_fit : (n : ℕ) (digits : List ℕ) → 10 ≤ n → list_all is_id_byte digits ≡ true →
    list_all is_id_byte (digits ++ (48 + n % 10) ∷ []) ≡ true
more_digits_fit n digits h fit =
    let last = one_digit_fits (n % 10) (omega arith) in
    list_all-append is_id_byte digits ((48 + n % 10) ∷ []) ∙ and_from _ _ fit last

digits_fit : (n : ℕ) → n < 2 ^ 64 → list_all is_id_byte (decimal n) ≡ true
digits_fit = decimal_by_steps (λ _ digits. list_all is_id_byte digits ≡ true) one_digit_fits more_digits_fit

whole_fits : (text : List ℕ) → list_all is_id_byte text ≡ true → position_or_len (λ b. not (is_id_byte b)) text ≡ length text
whole_fits [] h = refl
whole_fits (b ∷ text) h =
    let parts = and_parts (is_id_byte b) (list_all is_id_byte text) h in
    let passes = not_from_false (not (is_id_byte b)) (not_from_true (is_id_byte b) parts.0) in
    cond-true _ (1 + prefix_len (λ b. not (not (is_id_byte b))) text) 0 passes ∙ ap (λ n. 1 + n) (whole_fits text parts.1) ∙ omega arith

no_bad_place : (text : List ℕ) → list_all is_id_byte text ≡ true → bad_place text ≡ None
no_bad_place text h = rw (whole_fits text h, le-ltb (length text) (length text) (omega arith)) refl

-- the id of a node is one
pub node_id_read : (n : ℕ) → n < 2 ^ 64 → read_id (codes "node-" ++ decimal n) ≡ Ok (codes "node-" ++ decimal n)
unfolding read_id
node_id_read n h =
    let text = codes "node-" ++ decimal n in
    let few = count_by-le-length (λ b. not (within 128 191 b)) text in
    let short = length-decimal-le 20 n (omega arith) (omega arith) h in
    let shown : nat_lt 64 (character_count text) ≡ false = le-ltb _ _ (omega arith) in
    let fits = no_bad_place text (digits_fit n h) in
    let some : nat_eq (length text) 0 ≡ false = ne_eqb _ _ (λ e. omega (arith, e)) in
    rw (some, shown, fits) refl
