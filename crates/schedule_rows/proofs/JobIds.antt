-- The ids of the jobs of schedules are ids.
use Rattle.std.proofs.Common.{◌≡◌, ℕ, ◌+◌, ◌%◌, ◌^◌, ◌<◌, ◌≤◌, suc, Bool, true, false, not, ◌&&◌, cond, List, [], ◌∷◌, ◌++◌, length, nat_eq, nat_lt}
use Rattle.std.proofs.Common.{Option, Some, None, Ok, refl, ap, ◌∙◌, arith, length-append}
use Rattle.std.specs.Prelude.{codes, if◌then◌else◌}
use Rattle.std.specs.Fmt.{decimal}
use Rattle.std.specs.Option.{option_map}
use Rattle.std.specs.List.{list_all, prefix_len, position_or_len}
use Rattle.std.proofs.lemmas.Bool.{and_parts, and_from, cond-true, not_from_true, not_from_false, le-ltb, ne_eqb}
use Rattle.std.proofs.lemmas.Bool.Decides.{nat_tests}
use Rattle.std.proofs.lemmas.Fmt.{decimal_by_steps, length-decimal-le}
use Rattle.std.proofs.lemmas.List.Folds.{list_all-append}
use Rattle.std.proofs.lemmas.List.Sums.{count_by-le-length}
use Rattle.bt_base.specs.Ids.{within, is_id_byte, character_count, bad_place, IsId, read_id}
use Rattle.bt_base.specs.declared.id.IdFault.TheVariants.{Empty, TooLong, BadCharacter}

digit_fits : (d : ℕ) → d < 10 → is_id_byte (48 + d) ≡ true
digit_fits d h = grind (arith, nat_tests)

one_digit_fits : (n : ℕ) → n < 10 → list_all is_id_byte ((48 + n) ∷ []) ≡ true
one_digit_fits n h = and_from _ _ (digit_fits n h) refl

more_digits_fit : (n : ℕ) (digits : List ℕ) → 10 ≤ n → list_all is_id_byte digits ≡ true →
    list_all is_id_byte (digits ++ (48 + n % 10) ∷ []) ≡ true
more_digits_fit n digits h fit =
    let last = one_digit_fits (n % 10) (omega arith) in
    list_all-append is_id_byte digits ((48 + n % 10) ∷ []) ∙ and_from _ _ fit last

digits_fit : (n : ℕ) → n < 2 ^ 64 → list_all is_id_byte (decimal n) ≡ true
digits_fit = decimal_by_steps (λ _ digits. list_all is_id_byte digits ≡ true) one_digit_fits more_digits_fit

whole_fits : (text : List ℕ) → list_all is_id_byte text ≡ true → position_or_len (λ b. not (is_id_byte b)) text ≡ length text
whole_fits [] h = refl
whole_fits (b ∷ text) h =
    let parts = and_parts (is_id_byte b) (list_all is_id_byte text) h in
    let passes = not_from_false (not (is_id_byte b)) (not_from_true (is_id_byte b) parts.0) in
    cond-true _ (1 + prefix_len (λ b. not (not (is_id_byte b))) text) 0 passes ∙ ap (λ n. 1 + n) (whole_fits text parts.1) ∙ omega arith

no_bad_place : (text : List ℕ) → list_all is_id_byte text ≡ true → bad_place text ≡ None
no_bad_place text h = rw (whole_fits text h, le-ltb (length text) (length text) (omega arith)) refl

-- conversely, the bytes of an id fit

all_fit : (text : List ℕ) → length text ≤ prefix_len (λ b. not (not (is_id_byte b))) text → list_all is_id_byte text ≡ true
all_fit [] h = refl
all_fit (b ∷ text) h = by_test (is_id_byte b) (all_fit text) h
  where
    by_test : (t : Bool) → (length text ≤ prefix_len (λ b. not (not (is_id_byte b))) text → list_all is_id_byte text ≡ true) →
        suc (length text) ≤ cond (not (not t)) (1 + prefix_len (λ b. not (not (is_id_byte b))) text) 0 → (t && list_all is_id_byte text) ≡ true
    by_test true next h = next (omega (arith, h))
    by_test false next h = absurd (omega (arith, h))

no_fault : (a b : Bool) (place : Option ℕ) → (if a then Some Empty else if b then Some TooLong else option_map (λ place. BadCharacter place) place) ≡ None
    → place ≡ None
no_fault true b place e = cc
no_fault false true place e = cc
no_fault false false None e = refl
no_fault false false (Some n) e = cc

test_fails : (t : Bool) (n : ℕ) → (if t then Some n else None) ≡ None → t ≡ false
test_fails true n e = cc
test_fails false n e = refl

not_below : (n m : ℕ) → nat_lt n m ≡ false → m ≤ n
not_below n m h = grind (arith, nat_tests)

id_fits : (text : List ℕ) → IsId text → list_all is_id_byte text ≡ true
id_fits text h =
    let none = no_fault (nat_eq (length text) 0) (nat_lt 64 (character_count text)) (bad_place text) h in
    let at = position_or_len (λ b. not (is_id_byte b)) text in
    all_fit text (not_below at (length text) (test_fails (nat_lt at (length text)) at none))

-- an id of at most 50 bytes, `-job-` and a number of at most 9 digits
pub job_id_read : (id : List ℕ) (n : ℕ) → IsId id → length id ≤ 50 → n ≤ 999999999 → read_id (id ++ (codes "-job-" ++ decimal n)) ≡ Ok (id ++
    (codes "-job-" ++ decimal n))
unfolding read_id
job_id_read id n known bound h =
    let wide : n < 2 ^ 64 = omega arith in
    let text = id ++ (codes "-job-" ++ decimal n) in
    let few = count_by-le-length (λ b. not (within 128 191 b)) text in
    let short = length-decimal-le 9 n (omega arith) (omega arith) wide in
    let long : length text ≡ length id + (5 + length (decimal n)) = length-append id (codes "-job-" ++ decimal n) ∙ omega arith in
    let shown : nat_lt 64 (character_count text) ≡ false = le-ltb _ _ (omega arith) in
    let all : list_all is_id_byte text ≡ true = list_all-append is_id_byte id (codes "-job-" ++ decimal n) ∙ and_from _ _ (id_fits id known)
    (digits_fit n wide) in
    let fits = no_bad_place text all in
    let some : nat_eq (length text) 0 ≡ false = ne_eqb _ _ (λ e. omega (arith, e)) in
    rw (some, shown, fits) refl
