-- An id has at most 64 bytes.
use Rattle.std.proofs.Common.{◌≡◌, ℕ, ◌+◌, ◌≤◌, Bool, true, false, not, cond, List, [], ◌∷◌, length, count_by, nat_eq, nat_lt}
use Rattle.std.proofs.Common.{Option, Some, None, refl, ap, ◌∙◌, ⊎_elim, arith}
use Rattle.std.specs.Option.{option_map}
use Rattle.std.specs.List.{prefix_len, position_or_len}
use Rattle.std.proofs.lemmas.Bool.{cases_Bool, cond-true, cond-false, ltb-false}
use Rattle.std.proofs.lemmas.Bool.Decides.{nat_tests}
use Rattle.std.proofs.lemmas.List.Sums.{sum_by-cons}
use Rattle.bt_base.specs.declared.id.IdFault.{IdFault}
use Rattle.bt_base.specs.declared.id.IdFault.TheVariants.{Empty, TooLong, BadCharacter}
use Rattle.bt_base.specs.Ids.{within, is_id_byte, character_count, bad_place, IsId}

-- if no number fails one test, and each that passes it passes another, all pass the other
count_all : (q r : ℕ → Bool) → ((x : ℕ) → q x ≡ true → r x ≡ true) → (xs : List ℕ) → length xs ≤ prefix_len q xs → count_by r xs ≡ length xs
count_all q r each [] h = refl
count_all q r each (x ∷ xs) h =
    ⊎_elim
    (λ (e : q x ≡ true).
    let more : prefix_len q (x ∷ xs) ≡ 1 + prefix_len q xs = cond-true (q x) (1 + prefix_len q xs) 0 e in
    let rest = count_all q r each xs (omega arith) in
    let one : cond {A = ℕ} (r x) 1 0 ≡ 1 = cond-true (r x) 1 0 (each x e) in
    let sum = sum_by-cons (λ (y : ℕ). cond {A = ℕ} (r y) 1 0) x xs in
    sum ∙ ap (λ (n : ℕ). n + count_by r xs) one ∙ omega (arith, rest))
    (λ (e : q x ≡ false).
    let none : prefix_len q (x ∷ xs) ≡ 0 = cond-false (q x) (1 + prefix_len q xs) 0 e in
    absurd (omega arith))
    (cases_Bool (q x))

is_one_byte : (x : ℕ) → not (not (is_id_byte x)) ≡ true → not (within 128 191 x) ≡ true
is_one_byte x h = grind (arith, nat_tests)

test_of_none : (b : Bool) (n : ℕ) → cond b (Some n) None ≡ None → b ≡ false
test_of_none true n h = absurd (cc)
test_of_none false n h = refl

last_faults : (a b : Bool) (e t : IdFault) (p : Option ℕ) → cond a (Some e) (cond b (Some t) (option_map (λ place. BadCharacter place) p)) ≡ None
    → (b ≡ false) × (p ≡ None)
last_faults true b e t p h = absurd (cc)
last_faults false true e t p h = absurd (cc)
last_faults false false e t None h = (refl, refl)
last_faults false false e t (Some k) h = absurd (cc)

pub id_short : (text : List ℕ) → IsId text → length text ≤ 64
id_short text h =
    let faults = last_faults (nat_eq (length text) 0) (nat_lt 64 (character_count text)) Empty TooLong (bad_place text) h in
    let few : character_count text ≤ 64 = ltb-false 64 (character_count text) faults.0 in
    let before = position_or_len (λ (b : ℕ). not (is_id_byte b)) text in
    let whole : length text ≤ before = ltb-false before (length text) (test_of_none (nat_lt before (length text)) before faults.1) in
    let count : character_count text ≡ length text =
    count_all (λ b. not (not (is_id_byte b))) (λ b. not (within 128 191 b)) is_one_byte text whole in
    omega arith
