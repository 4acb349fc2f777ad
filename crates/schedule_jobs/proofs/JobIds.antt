-- Jobs of a schedule with different numbers have different ids.
use Rattle.std.proofs.Common.{◌≡◌, ◌<◌, ℕ, ◌+◌, ◌%◌, ◌^◌, Bool, true, false, nat_lt, List, [], ◌∷◌, ◌++◌, refl, sym, ap, ◌∙◌, arith}
use Rattle.std.specs.Char.{to_ascii_lowercase}
use Rattle.std.specs.Cmp.Lexicographic.{bytes_decides}
use Rattle.std.specs.Fmt.{decimal}
use Rattle.std.specs.Prelude.{codes}
use Rattle.std.proofs.lemmas.Bool.Decides.{nat_tests}
use Rattle.std.proofs.lemmas.Fmt.{decimal_by_steps, decimal_is_IsNumeral}
use Rattle.std.proofs.lemmas.List.{append_cancel_left, map-append}
use Rattle.bt_base.specs.Ids.{same, lowered}
use Rattle.schedule_rows.specs.Jobs.{job_id}

digit_stays : (d : ℕ) → d < 10 → to_ascii_lowercase (48 + d) ≡ 48 + d
digit_stays d h = let low : nat_lt (48 + d) 65 ≡ true = grind (arith, nat_tests) in rw low refl

-- digits have no case
decimal_lowered : (n : ℕ) → n < 2 ^ 64 → lowered (decimal n) ≡ decimal n
decimal_lowered =
    decimal_by_steps (λ n digits. lowered digits ≡ digits) (λ n h. ap (λ d. d ∷ []) (digit_stays n h))
    (λ n digits h e. map-append to_ascii_lowercase digits ((48 + n % 10) ∷ [])
    ∙ (ap (λ w. w ++ to_ascii_lowercase (48 + n % 10) ∷ []) e ∙ ap (λ d. digits ++ d ∷ []) (digit_stays (n % 10) (omega arith))))

decimal_once : (a b : ℕ) → a < 2 ^ 64 → b < 2 ^ 64 → decimal a ≡ decimal b → a ≡ b
decimal_once a b small_a small_b e =
    let of_a = (decimal_is_IsNumeral a small_a).1 in
    let of_b = (decimal_is_IsNumeral b small_b).1 in
    cc

id_lowered : (id : List ℕ) (n : ℕ) → n < 2 ^ 64 → lowered (job_id id n) ≡ lowered id ++ (lowered (codes "-job-") ++ decimal n)
unfolding job_id
id_lowered id n small =
    map-append to_ascii_lowercase id (codes "-job-" ++ decimal n)
    ∙ ap (λ w. lowered id ++ w)
    (map-append to_ascii_lowercase (codes "-job-") (decimal n) ∙ ap (λ w. lowered (codes "-job-") ++ w) (decimal_lowered n small))

same_lowered : (a b : List ℕ) → same a b ≡ true → lowered a ≡ lowered b
unfolding same
same_lowered a b e = (bytes_decides (lowered a) (lowered b)).0 e

one_number : (id : List ℕ) (a b : ℕ) → a < 2 ^ 64 → b < 2 ^ 64 → same (job_id id a) (job_id id b) ≡ true → a ≡ b
one_number id a b small_a small_b e =
    let whole = sym (id_lowered id a small_a) ∙ same_lowered (job_id id a) (job_id id b) e ∙ id_lowered id b small_b in
    let middle = append_cancel_left (lowered id) (lowered (codes "-job-") ++ decimal a) (lowered (codes "-job-") ++ decimal b) whole in
    decimal_once a b small_a small_b (append_cancel_left (lowered (codes "-job-")) (decimal a) (decimal b) middle)

pub later_other : (id : List ℕ) (earlier later : ℕ) → earlier < later → later < 2 ^ 64 → same (job_id id later) (job_id id earlier) ≡ false
later_other id earlier later h small = by_test (same (job_id id later) (job_id id earlier)) refl
  where
    by_test : (t : Bool) → same (job_id id later) (job_id id earlier) ≡ t → t ≡ false
    by_test true e =
        let one : later ≡ earlier = one_number id later earlier small (omega (arith, h, small)) e in
        absurd (omega (arith, h, one))
    by_test false e = refl
