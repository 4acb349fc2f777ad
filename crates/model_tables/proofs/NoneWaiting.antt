-- A task is unblocked exactly if none of its dependencies waits.
use Rattle.std.proofs.Common.{◌≡◌, ℕ, ◌+◌, Bool, true, false, not, ◌&&◌, nat_eq, List, [], ◌∷◌, sum_by, cond, refl, ◌∙◌, arith}
use Rattle.std.specs.List.{list_all}
use Rattle.std.proofs.lemmas.Bool.Decides.{Decides-eqb}
use Rattle.std.proofs.lemmas.List.Sums.{sum_by-cons}
use Rattle.batch_model.specs.Readiness.{is_id_satisfied, is_number_satisfied, numbers_of, is_span_satisfied, is_unblocked, waiting_count}
use Rattle.batch_model.specs.Variants.{State, TaskRow}
use Rattle.model_lists.proofs.Tests.{and_true, and_first, and_second, alike}

-- a sum of two is nothing exactly if both are
zero_of_two : (a b : ℕ) → nat_eq (a + b) 0 ≡ (nat_eq a 0 && nat_eq b 0)
zero_of_two a b =
    alike (nat_eq (a + b) 0) (nat_eq a 0 && nat_eq b 0)
    (λ h. let none : a + b ≡ 0 = (Decides-eqb (a + b) 0).0 h in
    and_true ((Decides-eqb a 0).1 (omega (arith, none))) ((Decides-eqb b 0).1 (omega (arith, none))))
    (λ h. let first : a ≡ 0 = (Decides-eqb a 0).0 (and_first (nat_eq a 0) (nat_eq b 0) h) in
    let second : b ≡ 0 = (Decides-eqb b 0).0 (and_second (nat_eq a 0) (nat_eq b 0) h) in
    (Decides-eqb (a + b) 0).1 (omega (arith, first, second)))

-- a sum over a list is nothing exactly if each part is
sum_zero : {A : Type 0} (f : A → ℕ) (q : A → Bool) → ((x : A) → nat_eq (f x) 0 ≡ q x) → (xs : List A) → nat_eq (sum_by f xs) 0 ≡ list_all q xs
sum_zero f q each [] = refl
sum_zero f q each (x ∷ xs) = rw (sum_by-cons f x xs, zero_of_two (f x) (sum_by f xs), each x, sum_zero f q each xs) refl

-- what counts one unless it passes
counted : (b : Bool) → nat_eq (cond {A = ℕ} (not b) 1 0) 0 ≡ b
counted true = refl
counted false = refl

-- two tests that are like two others
both_alike : {a b c d : Bool} → a ≡ c → b ≡ d → (a && b) ≡ (c && d)
both_alike h k = rw (h, k) refl

-- no id and no number of a range waits exactly if all are satisfied
pub none_waiting : (s : State) (task : TaskRow) → nat_eq (waiting_count s task) 0 ≡ is_unblocked s task
none_waiting s task =
    let ids =
    sum_zero (λ id. cond {A = ℕ} (not (is_id_satisfied s task.job id)) 1 0) (is_id_satisfied s task.job)
    (λ id. counted (is_id_satisfied s task.job id)) task.needs
    in
    let ranges =
    sum_zero (λ (span : ℕ × ℕ). sum_by (λ n. cond {A = ℕ} (not (is_number_satisfied s task.job n)) 1 0) (numbers_of span)) (is_span_satisfied s task.job)
    (λ span. sum_zero (λ n. cond {A = ℕ} (not (is_number_satisfied s task.job n)) 1 0) (is_number_satisfied s task.job)
    (λ n. counted (is_number_satisfied s task.job n)) (numbers_of span)) task.spans
    in
    zero_of_two (sum_by (λ id. cond {A = ℕ} (not (is_id_satisfied s task.job id)) 1 0) task.needs)
    (sum_by (λ (span : ℕ × ℕ). sum_by (λ n. cond {A = ℕ} (not (is_number_satisfied s task.job n)) 1 0) (numbers_of span)) task.spans)
    ∙ both_alike ids ranges
