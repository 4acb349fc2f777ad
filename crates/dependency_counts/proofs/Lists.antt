-- Lists of live tasks: what holds of each of them, and those after a place.
use Rattle.std.proofs.Common.{◌≡◌, ℕ, ◌+◌, ◌-◌, ◌<◌, Bool, true, List, [], ◌∷◌, ◌++◌, length, take, drop, Some, None, ◌∙◌, ap, subst, arith, length-drop}
use Rattle.std.specs.Option.{option_map_or}
use Rattle.std.specs.List.{find, position}
use Rattle.std.proofs.lemmas.List.{take_all}
use Rattle.std.proofs.lemmas.Bool.Decides.{Decides-ltb}
use Rattle.batch_model.specs.Finding.{Each}
use Rattle.batch_model.specs.Readiness.{waiting_count}
use Rattle.model_lists.proofs.Tests.{and_true, and_first, and_second}
use Rattle.model_lists.proofs.RowLists.{each_append, each_weaker, each_found}
use Rattle.model_lists.proofs.ChangedRows.{each_change_same}
use Rattle.dependency_counts.specs.Counts.{Live, CountKey, has_key, is_below, is_kept, is_new, has_few_ranges, with_satisfied, after_key, state_of, waiting_at}

-- a key before a number is before the next one
below_more : (n m : ℕ) (live : Live) → m ≡ n + 1 → is_below n live ≡ true → is_below m live ≡ true
below_more n m live e h = let lt : live.key.number < n = (Decides-ltb live.key.number n).0 h in (Decides-ltb live.key.number m).1 (omega arith)

-- the added task has the last key
pub kept_added : (n m : ℕ) (lives : List Live) (live : Live) → m ≡ n + 1 → live.key.number ≡ n → has_few_ranges live.task ≡ true → Each (is_kept n) lives
    → Each (is_kept m) (lives ++ live ∷ [])
kept_added n m lives live e k few kept =
    each_append (is_kept m) lives live
    (each_weaker (is_kept n) (is_kept m)
    (λ one h. and_true (below_more n m one e (and_first (is_below n one) (has_few_ranges one.task) h))
    (and_second (is_below n one) (has_few_ranges one.task) h))
    lives kept)
    (and_true ((Decides-ltb live.key.number m).1 (omega arith)) few)

-- the next number comes after all keys
pub next_new : (n : ℕ) (lives self : List Live) → lives ≡ self → Each (is_kept n) lives → is_new self (record { number = n }) ≡ true
next_new n lives self e kept =
    subst (λ xs. Each (is_below n) xs) e (each_weaker (is_kept n) (is_below n) (λ one h. and_first (is_below n one) (has_few_ranges one.task) h) lives kept)

-- a change of what satisfies keeps keys and ranges
pub kept_satisfied : (n : ℕ) (lives : List Live) (key : CountKey) (value : Bool) → Each (is_kept n) lives → Each (is_kept n) (with_satisfied lives key value)
kept_satisfied n lives key value kept = each_change_same (has_key key) (λ live. record live { satisfies = value }) (is_kept n) (λ live e h. h) lives kept

-- a live task names few ranges
pub found_few : (n : ℕ) (lives : List Live) (key : CountKey) (live : Live) → find (has_key key) lives ≡ Some live → Each (is_kept n) lives
    → has_few_ranges live.task ≡ true
found_few n lives key live e kept = and_second (is_below n live) (has_few_ranges live.task) (each_found (is_kept n) (has_key key) live lives e kept)

-- the tasks after the place of the key
pub after_place : (key : CountKey) (lives : List Live) (place : ℕ) → Some place ≡ position (has_key key) lives
    → take (length lives - (place + 1)) (drop (place + 1) lives) ≡ after_key key lives
after_place key lives place e =
    take_all (length lives - (place + 1)) (drop (place + 1) lives) (omega (arith, length-drop (place + 1) lives))
    ∙ ap (λ found. option_map_or (λ n. drop (n + 1) lives) found []) e

-- no task is after a key that no task has
pub after_none : (key : CountKey) (lives : List Live) → None ≡ position (has_key key) lives → [] ≡ after_key key lives
after_none key lives e = ap (λ found. option_map_or (λ n. drop (n + 1) lives) found []) e

-- what the live task with the key waits for
pub waiting_found : (key : CountKey) (xs ys lives self : List Live) (live : Live) (n : ℕ) → Some live ≡ find (has_key key) xs → xs ≡ lives
    → ys ≡ lives → lives ≡ self → n ≡ waiting_count (state_of ys) live.task → n ≡ waiting_at self key
waiting_found key xs ys lives self live n found first second view counts =
    counts
    ∙ ap (λ zs. waiting_count (state_of zs) live.task) (second ∙ view)
    ∙ ap (λ one. option_map_or (λ (live : Live). waiting_count (state_of self) live.task) one 0) (found ∙ ap (find (has_key key)) (first ∙ view))
