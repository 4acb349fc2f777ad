-- What the tasks show of the ids and of the numbers that a task depends on.
use Rattle.std.proofs.Common.{◌≡◌, ℕ, ◌+◌, ◌-◌, ◌<◌, Bool, true, false, ◌&&◌, ◌||◌, List, [], ◌∷◌, Option, Some, cond, map, find}
use Rattle.std.proofs.Common.{refl, sym, ◌∙◌, ap, arith}
use Rattle.std.specs.Option.{option_map_or}
use Rattle.std.specs.List.{list_any, list_all, range_with_len}
use Rattle.std.proofs.lemmas.List.Folds.{list_all-append, list_all-map}
use Rattle.std.proofs.lemmas.List.FromFn.{map-range_with_len_more}
use Rattle.bt_base.specs.Ids.{same}
use Rattle.bt_base.proofs.SameIds.{same_equiv}
use Rattle.bt_rows.specs.Keys.{same_task}
use Rattle.bt_rows.specs.Lists.{AreDistinct}
use Rattle.batch_model.specs.Readiness.{satisfies_others, is_id_satisfied}
use Rattle.batch_model.specs.Rows.{is_task}
use Rattle.batch_model.specs.Variants.{State, TaskRow}
use Rattle.model_lists.proofs.RowLists.{none_weaker}
use Rattle.model_lists.proofs.Tests.{and_true, and_first, and_second}

-- a test of the row with a key

or_none : (a b : Bool) → b ≡ false → (a || b) ≡ a
or_none true b h = refl
or_none false b h = h

module _ {R : Type 0} (same_key : R → R → Bool) (has_key test : R → Bool)
    (alike : (x y : R) → has_key x ≡ true → has_key y ≡ true → same_key x y ≡ true) where
  -- no other row with the key comes after the first
  none_behind : (x : R) (xs : List R) → has_key x ≡ true → list_any (same_key x) xs ≡ false → list_any (λ y. has_key y && test y) xs ≡ false
  none_behind x xs here apart = none_weaker (same_key x) (λ y. has_key y && test y) (λ y h. alike x y here (and_first (has_key y) (test y) h)) xs apart

  by_key : (x : R) (xs : List R) (b : Bool) → has_key x ≡ b → list_any (same_key x) xs ≡ false
      → list_any (λ y. has_key y && test y) xs ≡ option_map_or test (find has_key xs) false
      → ((b && test x) || list_any (λ y. has_key y && test y) xs) ≡ option_map_or test (cond b (Some x) (find has_key xs)) false
  by_key x xs true here apart ih = or_none (test x) (list_any (λ y. has_key y && test y) xs) (none_behind x xs here apart)
  by_key x xs false here apart ih = ih

  -- if keys are distinct, a row with the key passes exactly if the first one does
  pub any_with_key : (xs : List R) → AreDistinct same_key xs → list_any (λ y. has_key y && test y) xs ≡ option_map_or test (find has_key xs) false
  any_with_key [] d = refl
  any_with_key (x ∷ xs) d = by_key x xs (has_key x) refl d.0 (any_with_key xs d.1)

-- tasks with the same ids have the same key
alike_tasks : (job id : List ℕ) (x y : TaskRow) → is_task job id x ≡ true → is_task job id y ≡ true → same_task x y ≡ true
alike_tasks job id x y h k =
    and_true
    (same_equiv.congr x.job job y.job (and_first (same x.job job) (same x.id id) h) ∙ same_equiv.symm job y.job ∙ and_first (same y.job job) (same y.id id) k)
    (same_equiv.congr x.id id y.id (and_second (same x.job job) (same x.id id) h) ∙ same_equiv.symm id y.id ∙ and_second (same y.job job) (same y.id id) k)

-- an id is satisfied exactly if the task that is found by it satisfies others
pub id_satisfied : (s : State) (job id : List ℕ) (found : Option TaskRow) → AreDistinct same_task s.tasks → found ≡ find (is_task job id) s.tasks
    → option_map_or satisfies_others found false ≡ is_id_satisfied s job id
id_satisfied s job id found d e =
    ap (λ o. option_map_or satisfies_others o false) e ∙ sym (any_with_key same_task (is_task job id) satisfies_others (alike_tasks job id) s.tasks d)

-- a test of the numbers of a range, from the last one

and_one : (a b : Bool) → (a && (b && true)) ≡ (a && b)
and_one true true = refl
and_one true false = refl
and_one false b = refl

-- a range and the number after it
all_more : (test : ℕ → Bool) (a n last : ℕ) → a + n ≡ last
    → list_all test (range_with_len a (n + 1)) ≡ (list_all test (range_with_len a n) && test last)
all_more test a n last e =
    sym (list_all-map (λ b. b) test (range_with_len a (n + 1)))
    ∙ ap (list_all (λ b. b)) (map-range_with_len_more test a n last e)
    ∙ list_all-append (λ b. b) (map test (range_with_len a n)) (test last ∷ [])
    ∙ and_one (list_all (λ b. b) (map test (range_with_len a n))) (test last)
    ∙ ap (λ b. b && test last) (list_all-map (λ b. b) test (range_with_len a n))

-- a range by its last number, which is the one before n
all_to : (test : ℕ → Bool) (a n : ℕ) → a < n → list_all test (range_with_len a (n - a)) ≡ (list_all test (range_with_len a (n - 1 - a)) && test (n - 1))
all_to test a n h =
    let more : n - a ≡ (n - 1 - a) + 1 = omega arith in
    ap (λ k. list_all test (range_with_len a k)) more ∙ all_more test a (n - 1 - a) (n - 1) (omega arith)

and_passes : (a b : Bool) → b ≡ true → (a && b) ≡ a
and_passes true b h = h
and_passes false b h = refl

and_fails : (a b : Bool) → b ≡ false → (a && b) ≡ false
and_fails true b h = h
and_fails false b h = refl

-- if the last number passes, the range does exactly if the numbers before it do
pub last_passes : (test : ℕ → Bool) (a n : ℕ) → a < n → test (n - 1) ≡ true
    → list_all test (range_with_len a (n - a)) ≡ list_all test (range_with_len a (n - 1 - a))
last_passes test a n h e = all_to test a n h ∙ and_passes (list_all test (range_with_len a (n - 1 - a))) (test (n - 1)) e

-- if it does not, the range does not
pub last_fails : (test : ℕ → Bool) (a n : ℕ) → a < n → test (n - 1) ≡ false → list_all test (range_with_len a (n - a)) ≡ false
last_fails test a n h e = all_to test a n h ∙ and_fails (list_all test (range_with_len a (n - 1 - a))) (test (n - 1)) e
