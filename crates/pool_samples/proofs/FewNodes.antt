-- There are at most as many nodes as seats.
use Rattle.std.proofs.Common.{◌≡◌, ℕ, zero, suc, ◌+◌, ◌≤◌, Bool, true, false, not, ◌&&◌, nat_eq, nat_le, List, [], ◌∷◌, length, filter, cond, refl, arith}
use Rattle.std.specs.List.{list_all}
use Rattle.std.proofs.lemmas.Bool.Decides.{nat_tests}
use Rattle.bt_rows.specs.Lists.{AreDistinct}
use Rattle.bt_rows.specs.Ranges.{is_from_to}
use Rattle.batch_model.specs.Finding.{Each}
use Rattle.batch_model.specs.Sound.{share_seat}
use Rattle.batch_model.specs.Variants.{NodeRow}
use Rattle.model_lists.proofs.KeptRows.{kept_pass, each_kept, distinct_kept}
use Rattle.model_lists.proofs.RowLists.{each_head, each_of_two, each_weaker, any_none}

module _ {R : Type 0} (r : R → R → Bool) (p : R → Bool) (related : (x y : R) → p x ≡ true → p y ≡ true → r x y ≡ true) where
  -- all rows stay where none passes
  all_stay : (xs : List R) → Each (λ x. not (p x)) xs → length (filter (λ x. not (p x)) xs) ≡ length xs
  all_stay [] h = refl
  all_stay (x ∷ xs) h = stay (not (p x)) (each_head (λ y. not (p y)) x xs h) (all_stay xs (others h))
    where
      others : Each (λ y. not (p y)) (x ∷ xs) → Each (λ y. not (p y)) xs
      others k = later (not (p x)) k
        where
          later : (b : Bool) → (b && list_all (λ y. not (p y)) xs) ≡ true → Each (λ y. not (p y)) xs
          later true m = m
          later false m = cc

      stay : (b : Bool) → b ≡ true → length (filter (λ y. not (p y)) xs) ≡ length xs
          → length (cond b (x ∷ filter (λ y. not (p y)) xs) (filter (λ y. not (p y)) xs)) ≡ length (x ∷ xs)
      stay true k m = omega (arith, m)
      stay false k m = cc

  -- one row at most passes
  one_at_most : (xs : List R) → AreDistinct r xs → length xs ≤ length (filter (λ x. not (p x)) xs) + 1
  one_at_most [] d = omega arith
  one_at_most (x ∷ xs) d = by_first (p x) refl (one_at_most xs d.1)
    where
      apart : p x ≡ true → (y : R) → not (r x y) ≡ true → not (p y) ≡ true
      apart e y n = turned (p y) refl
        where
          turned : (b : Bool) → p y ≡ b → not b ≡ true
          turned true k = let m : r x y ≡ true = related x y e k in cc
          turned false k = refl

      by_first : (b : Bool) → p x ≡ b → length xs ≤ length (filter (λ y. not (p y)) xs) + 1
          → length (x ∷ xs) ≤ length (cond (not b) (x ∷ filter (λ y. not (p y)) xs) (filter (λ y. not (p y)) xs)) + 1
      by_first true e k =
          let all : length (filter (λ y. not (p y)) xs) ≡ length xs =
          all_stay xs (each_weaker (λ y. not (r x y)) (λ y. not (p y)) (apart e) xs (any_none (r x) xs d.0))
          in
          omega (arith, all)
      by_first false e k = omega (arith, k)

-- nodes on different seats, which are from 1 to n
pub few_nodes : (n : ℕ) (nodes : List NodeRow) → AreDistinct share_seat nodes → Each (λ node. is_from_to 1 n node.seat) nodes → length nodes ≤ n
few_nodes zero [] d h = omega arith
few_nodes zero (node ∷ nodes) d h =
    let no : is_from_to 1 0 node.seat ≡ true = each_head (λ (other : NodeRow). is_from_to 1 0 other.seat) node nodes h in
    absurd (none node.seat no)
  where
    none : (seat : ℕ) → (nat_le 1 seat && nat_le seat 0) ≡ true → ⊥
    none seat k = grind (arith, nat_tests)
few_nodes (suc n) nodes d h =
    let fewer : length (filter (λ node. not (nat_eq node.seat (n + 1))) nodes) ≤ n =
    few_nodes n (filter (λ node. not (nat_eq node.seat (n + 1))) nodes)
    (distinct_kept (λ node. not (nat_eq node.seat (n + 1))) share_seat nodes d)
    (each_of_two (λ node. not (nat_eq node.seat (n + 1))) (λ node. is_from_to 1 (suc n) node.seat) (λ node. is_from_to 1 n node.seat)
    (λ node k m. below node.seat n k m)
    (filter (λ node. not (nat_eq node.seat (n + 1))) nodes) (kept_pass (λ node. not (nat_eq node.seat (n + 1))) nodes)
    (each_kept (λ node. not (nat_eq node.seat (n + 1))) (λ node. is_from_to 1 (suc n) node.seat) nodes h))
    in
    omega (arith, fewer, one_at_most share_seat (λ node. nat_eq node.seat (n + 1)) (λ x y. both x.seat y.seat (n + 1)) nodes d)
  where
    below : (seat n : ℕ) → not (nat_eq seat (n + 1)) ≡ true → (nat_le 1 seat && nat_le seat (suc n)) ≡ true → (nat_le 1 seat && nat_le seat n) ≡ true
    below seat n k m = grind (arith, nat_tests)

    both : (a b c : ℕ) → nat_eq a c ≡ true → nat_eq b c ≡ true → nat_eq a b ≡ true
    both a b c k m = grind (arith, nat_tests)
