-- The items of one group in the list of all items: after a push, after a change of a rank, and the first one within a bound.
use Rattle.std.proofs.Common.{◌≡◌, ℕ, suc, zero, ◌+◌, ◌<◌, ◌≤◌, Bool, true, false, cond, ◌&&◌, nat_le, List, [], ◌∷◌, ◌++◌, length, set, get_or}
use Rattle.std.proofs.Common.{Option, Some, None, refl, sym, ap, ◌∙◌, arith}
use Rattle.std.specs.Option.{option_map}
use Rattle.first_tree.specs.Ranks.{first_within}
use Rattle.ranked_groups.specs.Items.{Item, is_of, first_of, set_rank}
use Rattle.ranked_groups.specs.Groups.{ranks_of, places_from, count_before, place_within}

abbrev pub no_item : Item
no_item = record { group = []; rank = 0 }

-- one more at the end of a list, of which the first element may be left out
step_push : (a b : Bool) (y z : ℕ) (ys : List ℕ)
    → cond a (y ∷ cond b (ys ++ z ∷ []) ys) (cond b (ys ++ z ∷ []) ys) ≡ cond b (cond a (y ∷ ys) ys ++ z ∷ []) (cond a (y ∷ ys) ys)
step_push true true y z ys = refl
step_push true false y z ys = refl
step_push false true y z ys = refl
step_push false false y z ys = refl

pub ranks_push : (group : List ℕ) (items : List Item) (item : Item)
    → ranks_of group (items ++ item ∷ []) ≡ cond (is_of group item) (ranks_of group items ++ item.rank ∷ []) (ranks_of group items)
ranks_push group [] item = refl
ranks_push group (old ∷ items) item =
    ap (λ (rest : List ℕ). cond (is_of group old) (old.rank ∷ rest) rest) (ranks_push group items item)
    ∙ step_push (is_of group old) (is_of group item) old.rank item.rank (ranks_of group items)

pub places_push : (group : List ℕ) (number end : ℕ) (items : List Item) (item : Item) → end ≡ number + length items
    → places_from group number (items ++ item ∷ []) ≡ cond (is_of group item) (places_from group number items ++ end ∷ []) (places_from group number items)
places_push group number end [] item e =
    ap (λ (n : ℕ). cond (is_of group item) (n ∷ []) []) (let h : number ≡ end = omega arith in h)
places_push group number end (old ∷ items) item e =
    ap (λ (rest : List ℕ). cond (is_of group old) (number ∷ rest) rest) (places_push group (suc number) end items item (omega arith))
    ∙ step_push (is_of group old) (is_of group item) number end (places_from group (suc number) items)

-- counts of the group's items before a place
step_count : (a : Bool) (y : ℕ) (ys : List ℕ) → cond a (suc (length ys)) (length ys) ≡ length (cond a (y ∷ ys) ys)
step_count true y ys = refl
step_count false y ys = refl

pub count_all : (group : List ℕ) (items : List Item) → count_before group items (length items) ≡ length (ranks_of group items)
count_all group [] = refl
count_all group (item ∷ items) =
    ap (λ (n : ℕ). cond (is_of group item) (suc n) n) (count_all group items) ∙ step_count (is_of group item) item.rank (ranks_of group items)

pub count_push : (group : List ℕ) (items : List Item) (item : Item) (at : ℕ) → at ≤ length items
    → count_before group (items ++ item ∷ []) at ≡ count_before group items at
count_push group [] item zero l = refl
count_push group [] item (suc at) l = absurd (omega arith)
count_push group (old ∷ items) item zero l = refl
count_push group (old ∷ items) item (suc at) l =
    ap (λ (n : ℕ). cond (is_of group old) (suc n) n) (count_push group items item at (omega arith))

pub count_set : (group : List ℕ) (items : List Item) (place rank at : ℕ)
    → count_before group (set_rank items place rank) at ≡ count_before group items at
count_set group [] place rank at = refl
count_set group (item ∷ items) zero rank zero = refl
count_set group (item ∷ items) zero rank (suc at) = refl
count_set group (item ∷ items) (suc place) rank zero = refl
count_set group (item ∷ items) (suc place) rank (suc at) =
    ap (λ (n : ℕ). cond (is_of group item) (suc n) n) (count_set group items place rank at)

within_here : (a : Bool) (y : ℕ) (ys : List ℕ) → a ≡ true → 0 < length (cond a (y ∷ ys) ys)
within_here true y ys e = omega arith
within_here false y ys e = absurd (cc)

within_later : (a : Bool) (y n : ℕ) (ys : List ℕ) → n < length ys → cond a (suc n) n < length (cond a (y ∷ ys) ys)
within_later true y n ys l = omega arith
within_later false y n ys l = l

pub count_within : (group : List ℕ) (items : List Item) (place : ℕ) → place < length items → is_of group (get_or items place no_item) ≡ true
    → count_before group items place < length (ranks_of group items)
count_within group [] place l e = absurd (omega arith)
count_within group (item ∷ items) zero l e = within_here (is_of group item) item.rank (ranks_of group items) e
count_within group (item ∷ items) (suc place) l e =
    within_later (is_of group item) item.rank (count_before group items place) (ranks_of group items) (count_within group items place (omega arith) e)

-- the rank of an item is among its group's the one at the count before it
rank_here : (a : Bool) (y : ℕ) (ys : List ℕ) → a ≡ true → get_or (cond a (y ∷ ys) ys) 0 0 ≡ y
rank_here true y ys e = refl
rank_here false y ys e = absurd (cc)

rank_later : (a : Bool) (y n : ℕ) (ys : List ℕ) → get_or (cond a (y ∷ ys) ys) (cond a (suc n) n) 0 ≡ get_or ys n 0
rank_later true y n ys = refl
rank_later false y n ys = refl

pub rank_at : (group : List ℕ) (items : List Item) (place : ℕ) → place < length items → is_of group (get_or items place no_item) ≡ true
    → get_or (ranks_of group items) (count_before group items place) 0 ≡ (get_or items place no_item).rank
rank_at group [] place l e = absurd (omega arith)
rank_at group (item ∷ items) zero l e = rank_here (is_of group item) item.rank (ranks_of group items) e
rank_at group (item ∷ items) (suc place) l e =
    rank_later (is_of group item) item.rank (count_before group items place) (ranks_of group items) ∙ rank_at group items place (omega arith) e

-- a group has no more items than there are
fewer_by : (a : Bool) (y n : ℕ) (ys : List ℕ) → length ys ≤ n → length (cond a (y ∷ ys) ys) ≤ suc n
fewer_by true y n ys l = omega arith
fewer_by false y n ys l = omega arith

pub ranks_fewer : (group : List ℕ) (items : List Item) → length (ranks_of group items) ≤ length items
ranks_fewer group [] = omega arith
ranks_fewer group (item ∷ items) = fewer_by (is_of group item) item.rank (length items) (ranks_of group items) (ranks_fewer group items)

-- another rank for an item of the group
own_here : (a : Bool) (x y : ℕ) (ys : List ℕ) → a ≡ true → cond a (x ∷ ys) ys ≡ set (cond a (y ∷ ys) ys) 0 x
own_here true x y ys e = refl
own_here false x y ys e = absurd (cc)

own_later : (a : Bool) (x y n : ℕ) (ys : List ℕ) → cond a (y ∷ set ys n x) (set ys n x) ≡ set (cond a (y ∷ ys) ys) (cond a (suc n) n) x
own_later true x y n ys = refl
own_later false x y n ys = refl

pub ranks_set : (group : List ℕ) (items : List Item) (place rank : ℕ) → place < length items → is_of group (get_or items place no_item) ≡ true
    → ranks_of group (set_rank items place rank) ≡ set (ranks_of group items) (count_before group items place) rank
ranks_set group [] place rank l e = absurd (omega arith)
ranks_set group (item ∷ items) zero rank l e = own_here (is_of group item) rank item.rank (ranks_of group items) e
ranks_set group (item ∷ items) (suc place) rank l e =
    ap (λ (rest : List ℕ). cond (is_of group item) (item.rank ∷ rest) rest) (ranks_set group items place rank (omega arith) e)
    ∙ own_later (is_of group item) rank item.rank (count_before group items place) (ranks_of group items)

-- another rank for an item of another group
other_here : (a : Bool) (x y : ℕ) (ys : List ℕ) → a ≡ false → cond a (x ∷ ys) ys ≡ cond a (y ∷ ys) ys
other_here true x y ys e = absurd (cc)
other_here false x y ys e = refl

pub ranks_other : (group : List ℕ) (items : List Item) (place rank : ℕ) → is_of group (get_or items place no_item) ≡ false
    → ranks_of group (set_rank items place rank) ≡ ranks_of group items
ranks_other group [] place rank e = refl
ranks_other group (item ∷ items) zero rank e = other_here (is_of group item) rank item.rank (ranks_of group items) e
ranks_other group (item ∷ items) (suc place) rank e =
    ap (λ (rest : List ℕ). cond (is_of group item) (item.rank ∷ rest) rest) (ranks_other group items place rank e)

pub places_set : (group : List ℕ) (number : ℕ) (items : List Item) (place rank : ℕ)
    → places_from group number (set_rank items place rank) ≡ places_from group number items
places_set group number [] place rank = refl
places_set group number (item ∷ items) zero rank = refl
places_set group number (item ∷ items) (suc place) rank =
    ap (λ (rest : List ℕ). cond (is_of group item) (number ∷ rest) rest) (places_set group (suc number) items place rank)

-- the place of the group's first rank within the bound is that of the first such item
shifted : (number : ℕ) (r : Option ℕ) → option_map (λ (k : ℕ). suc number + k) r ≡ option_map (λ (k : ℕ). number + k) (option_map suc r)
shifted number None = refl
shifted number (Some k) = ap (λ (n : ℕ). Some n) (let h : suc number + k ≡ number + suc k = omega arith in h)

step_first : (a b : Bool) (bound rank number : ℕ) (ranks places : List ℕ) (r : Option ℕ) → b ≡ nat_le rank bound
    → place_within bound ranks places ≡ option_map (λ (k : ℕ). suc number + k) r
    → place_within bound (cond a (rank ∷ ranks) ranks) (cond a (number ∷ places) places)
    ≡ option_map (λ (k : ℕ). number + k) (cond (a && b) (Some 0) (option_map suc r))
step_first false b bound rank number ranks places r e h = h ∙ shifted number r
step_first true true bound rank number ranks places r e h =
    ap (λ (c : Bool). cond c (Some number) (place_within bound ranks places)) (sym e) ∙ ap (λ (n : ℕ). Some n) (let h : number ≡ number + 0 = omega arith in h)
step_first true false bound rank number ranks places r e h =
    ap (λ (c : Bool). cond c (Some number) (place_within bound ranks places)) (sym e) ∙ (h ∙ shifted number r)

first_from : (group : List ℕ) (bound number : ℕ) (items : List Item)
    → place_within bound (ranks_of group items) (places_from group number items) ≡ option_map (λ (k : ℕ). number + k) (first_of group bound items)
first_from group bound number [] = refl
first_from group bound number (item ∷ items) =
    step_first (is_of group item) (nat_le item.rank bound) bound item.rank number (ranks_of group items) (places_from group (suc number) items)
    (first_of group bound items) refl (first_from group bound (suc number) items)

from_zero : (r : Option ℕ) → option_map (λ (k : ℕ). 0 + k) r ≡ r
from_zero None = refl
from_zero (Some k) = ap (λ (n : ℕ). Some n) (let h : 0 + k ≡ k = omega arith in h)

pub first_place : (group : List ℕ) (bound : ℕ) (items : List Item)
    → place_within bound (ranks_of group items) (places_from group 0 items) ≡ first_of group bound items
first_place group bound items = first_from group bound 0 items ∙ from_zero (first_of group bound items)

-- the place beside the first rank within the bound
pub beside_none : (bound : ℕ) (ranks places : List ℕ) → first_within bound ranks ≡ None → place_within bound ranks places ≡ None
beside_none bound [] places h = refl
beside_none bound (rank ∷ ranks) [] h = refl
beside_none bound (rank ∷ ranks) (place ∷ places) h =
    none_by (nat_le rank bound) (first_within bound ranks) (place_within bound ranks places) place h (λ e. beside_none bound ranks places e)
  where
    none_by : (a : Bool) (p r : Option ℕ) (n : ℕ) → cond a (Some 0) (option_map suc p) ≡ None → (p ≡ None → r ≡ None) → cond a (Some n) r ≡ None
    none_by true p r n h f = absurd (cc)
    none_by false None r n h f = f refl
    none_by false (Some k) r n h f = absurd (cc)

pub record IsBeside (at : ℕ) (places : List ℕ) (r : Option ℕ) : Type 0 where
  pub within : at < length places
  pub is : r ≡ Some (get_or places at 0)

pub beside_some : (bound at : ℕ) (ranks places : List ℕ) → length places ≡ length ranks → first_within bound ranks ≡ Some at
    → IsBeside at places (place_within bound ranks places)
beside_some bound at [] places l h = absurd (cc)
beside_some bound at (rank ∷ ranks) [] l h = absurd (omega arith)
beside_some bound at (rank ∷ ranks) (place ∷ places) l h =
    some_by (nat_le rank bound) (first_within bound ranks) (place_within bound ranks places) at h (λ k e. beside_some bound k ranks places (omega arith) e)
  where
    some_by : (a : Bool) (p r : Option ℕ) (at : ℕ) → cond a (Some 0) (option_map suc p) ≡ Some at → ((k : ℕ) → p ≡ Some k → IsBeside k places r)
        → IsBeside at (place ∷ places) (cond a (Some place) r)
    some_by true p r zero h f = record { within = omega arith; is = refl }
    some_by true p r (suc at) h f = absurd (cc)
    some_by false None r at h f = absurd (cc)
    some_by false (Some k) r at h f =
        let next : at ≡ suc k = cc in
        let b = f k refl in
        let low = b.within in
        rw next (record { within = omega arith; is = b.is })
