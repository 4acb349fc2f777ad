-- The first rank that is at most a bound, by a search of the blocks' least ranks and then of one block.
use Rattle.std.proofs.Common.{◌≡◌, ℕ, suc, zero, ◌+◌, ◌-◌, ◌*◌, ◌/◌, ◌<◌, ◌≤◌, min, leb, List, [], ◌∷◌, length, get_or, drop}
use Rattle.std.proofs.Common.{Option, Some, None, sym, ap, subst, ◌∙◌, arith, ⊎_elim}
use Rattle.std.specs.Option.{option_map}
use Rattle.std.proofs.lemmas.List.{get_or-drop, length-drop}
use Rattle.std.proofs.lemmas.Bool.{cases_lt, le-leb, lt-leb, cond-true, cond-false}
use Rattle.first_tree.specs.Blocks.{NoneWithin, IsFirstWithin, IsFirstIn, IsInBlocks}
use Rattle.first_tree.specs.Ranks.{first_within, first_within_from}
use Rattle.first_tree.proofs.Firsts.{first_none, first_at}

-- what is found in a list is found one place later, if a rank above the bound is put before the list
one_later : (rank : ℕ) (ranks : List ℕ) (bound : ℕ) (found : Option ℕ) → bound < rank → IsFirstIn ranks 0 (length ranks) bound found
    → IsFirstIn (rank ∷ ranks) 0 (length (rank ∷ ranks)) bound (option_map suc found)
one_later rank ranks bound None above is = record { each = above_each }
  where
    above_each : (at : ℕ) → 0 ≤ at → at < length (rank ∷ ranks) → bound < get_or (rank ∷ ranks) at 0
    above_each zero low high = above
    above_each (suc at) low high = is.each at (omega arith) (omega arith)
one_later rank ranks bound (Some place) above is = record {
  low = omega arith;
  high = omega (arith, is.high);
  passes = is.passes;
  before = record { each = above_each };
}
  where
    above_each : (at : ℕ) → 0 ≤ at → at < suc place → bound < get_or (rank ∷ ranks) at 0
    above_each zero low high = above
    above_each (suc at) low high = is.before.each at (omega arith) (omega arith)

-- the place of the first rank within the bound, by its clauses
pub first_is : (bound : ℕ) (ranks : List ℕ) → IsFirstIn ranks 0 (length ranks) bound (first_within bound ranks)
first_is bound [] = record { each = λ at low high. absurd (omega arith) }
first_is bound (rank ∷ ranks) =
    ⊎_elim
    (λ (e : bound < rank).
    let is : option_map suc (first_within bound ranks) ≡ first_within bound (rank ∷ ranks) =
    sym (cond-false (leb rank bound) (Some 0) (option_map suc (first_within bound ranks)) (lt-leb rank bound e)) in
    subst (λ (found : Option ℕ). IsFirstIn (rank ∷ ranks) 0 (length (rank ∷ ranks)) bound found) is
    (one_later rank ranks bound (first_within bound ranks) e (first_is bound ranks)))
    (λ (e : rank ≤ bound).
    let is : Some 0 ≡ first_within bound (rank ∷ ranks) =
    sym (cond-true (leb rank bound) (Some 0) (option_map suc (first_within bound ranks)) (le-leb rank bound e)) in
    subst (λ (found : Option ℕ). IsFirstIn (rank ∷ ranks) 0 (length (rank ∷ ranks)) bound found) is
    (record {
      low = omega arith;
      high = omega arith;
      passes = e;
      before = record { each = λ at low high. absurd (omega arith) };
    }))
    (cases_lt bound rank)

-- the same for the ranks at or after a place
after : (from bound : ℕ) (ranks : List ℕ) (found : Option ℕ) → IsFirstIn (drop from ranks) 0 (length (drop from ranks)) bound found
    → IsFirstIn ranks from (length ranks) bound (option_map (λ place. from + place) found)
after from bound ranks None is = record {
  each = λ at low high.
      let left = length-drop from ranks in
      let here = is.each (at - from) (omega arith) (omega arith) in
      let same = get_or-drop from ranks (at - from) 0 in
      let place : from + (at - from) ≡ at = omega arith in
      let same' = ap (λ (n : ℕ). get_or ranks n 0) place in
      omega arith;
}
after from bound ranks (Some step) is =
    let left = length-drop from ranks in
    let high = is.high in
    let passes = is.passes in
    let same = get_or-drop from ranks step 0 in
    record {
      low = omega arith;
      high = omega arith;
      passes = omega arith;
      before = record {
        each = λ at low below.
            let here = is.before.each (at - from) (omega arith) (omega arith) in
            let equal = get_or-drop from ranks (at - from) 0 in
            let place : from + (at - from) ≡ at = omega arith in
            let equal' = ap (λ (n : ℕ). get_or ranks n 0) place in
            omega arith;
      };
    }

pub first_from_is : (from bound : ℕ) (ranks : List ℕ) → IsFirstIn ranks from (length ranks) bound (first_within_from from bound ranks)
first_from_is from bound ranks = after from bound ranks (first_within bound (drop from ranks)) (first_is bound (drop from ranks))

-- what a search returned, by its clauses
pub first_of : (bound place : ℕ) (ranks : List ℕ) → Some place ≡ first_within bound ranks → IsFirstWithin ranks 0 (length ranks) bound place
first_of bound place ranks found =
    subst (λ (f : Option ℕ). IsFirstIn ranks 0 (length ranks) bound f) (sym {A = Option ℕ} found) (first_is bound ranks)

pub none_of : (bound : ℕ) (ranks : List ℕ) → None ≡ first_within bound ranks → NoneWithin ranks 0 (length ranks) bound
none_of bound ranks found =
    subst (λ (f : Option ℕ). IsFirstIn ranks 0 (length ranks) bound f) (sym {A = Option ℕ} found) (first_is bound ranks)

pub first_from_of : (from bound place : ℕ) (ranks : List ℕ) → Some place ≡ first_within_from from bound ranks
    → IsFirstWithin ranks from (length ranks) bound place
first_from_of from bound place ranks found =
    subst (λ (f : Option ℕ). IsFirstIn ranks from (length ranks) bound f) (sym {A = Option ℕ} found) (first_from_is from bound ranks)

pub none_from_of : (from bound : ℕ) (ranks : List ℕ) → None ≡ first_within_from from bound ranks → NoneWithin ranks from (length ranks) bound
none_from_of from bound ranks found =
    subst (λ (f : Option ℕ). IsFirstIn ranks from (length ranks) bound f) (sym {A = Option ℕ} found) (first_from_is from bound ranks)

-- there is no rank between these places
pub none_before : (ranks : List ℕ) (from end bound : ℕ) → end ≤ from → NoneWithin ranks from end bound
none_before ranks from end bound apart = record { each = λ at low high. absurd (omega arith) }

-- the first before one place is the first before a later one
pub first_wider : (ranks : List ℕ) (from end most bound place : ℕ) → end ≤ most → IsFirstWithin ranks from end bound place
    → IsFirstWithin ranks from most bound place
first_wider ranks from end most bound place wide is = record {
  low = is.low;
  high = omega (arith, is.high);
  passes = is.passes;
  before = is.before;
}

-- a search goes on from a place where none was found before
pub first_joined : (ranks : List ℕ) (from end start bound : ℕ) (found : Option ℕ) → from ≤ start → end ≡ min start (length ranks)
    → NoneWithin ranks from end bound → IsFirstIn ranks start (length ranks) bound found → IsFirstIn ranks from (length ranks) bound found
first_joined ranks from end start bound None ordered is_end near is = record {
  each = λ at low high.
      ⊎_elim
      (λ (e : at < start). near.each at low (omega arith))
      (λ (e : start ≤ at). is.each at e high)
      (cases_lt at start);
}
first_joined ranks from end start bound (Some place) ordered is_end near is =
    let first = is.low in
    let last = is.high in
    record {
      low = omega arith;
      high = last;
      passes = is.passes;
      before = record {
        each = λ at low high.
            ⊎_elim
            (λ (e : at < start). near.each at low (omega arith))
            (λ (e : start ≤ at). is.before.each at e high)
            (cases_lt at start);
      };
    }

-- and these clauses say which place it is
pub is_first : (bound : ℕ) (ranks : List ℕ) (found : Option ℕ) → IsFirstIn ranks 0 (length ranks) bound found → found ≡ first_within bound ranks
is_first bound ranks None is = sym (first_none bound ranks (λ i l. is.each i (omega arith) l))
is_first bound ranks (Some place) is = sym (first_at bound ranks place is.high is.passes (λ i low. is.before.each i (omega arith) low))

pub is_first_from : (from bound : ℕ) (ranks : List ℕ) (found : Option ℕ) → IsFirstIn ranks from (length ranks) bound found
    → found ≡ first_within_from from bound ranks
is_first_from from bound ranks None is =
    sym (ap (option_map (λ (place : ℕ). from + place))
    (first_none bound (drop from ranks) (λ i l.
    let left = length-drop from ranks in
    let same = get_or-drop from ranks i 0 in
    let above = is.each (from + i) (omega arith) (omega arith) in
    omega arith)))
is_first_from from bound ranks (Some place) is =
    let low = is.low in
    let high = is.high in
    let left = length-drop from ranks in
    let sum : from + (place - from) ≡ place = omega arith in
    let here = get_or-drop from ranks (place - from) 0 ∙ ap (λ (n : ℕ). get_or ranks n 0) sum in
    let passes = is.passes in
    let first : first_within bound (drop from ranks) ≡ Some (place - from) =
    first_at bound (drop from ranks) (place - from) (omega arith) (omega arith)
    (λ i below.
    let same = get_or-drop from ranks i 0 in
    let above = is.before.each (from + i) (omega arith) (omega arith) in
    omega arith) in
    sym (ap (option_map (λ (n : ℕ). from + n)) first ∙ ap (λ (n : ℕ). Some n) sum)

-- ranks from a place up to a block are above the bound, and so are the blocks before another one
none_between : (ranks leasts : List ℕ) (from block later bound : ℕ) → IsInBlocks ranks leasts → later ≤ length leasts
    → NoneWithin ranks from (min (16 * block) (length ranks)) bound → NoneWithin leasts block later bound
    → NoneWithin ranks from (min (16 * later) (length ranks)) bound
none_between ranks leasts from block later bound blocks within near far = record {
  each = λ at low high.
      ⊎_elim
      (λ (e : at < 16 * block). near.each at low (omega arith))
      (λ (e : 16 * block ≤ at).
      let above : bound < get_or leasts (at / 16) 0 = far.each (at / 16) (omega arith) (omega arith) in
      let here : get_or leasts (at / 16) 0 ≤ get_or ranks at 0 = (blocks.least (at / 16) (omega arith)).each at (omega arith) (omega arith) in
      omega arith)
      (cases_lt at (16 * block));
}

-- no block is found
pub blocks_none : (ranks leasts : List ℕ) (from block bound : ℕ) → IsInBlocks ranks leasts
    → NoneWithin ranks from (min (16 * block) (length ranks)) bound → IsFirstIn leasts block (length leasts) bound None
    → IsFirstIn ranks from (length ranks) bound None
blocks_none ranks leasts from block bound blocks near far =
    let all = none_between ranks leasts from block (length leasts) bound blocks (omega arith) near far in
    let enough = blocks.enough in
    record { each = λ at low high. all.each at low (omega arith) }

-- a block is found, and then a rank in it
pub blocks_some : (ranks leasts : List ℕ) (from block bound later : ℕ) (found : Option ℕ) → IsInBlocks ranks leasts → from ≤ 16 * block
    → NoneWithin ranks from (min (16 * block) (length ranks)) bound → IsFirstIn leasts block (length leasts) bound (Some later)
    → IsFirstIn ranks (16 * later) (min (16 * later + 16) (length ranks)) bound found
    → IsFirstIn ranks from (length ranks) bound found
blocks_some ranks leasts from block bound later None blocks starts near first is =
    let passes = first.passes in
    let least = blocks.least later first.high in
    let there : get_or ranks least.place 0 ≡ get_or leasts later 0 = least.is in
    let above = is.each least.place least.low least.high in
    absurd (omega arith)
blocks_some ranks leasts from block bound later (Some place) blocks starts near first is =
    let low = is.low in
    let high = is.high in
    let after = first.low in
    let within = first.high in
    let all = none_between ranks leasts from block later bound blocks (omega arith) near first.before in
    record {
      low = omega arith;
      high = omega arith;
      passes = is.passes;
      before = record {
        each = λ at above below.
            ⊎_elim
            (λ (e : at < 16 * later). all.each at above (omega arith))
            (λ (e : 16 * later ≤ at). is.before.each at e below)
            (cases_lt at (16 * later));
      };
    }
