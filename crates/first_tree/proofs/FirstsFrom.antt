-- The first leaf from a place on that is at most a bound, by the halves of what a node covers.
use Rattle.std.proofs.Common.{◌≡◌, ℕ, ◌+◌, ◌-◌, ◌*◌, ◌/◌, ◌<◌, ◌≤◌, ◌^◌, IfSome, List, length, get_or, take, drop}
use Rattle.std.proofs.Common.{Option, Some, None, sym, ap, subst, ◌∙◌, arith, ⊎_elim}
use Rattle.std.specs.Option.{option_map}
use Rattle.std.proofs.lemmas.Bool.{cases_lt}
use Rattle.std.proofs.lemmas.List.{get_or-drop, length-drop}
use Rattle.std.proofs.lemmas.Nat.{pow_pos}
use Rattle.std.proofs.Math.Nat.{le-mul_of_pos_right}
use Rattle.first_tree.specs.Nodes.{IsTree, Covers, AreAbove, IsFirstOf, IsFirstFrom}
use Rattle.first_tree.specs.Ranks.{first_within, first_within_from, no_rank, IsWhole}
use Rattle.first_tree.proofs.Firsts.{first_none, first_at, leaf_at, ranks_length}
use Rattle.first_tree.proofs.Trees.{covers_wide, halves, bottom}

pub width_pos : (size at first width : ℕ) → Covers size at first width → 0 < width
width_pos size at first width covers =
    let pos = pow_pos covers.power.exponent in
    let is = covers.power.is in
    omega arith

pub node_within : (size at first width : ℕ) → Covers size at first width → at < size + size
node_within size at first width covers =
    let pos = width_pos size at first width covers in
    let more : at ≤ at * width = le-mul_of_pos_right at pos in
    omega (arith, covers.place, covers.fits)

pub half_less : (size at first width : ℕ) → Covers size at first width → width / 2 < width
half_less size at first width covers = let pos = width_pos size at first width covers in omega arith

pub half_fits : (size at first width : ℕ) → Covers size at first width → at < size → width / 2 + width / 2 ≡ width
half_fits size at first width covers above = let h = halves size at first width covers.power covers.place above in h.twice

pub left_covers : (size at first width : ℕ) → Covers size at first width → at < size → Covers size (2 * at) first (width / 2)
left_covers size at first width covers above =
    let h = halves size at first width covers.power covers.place above in
    let swap : at * 2 ≡ 2 * at = omega arith in
    let twice = h.twice in
    record {
      one = omega (arith, covers.one);
      place = ap (λ (n : ℕ). n * (width / 2)) (sym swap) ∙ h.left;
      power = h.power;
      fits = omega (arith, covers.fits);
    }

pub right_covers : (size at first width : ℕ) → Covers size at first width → at < size → Covers size (2 * at + 1) (first + width / 2) (width / 2)
right_covers size at first width covers above =
    let h = halves size at first width covers.power covers.place above in
    let swap : at * 2 ≡ 2 * at = omega arith in
    let twice = h.twice in
    record {
      one = omega (arith, covers.one);
      place = ap (λ (n : ℕ). (n + 1) * (width / 2)) (sym swap) ∙ h.right;
      power = h.power;
      fits = omega (arith, covers.fits);
    }

pub past_all : (nodes : List ℕ) (size bound first from end : ℕ) → end ≤ from → AreAbove nodes size bound first from end
past_all nodes size bound first from end past = record { each = λ leaf low after high. absurd (omega arith) }

pub above_all : (nodes : List ℕ) (size bound at first width from : ℕ) → IsTree nodes size → Covers size at first width → bound < get_or nodes at 0
    → AreAbove nodes size bound first from (first + width)
above_all nodes size bound at first width from tree covers above =
    record {
      each = λ leaf low after high.
          let least = covers_wide nodes size tree width covers.power at first leaf covers.one covers.place covers.fits low high in
          omega arith;
    }

pub leaf_first : (nodes : List ℕ) (size bound at first width from : ℕ) → Covers size at first width → from < first + width
    → get_or nodes at 0 ≤ bound → size ≤ at
    → IsFirstOf nodes size bound first from (first + width) first
leaf_first nodes size bound at first width from covers after passes below =
    let b = bottom size at first width covers.power covers.place covers.fits below in
    let place = b.0 in
    let wide = b.1 in
    record {
      low = omega arith;
      after = omega arith;
      high = omega arith;
      passes = subst (λ (n : ℕ). get_or nodes n 0 ≤ bound) place passes;
      before = record { each = λ leaf low after high. absurd (omega arith) };
    }

pub in_left : (nodes : List ℕ) (size bound first width from leaf : ℕ) → width / 2 + width / 2 ≡ width
    → IsFirstOf nodes size bound first from (first + width / 2) leaf → IsFirstOf nodes size bound first from (first + width) leaf
in_left nodes size bound first width from leaf twice is = record {
  low = is.low;
  after = is.after;
  high = omega (arith, is.high);
  passes = is.passes;
  before = is.before;
}

above_both : (nodes : List ℕ) (size bound first from middle end : ℕ) → AreAbove nodes size bound first from middle → AreAbove nodes size bound middle from end
    → AreAbove nodes size bound first from end
above_both nodes size bound first from middle end left right = record {
  each = λ leaf low after high.
      ⊎_elim (λ (h : leaf < middle). left.each leaf low after h) (λ (h : middle ≤ leaf). right.each leaf h after high) (cases_lt leaf middle);
}

-- none in the left half, so it is that of the right half
pub in_right : (nodes : List ℕ) (size bound first width from : ℕ) (found : Option ℕ) → width / 2 + width / 2 ≡ width
    → AreAbove nodes size bound first from (first + width / 2) → IsFirstFrom nodes size bound (first + width / 2) from (first + width / 2 + width / 2) found
    → IsFirstFrom nodes size bound first from (first + width) found
in_right nodes size bound first width from None twice left right =
    let end : first + width / 2 + width / 2 ≡ first + width = omega arith in
    above_both nodes size bound first from (first + width / 2) (first + width) left
    (subst (λ (n : ℕ). AreAbove nodes size bound (first + width / 2) from n) end right)
in_right nodes size bound first width from (Some leaf) twice left right = record {
  low = omega (arith, right.low);
  after = right.after;
  high = omega (arith, right.high);
  passes = right.passes;
  before = above_both nodes size bound first from (first + width / 2) leaf left right.before;
}

pub root_covers : (nodes : List ℕ) (size len : ℕ) → IsWhole nodes size len → Covers size 1 0 size
root_covers nodes size len whole = record {
  one = omega arith;
  place = omega arith;
  power = whole.power;
  fits = omega arith;
}

rank_at : (nodes : List ℕ) (size len from i : ℕ) → from + i < len → get_or (drop from (take len (drop size nodes))) i 0 ≡ get_or nodes (size + (from + i)) 0
rank_at nodes size len from i l = get_or-drop from (take len (drop size nodes)) i 0 ∙ leaf_at nodes size len (from + i) l

ranks_left : (nodes : List ℕ) (size len from : ℕ) → IsWhole nodes size len → length (drop from (take len (drop size nodes))) ≡ len - from
ranks_left nodes size len from whole = length-drop from (take len (drop size nodes)) ∙ ap (λ (n : ℕ). n - from) (ranks_length nodes size len whole)

-- the first leaf from the place on is the first rank from the place on
pub whole_from : (nodes : List ℕ) (size len from bound : ℕ) (found : Option ℕ) → IsWhole nodes size len → bound < no_rank
    → IsFirstFrom nodes size bound 0 from (0 + size) found → first_within_from from bound (take len (drop size nodes)) ≡ found
whole_from nodes size len from bound None whole small is =
    let ranks = take len (drop size nodes) in
    let left = ranks_left nodes size len from whole in
    let within = whole.within in
    ap (option_map (λ (place : ℕ). from + place))
    (first_none bound (drop from ranks) (λ i l.
    let here = rank_at nodes size len from i (omega arith) in
    let above = is.each (from + i) (omega arith) (omega arith) (omega arith) in
    omega arith))
whole_from nodes size len from bound (Some leaf) whole small is =
    let ranks = take len (drop size nodes) in
    let left = ranks_left nodes size len from whole in
    let after = is.after in
    let passes = is.passes in
    ⊎_elim
    (λ (e : leaf < len).
    let place : from + (leaf - from) ≡ leaf = omega arith in
    let first : first_within bound (drop from ranks) ≡ Some (leaf - from) =
    first_at bound (drop from ranks) (leaf - from) (omega arith)
    (let here = rank_at nodes size len from (leaf - from) (omega arith) ∙ ap (λ (n : ℕ). get_or nodes (size + n) 0) place in omega arith)
    (λ i low.
    let here = rank_at nodes size len from i (omega arith) in
    let above = is.before.each (from + i) (omega arith) (omega arith) (omega arith) in
    omega arith) in
    ap (option_map (λ (n : ℕ). from + n)) first ∙ ap (λ (n : ℕ). Some n) place)
    (λ (e : len ≤ leaf).
    let rest : get_or (drop size nodes) leaf 0 ≡ no_rank = whole.rest leaf e (omega (arith, is.high)) in
    let here : get_or (drop size nodes) leaf 0 ≡ get_or nodes (size + leaf) 0 = get_or-drop size nodes leaf 0 in
    absurd (omega arith))
    (cases_lt leaf len)

-- a place that is found can be counted up
pub next_fits : (nodes : List ℕ) (size len from bound : ℕ) (found : Option ℕ) → IsWhole nodes size len → length nodes < 2 ^ 64
    → IsFirstFrom nodes size bound 0 from (0 + size) found → IfSome found (λ place. place + 1 < 2 ^ 64)
next_fits nodes size len from bound None whole small is = tt
next_fits nodes size len from bound (Some leaf) whole small is = let long = whole.length in omega (arith, is.high)
