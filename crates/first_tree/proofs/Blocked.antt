-- The least ranks of blocks after a change of a rank, or with one more.
use Rattle.std.proofs.Common.{◌≡◌, ◌≢◌, ℕ, ◌+◌, ◌*◌, ◌/◌, ◌<◌, ◌≤◌, min, List, [], ◌∷◌, ◌++◌, length, set, get_or, sym, ap, subst, ◌∙◌, refl, arith, length-append, ⊎_elim}
use Rattle.std.proofs.lemmas.List.{get_or-set_same, get_or-set_other, length-set}
use Rattle.std.proofs.Math.ListN.{get_or-append}
use Rattle.std.proofs.Math.Seq.{get_or-append_seam}
use Rattle.std.proofs.lemmas.Bool.{cases_eq, cases_lt}
use Rattle.first_tree.specs.Blocks.{IsLeastIn, IsInBlocks}
use Rattle.first_tree.specs.Ranks.{least_rank}
use Rattle.first_tree.proofs.Leasts.{least_most, least_below, least_above}

-- the least of one rank
pub least_one : (ranks : List ℕ) (from : ℕ) → IsLeastIn ranks from (from + 1) (get_or ranks from 0)
least_one ranks from = record {
  each = λ at low high. let e : at ≡ from = omega arith in rw e (omega arith);
  place = from;
  low = omega arith;
  high = omega arith;
  is = refl;
}

-- the least with one more rank
pub least_more : (ranks : List ℕ) (from end least : ℕ) → from ≤ end → IsLeastIn ranks from end least
    → IsLeastIn ranks from (end + 1) (min least (get_or ranks end 0))
least_more ranks from end least ordered old =
    let each : (at : ℕ) → from ≤ at → at < end + 1 → min least (get_or ranks end 0) ≤ get_or ranks at 0 =
    (λ (at : ℕ) (low : from ≤ at) (high : at < end + 1).
    ⊎_elim
    (λ (e : at < end). let here : least ≤ get_or ranks at 0 = old.each at low e in omega arith)
    (λ (e : end ≤ at). let last : at ≡ end = omega arith in rw last (omega arith))
    (cases_lt at end)) in
    ⊎_elim
    (λ (e : least < get_or ranks end 0).
    let is = old.is in
    record { each = each; place = old.place; low = old.low; high = omega (arith, old.high); is = omega arith })
    (λ (e : get_or ranks end 0 ≤ least). record { each = each; place = end; low = ordered; high = omega arith; is = omega arith })
    (cases_lt least (get_or ranks end 0))

-- the same where these ranks are the same
pub least_same : (old new : List ℕ) (from end least : ℕ) → ((at : ℕ) → from ≤ at → at < end → get_or new at 0 ≡ get_or old at 0)
    → IsLeastIn old from end least → IsLeastIn new from end least
least_same old new from end least same is = record {
  each = λ at low high. let e = same at low high in let here = is.each at low high in omega arith;
  place = is.place;
  low = is.low;
  high = is.high;
  is = same is.place is.low is.high ∙ is.is;
}

-- another number of the block that comes after the block's last rank
pub least_to : (ranks : List ℕ) (from end other least : ℕ) → end ≡ other → IsLeastIn ranks from end least → IsLeastIn ranks from other least
least_to ranks from end other least same is = subst (λ (n : ℕ). IsLeastIn ranks from n least) same is

-- a rank is changed, and the least rank of its block is found again
pub blocks_set : (ranks leasts : List ℕ) (at rank block least : ℕ) → block ≡ at / 16 → at < length ranks → IsInBlocks ranks leasts
    → IsLeastIn (set ranks at rank) (16 * block) (min (16 * block + 16) (length ranks)) least → IsInBlocks (set ranks at rank) (set leasts block least)
blocks_set ranks leasts at rank block least is_of within old here =
    let long : length (set ranks at rank) ≡ length ranks = length-set ranks at rank in
    let wide : length (set leasts block least) ≡ length leasts = length-set leasts block least in
    let enough = old.enough in
    let few = old.few in
    let inside : block < length leasts = omega arith in
    record {
      enough = omega arith;
      few = omega arith;
      least = λ b low.
          let low' : b < length leasts = omega arith in
          ⊎_elim
          (λ (e : b ≡ block).
          let is : get_or (set leasts block least) b 0 ≡ least = ap (λ (n : ℕ). get_or (set leasts block least) n 0) e ∙ get_or-set_same leasts block least 0 inside in
          let ends : min (16 * block + 16) (length ranks) ≡ min (16 * b + 16) (length (set ranks at rank)) = omega arith in
          let starts : 16 * block ≡ 16 * b = omega arith in
          rw is (least_to (set ranks at rank) (16 * b) (min (16 * block + 16) (length ranks)) (min (16 * b + 16) (length (set ranks at rank))) least ends
          (subst (λ (n : ℕ). IsLeastIn (set ranks at rank) n (min (16 * block + 16) (length ranks)) least) starts here)))
          (λ (apart : b ≢ block).
          let is : get_or (set leasts block least) b 0 ≡ get_or leasts b 0 = get_or-set_other leasts block b least 0 apart in
          let ends : min (16 * b + 16) (length ranks) ≡ min (16 * b + 16) (length (set ranks at rank)) = omega arith in
          rw is (least_to (set ranks at rank) (16 * b) (min (16 * b + 16) (length ranks)) (min (16 * b + 16) (length (set ranks at rank))) (get_or leasts b 0) ends
          (least_same ranks (set ranks at rank) (16 * b) (min (16 * b + 16) (length ranks)) (get_or leasts b 0)
          (λ i first last. let other : i ≢ at = (λ (e : i ≡ at). apart (omega arith)) in get_or-set_other ranks at i rank 0 other)
          (old.least b low'))))
          (cases_eq b block);
    }

-- a rank is added to the last block
pub blocks_more : (ranks leasts : List ℕ) (rank block : ℕ) → block ≡ length ranks / 16 → block < length leasts → IsInBlocks ranks leasts
    → IsInBlocks (ranks ++ rank ∷ []) (set leasts block (min (get_or leasts block 0) rank))
blocks_more ranks leasts rank block is_of inside old =
    let new = ranks ++ rank ∷ [] in
    let least = min (get_or leasts block 0) rank in
    let long : length new ≡ length ranks + 1 = length-append ranks (rank ∷ []) in
    let wide : length (set leasts block least) ≡ length leasts = length-set leasts block least in
    let enough = old.enough in
    let few = old.few in
    let last : get_or new (length ranks) 0 ≡ rank = get_or-append_seam ranks rank [] 0 in
    let kept : (b : ℕ) → b < length leasts → IsLeastIn new (16 * b) (min (16 * b + 16) (length ranks)) (get_or leasts b 0) =
    (λ (b : ℕ) (low : b < length leasts).
    least_same ranks new (16 * b) (min (16 * b + 16) (length ranks)) (get_or leasts b 0)
    (λ i first end. get_or-append ranks (rank ∷ []) 0 i (omega arith)) (old.least b low)) in
    record {
      enough = omega arith;
      few = omega arith;
      least = λ b low.
          let low' : b < length leasts = omega arith in
          ⊎_elim
          (λ (e : b ≡ block).
          let same : get_or leasts b 0 ≡ get_or leasts block 0 = ap (λ (n : ℕ). get_or leasts n 0) e in
          let is : get_or (set leasts block least) b 0 ≡ least = ap (λ (n : ℕ). get_or (set leasts block least) n 0) e ∙ get_or-set_same leasts block least 0 inside in
          let value : min (get_or leasts b 0) (get_or new (length ranks) 0) ≡ get_or (set leasts block least) b 0 = omega arith in
          let ends : min (16 * b + 16) (length ranks) ≡ length ranks = omega arith in
          let ends' : length ranks + 1 ≡ min (16 * b + 16) (length new) = omega arith in
          let before = least_to new (16 * b) (min (16 * b + 16) (length ranks)) (length ranks) (get_or leasts b 0) ends (kept b low') in
          subst (λ (n : ℕ). IsLeastIn new (16 * b) (min (16 * b + 16) (length new)) n) value
          (least_to new (16 * b) (length ranks + 1) (min (16 * b + 16) (length new)) (min (get_or leasts b 0) (get_or new (length ranks) 0)) ends'
          (least_more new (16 * b) (length ranks) (get_or leasts b 0) (omega arith) before)))
          (λ (apart : b ≢ block).
          let is : get_or leasts b 0 ≡ get_or (set leasts block least) b 0 = sym (get_or-set_other leasts block b least 0 apart) in
          let ends : min (16 * b + 16) (length ranks) ≡ min (16 * b + 16) (length new) = omega arith in
          subst (λ (n : ℕ). IsLeastIn new (16 * b) (min (16 * b + 16) (length new)) n) is
          (least_to new (16 * b) (min (16 * b + 16) (length ranks)) (min (16 * b + 16) (length new)) (get_or leasts b 0) ends (kept b low')))
          (cases_eq b block);
    }

-- a rank is added that begins a block
pub blocks_begun : (ranks leasts : List ℕ) (rank block : ℕ) → block ≡ length ranks / 16 → length leasts ≤ block → IsInBlocks ranks leasts
    → IsInBlocks (ranks ++ rank ∷ []) (leasts ++ rank ∷ [])
blocks_begun ranks leasts rank block is_of full old =
    let new = ranks ++ rank ∷ [] in
    let more = leasts ++ rank ∷ [] in
    let long : length new ≡ length ranks + 1 = length-append ranks (rank ∷ []) in
    let wide : length more ≡ length leasts + 1 = length-append leasts (rank ∷ []) in
    let enough = old.enough in
    let few = old.few in
    let whole : length ranks ≡ 16 * length leasts = omega arith in
    let last : get_or new (length ranks) 0 ≡ rank = get_or-append_seam ranks rank [] 0 in
    record {
      enough = omega arith;
      few = omega arith;
      least = λ b low.
          ⊎_elim
          (λ (e : b < length leasts).
          let is : get_or leasts b 0 ≡ get_or more b 0 = sym (get_or-append leasts (rank ∷ []) 0 b e) in
          let ends : min (16 * b + 16) (length ranks) ≡ min (16 * b + 16) (length new) = omega arith in
          subst (λ (n : ℕ). IsLeastIn new (16 * b) (min (16 * b + 16) (length new)) n) is
          (least_to new (16 * b) (min (16 * b + 16) (length ranks)) (min (16 * b + 16) (length new)) (get_or leasts b 0) ends
          (least_same ranks new (16 * b) (min (16 * b + 16) (length ranks)) (get_or leasts b 0)
          (λ i first end. get_or-append ranks (rank ∷ []) 0 i (omega arith)) (old.least b e))))
          (λ (e : length leasts ≤ b).
          let at_end : b ≡ length leasts = omega arith in
          let start : length ranks ≡ 16 * b = omega arith in
          let is : get_or new (length ranks) 0 ≡ get_or more b 0 =
          last ∙ sym (ap (λ (n : ℕ). get_or more n 0) at_end ∙ get_or-append_seam leasts rank [] 0) in
          let ends : length ranks + 1 ≡ min (16 * b + 16) (length new) = omega arith in
          subst (λ (n : ℕ). IsLeastIn new (16 * b) (min (16 * b + 16) (length new)) n) is
          (least_to new (16 * b) (length ranks + 1) (min (16 * b + 16) (length new)) (get_or new (length ranks) 0) ends
          (subst (λ (n : ℕ). IsLeastIn new n (length ranks + 1) (get_or new (length ranks) 0)) start (least_one new (length ranks)))))
          (cases_lt b (length leasts));
    }

-- the least of the blocks' least ranks is the least of the ranks
pub blocks_least : (ranks leasts : List ℕ) → IsInBlocks ranks leasts → least_rank leasts ≡ least_rank ranks
blocks_least ranks leasts blocks =
    let enough = blocks.enough in
    let below : least_rank leasts ≤ least_rank ranks =
    least_above (least_rank leasts) ranks (least_most leasts) (λ i l.
    let least = least_below leasts (i / 16) (omega arith) in
    let here : get_or leasts (i / 16) 0 ≤ get_or ranks i 0 = (blocks.least (i / 16) (omega arith)).each i (omega arith) (omega arith) in
    omega arith) in
    let above : least_rank ranks ≤ least_rank leasts =
    least_above (least_rank ranks) leasts (least_most ranks) (λ b l.
    let block = blocks.least b l in
    let high : block.place < length ranks = omega (arith, block.high) in
    let least = least_below ranks block.place high in
    let is : get_or ranks block.place 0 ≡ get_or leasts b 0 = block.is in
    omega arith) in
    omega arith
