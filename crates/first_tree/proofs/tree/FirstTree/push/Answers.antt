use Rattle.std.proofs.Common.{◌≡◌, ℕ, ◌+◌, ◌/◌, ◌<◌, ◌≤◌, min, List, [], ◌∷◌, ◌++◌, length, set, get_or, sym, ap, subst, ◌∙◌, arith, length-append}
use Rattle.std.proofs.lemmas.List.{length-set}
use Rattle.first_tree.specs.Blocks.{IsInBlocks}
use Rattle.first_tree.specs.Ranks.{Ranks}
use Rattle.first_tree.proofs.Blocked.{blocks_more, blocks_begun}
use Rattle.first_tree.proofs.tree.FirstTree.push.Goals as goal

pub invariant_of-self : goal.invariant_of-self
invariant_of-self c =
    let t = c.self.inside in
    let ranks = t.ranks.items in
    let leasts = t.blocks.items in
    let block = c.len-block.result / 16 in
    let room = c.self.invariant.1 in
    let in_ranks = room.in_ranks in
    let in_blocks = room.in_blocks in
    let is_of : block ≡ length ranks / 16 = ap (λ (n : ℕ). n / 16) (c.len-block.ensures ∙ t.ranks.ok.0) in
    let inside : block < length leasts = omega (arith, c.len.ensures, c.if-block-len.true) in
    let value : c.min-least.result ≡ min (get_or leasts block 0) c.args.rank = omega (arith, c.min-least.ensures, c.get.ensures) in
    let items : c.push_reserved.new.self.items ≡ ranks ++ c.args.rank ∷ [] = c.push_reserved.ensures.items in
    let kept : c.set.new.self.items ≡ set leasts block (min (get_or leasts block 0) c.args.rank) =
    ap (λ (r : Ranks). r.items) c.set.ensures ∙ ap (λ (n : ℕ). set leasts block n) value in
    let same : c.set.new.self.room ≡ t.blocks.room = ap (λ (r : Ranks). r.room) c.set.ensures in
    let longer : length c.push_reserved.new.self.items ≡ length ranks + 1 = ap length items ∙ length-append ranks (c.args.rank ∷ []) in
    let wide : length c.set.new.self.items ≡ length leasts = ap length kept ∙ length-set leasts block (min (get_or leasts block 0) c.args.rank) in
    let some : 0 < t.room = omega (arith, ap (λ (r : Ranks). r.room) c.self.view_is, c.requires) in
    let done = blocks_more ranks leasts c.args.rank block is_of inside c.self.invariant.0 in (
      subst (λ (xs : List ℕ). IsInBlocks xs c.set.new.self.items) (sym items)
          (subst (λ (xs : List ℕ). IsInBlocks (ranks ++ c.args.rank ∷ []) xs) (sym kept) done),
      record { in_ranks = omega (arith, c.push_reserved.ensures.len, c.push_reserved.ensures.capacity); in_blocks = omega arith },
    )

pub invariant_of-self-else-block-len : goal.invariant_of-self-else-block-len
invariant_of-self-else-block-len c =
    let t = c.self.inside in
    let ranks = t.ranks.items in
    let leasts = t.blocks.items in
    let block = c.len-block.result / 16 in
    let room = c.self.invariant.1 in
    let in_ranks = room.in_ranks in
    let in_blocks = room.in_blocks in
    let is_of : block ≡ length ranks / 16 = ap (λ (n : ℕ). n / 16) (c.len-block.ensures ∙ t.ranks.ok.0) in
    let full : length leasts ≤ block = omega (arith, c.len.ensures, c.if-block-len.false) in
    let items : c.push_reserved.new.self.items ≡ ranks ++ c.args.rank ∷ [] = c.push_reserved.ensures.items in
    let kept : c.push.new.self.items ≡ leasts ++ c.args.rank ∷ [] = c.push.ensures.items in
    let less : c.push.new.self.room + 1 ≡ t.blocks.room = c.push.ensures.room in
    let longer : length c.push_reserved.new.self.items ≡ length ranks + 1 = ap length items ∙ length-append ranks (c.args.rank ∷ []) in
    let wider : length c.push.new.self.items ≡ length leasts + 1 = ap length kept ∙ length-append leasts (c.args.rank ∷ []) in
    let some : 0 < t.room = omega (arith, ap (λ (r : Ranks). r.room) c.self.view_is, c.requires) in
    let done = blocks_begun ranks leasts c.args.rank block is_of full c.self.invariant.0 in (
      subst (λ (xs : List ℕ). IsInBlocks xs c.push.new.self.items) (sym items)
          (subst (λ (xs : List ℕ). IsInBlocks (ranks ++ c.args.rank ∷ []) xs) (sym kept) done),
      record { in_ranks = omega (arith, c.push_reserved.ensures.len, c.push_reserved.ensures.capacity); in_blocks = omega arith },
    )
