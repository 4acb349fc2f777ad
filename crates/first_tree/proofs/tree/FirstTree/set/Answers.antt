use Rattle.std.proofs.Common.{◌≡◌, ℕ, ◌+◌, ◌*◌, ◌/◌, ◌<◌, min, List, length, set, sym, ap, subst, ◌∙◌, refl, arith}
use Rattle.std.proofs.lemmas.List.{length-set}
use Rattle.first_tree.specs.Blocks.{IsLeastIn, IsInBlocks}
use Rattle.first_tree.specs.Ranks.{Ranks}
use Rattle.first_tree.proofs.Blocked.{blocks_set}
use Rattle.first_tree.proofs.tree.FirstTree.set.Goals as goal

pub invariant_of-self : goal.invariant_of-self
invariant_of-self c =
    let t = c.self.inside in
    let ranks = t.ranks.items in
    let leasts = t.blocks.items in
    let changed = set ranks c.args.at c.args.rank in
    let block = c.args.at / 16 in
    let least = c.least_in_block-least.result in
    let room = c.self.invariant.1 in
    let in_ranks = room.in_ranks in
    let in_blocks = room.in_blocks in
    let within : c.args.at < length ranks = omega (arith, ap (λ (r : Ranks). length r.items) c.self.view_is, c.requires) in
    let long : length changed ≡ length ranks = length-set ranks c.args.at c.args.rank in
    let kept : c.set.new.self.items ≡ set leasts block least = ap (λ (r : Ranks). r.items) c.set.ensures in
    let same : c.set.new.self.room ≡ t.blocks.room = ap (λ (r : Ranks). r.room) c.set.ensures in
    let wide : length c.set.new.self.items ≡ length leasts = ap length kept ∙ length-set leasts block least in
    let here : IsLeastIn changed (16 * block) (min (16 * block + 16) (length changed)) least =
    subst (λ (xs : List ℕ). IsLeastIn xs (16 * block) (min (16 * block + 16) (length xs)) least) c.deref.ensures.value c.least_in_block-least.ensures in
    let done = blocks_set ranks leasts c.args.at c.args.rank block least refl within c.self.invariant.0
    (subst (λ (n : ℕ). IsLeastIn changed (16 * block) (min (16 * block + 16) n) least) long here) in (
      subst (λ (xs : List ℕ). IsInBlocks changed xs) (sym kept) done,
      record { in_ranks = in_ranks; in_blocks = omega arith },
    )
