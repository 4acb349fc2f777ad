use Rattle.std.proofs.Common.{◌≡◌, ℕ, ◌+◌, ◌*◌, min, List, None, length, ap, subst, ◌∙◌, arith}
use Rattle.first_tree.specs.Blocks.{IsFirstIn}
use Rattle.first_tree.specs.Ranks.{Ranks, first_within}
use Rattle.first_tree.proofs.Searched.{none_before, none_of, first_of, is_first, blocks_none, blocks_some}
use Rattle.first_tree.proofs.tree.FirstTree.first.Goals as goal

pub first_in_block-requires : goal.first_in_block-requires
first_in_block-requires c =
    let t = c.self.inside in
    let first = first_of c.args.bound c.in-Some.block t.blocks.items c.in-Some.ensures in
    let blocks = c.self.invariant.0 in
    let same : length c.deref.result.now ≡ length t.ranks.items = ap length c.deref.ensures.value in
    omega (arith, first.high, blocks.few)

pub returns-in-None : goal.returns-in-None
returns-in-None c =
    let t = c.self.inside in
    is_first c.args.bound t.ranks.items None
    (blocks_none t.ranks.items t.blocks.items 0 0 c.args.bound c.self.invariant.0
    (none_before t.ranks.items 0 (min 0 (length t.ranks.items)) c.args.bound (omega arith)) (none_of c.args.bound t.blocks.items c.in-None.ensures))
    ∙ ap (λ (r : Ranks). first_within c.args.bound r.items) c.self.view_is

pub returns-in-Some : goal.returns-in-Some
returns-in-Some c =
    let t = c.self.inside in
    let block = c.in-Some.block in
    let here : IsFirstIn t.ranks.items (16 * block) (min (16 * block + 16) (length t.ranks.items)) c.args.bound c.first_in_block.result =
    subst (λ (xs : List ℕ). IsFirstIn xs (16 * block) (min (16 * block + 16) (length xs)) c.args.bound c.first_in_block.result)
    c.deref.ensures.value c.first_in_block.ensures in
    is_first c.args.bound t.ranks.items c.first_in_block.result
    (blocks_some t.ranks.items t.blocks.items 0 0 c.args.bound block c.first_in_block.result c.self.invariant.0 (omega arith)
    (none_before t.ranks.items 0 (min 0 (length t.ranks.items)) c.args.bound (omega arith)) (first_of c.args.bound block t.blocks.items c.in-Some.ensures)
    here)
    ∙ ap (λ (r : Ranks). first_within c.args.bound r.items) c.self.view_is
