use Rattle.std.proofs.Common.{◌≡◌, ℕ, ◌+◌, ◌*◌, ◌/◌, List, Some, length, ap, subst, ◌∙◌, arith}
use Rattle.first_tree.specs.Blocks.{NoneWithin, IsFirstWithin, IsFirstIn}
use Rattle.first_tree.specs.Ranks.{Ranks, first_within_from}
use Rattle.first_tree.proofs.Searched.{first_wider, first_joined, is_first_from}
use Rattle.first_tree.proofs.tree.FirstTree.first_from.Goals as goal

pub returns-in-Some-clause-found : goal.returns-in-Some-clause-found
returns-in-Some-clause-found c =
    let ranks = c.self.inside.ranks.items in
    let end = c.block_end-end.result in
    let long : c.len-2.result ≡ length ranks = c.len-2.ensures ∙ c.self.inside.ranks.ok.0 in
    let here : IsFirstWithin ranks c.args.from end c.args.bound c.in-Some.place =
    subst (λ (xs : List ℕ). IsFirstWithin xs c.args.from end c.args.bound c.in-Some.place) c.deref.ensures.value c.in-Some.ensures in
    is_first_from c.args.from c.args.bound ranks (Some c.in-Some.place)
    (first_wider ranks c.args.from end (length ranks) c.args.bound c.in-Some.place (omega (arith, c.block_end-end.ensures)) here)
    ∙ ap (λ (r : Ranks). first_within_from c.args.from c.args.bound r.items) c.self.view_is

pub returns-in-None-clause-found : goal.returns-in-None-clause-found
returns-in-None-clause-found c =
    let ranks = c.self.inside.ranks.items in
    let end = c.block_end-end.result in
    let start = 16 * (c.args.from / 16 + 1) in
    let found = c.first_in_later.result in
    let long : c.len-2.result ≡ length ranks = c.len-2.ensures ∙ c.self.inside.ranks.ok.0 in
    let near : NoneWithin ranks c.args.from end c.args.bound =
    subst (λ (xs : List ℕ). NoneWithin xs c.args.from end c.args.bound) c.deref.ensures.value c.in-None.ensures in
    let later : IsFirstIn ranks start (length ranks) c.args.bound found =
    subst (λ (xs : List ℕ). IsFirstIn xs start (length xs) c.args.bound found) c.deref-in-None.ensures.value c.first_in_later.ensures in
    is_first_from c.args.from c.args.bound ranks found
    (first_joined ranks c.args.from end start c.args.bound found (omega arith) (omega (arith, c.block_end-end.ensures)) near later)
    ∙ ap (λ (r : Ranks). first_within_from c.args.from c.args.bound r.items) c.self.view_is
