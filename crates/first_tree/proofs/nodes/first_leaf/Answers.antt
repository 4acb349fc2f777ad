use Rattle.std.proofs.Common.{◌≡◌, ℕ, ◌+◌, ◌*◌, ◌/◌, ◌<◌, ◌≤◌, min, get_or, sym, subst, arith, ⊎_elim}
use Rattle.std.proofs.lemmas.Bool.{cases_lt}
use Rattle.first_tree.proofs.Trees.{halves, bottom, covers_wide}
use Rattle.first_tree.proofs.nodes.first_leaf.Goals as goal

pub loop-at-preserved-then-nodes-at : goal.loop-at-preserved-then-nodes-at
loop-at-preserved-then-nodes-at c =
    let nodes = c.args.nodes.now in
    let size = c.args.size in
    let at = c.loop-at.at in
    let first = c.loop-at.first in
    let width = c.loop-at.width in
    let i = c.loop-at.invariant in
    let h = halves size at first width i.power i.place c.loop-at-test.true in
    let node : get_or nodes at 0 ≡ min (get_or nodes (2 * at) 0) (get_or nodes (2 * at + 1) 0) = c.requires.tree.right at i.one c.loop-at-test.true in
    let swap : at * 2 ≡ 2 * at = omega arith in
    let more : c.args.bound < get_or nodes (at * 2) 0 = c.if-nodes-at.true in
    let more' : c.args.bound < get_or nodes (2 * at) 0 = subst (λ (n : ℕ). c.args.bound < get_or nodes n 0) swap more in
    let twice = h.twice in
    let passes : get_or nodes (2 * at + 1) 0 ≤ c.args.bound = omega (arith, i.passes) in
    record {
      one = omega arith;
      place = h.right;
      power = h.power;
      fits = omega (arith, i.fits);
      passes = subst (λ (n : ℕ). get_or nodes (n + 1) 0 ≤ c.args.bound) (sym swap) passes;
      before = λ k low.
          ⊎_elim
          (λ (e : k < first). i.before k e)
          (λ (e : first ≤ k).
          let covered = covers_wide nodes size c.requires.tree (width / 2) h.power (at * 2) first k (omega arith) h.left (omega (arith, i.fits)) e low in
          omega arith)
          (cases_lt k first);
    }

pub loop-at-preserved : goal.loop-at-preserved
loop-at-preserved c =
    let i = c.loop-at.invariant in
    let h = halves c.args.size c.loop-at.at c.loop-at.first c.loop-at.width i.power i.place c.loop-at-test.true in
    let twice = h.twice in
    record {
      one = omega (arith, i.one);
      place = h.left;
      power = h.power;
      fits = omega (arith, i.fits);
      passes = c.if-nodes-at.false;
      before = i.before;
    }

pub returns : goal.returns
returns c =
    let i = c.loop-at.invariant in
    let b = bottom c.args.size c.loop-at.at c.loop-at.first c.loop-at.width i.power i.place i.fits c.loop-at-test.false in
    let wide = b.1 in
    record {
      within = omega (arith, i.fits);
      passes = subst (λ (n : ℕ). get_or c.args.nodes.now n 0 ≤ c.args.bound) b.0 i.passes;
      before = i.before;
    }
