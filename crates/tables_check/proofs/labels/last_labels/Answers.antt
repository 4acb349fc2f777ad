use Rattle.std.proofs.Common.{sym, subst, ◌∙◌}
use Rattle.row_keys.specs.Numbers.{number_at}
use Rattle.tables_check.proofs.LabelSteps.{Follows, follows_first, follows_more}
use Rattle.tables_check.proofs.labels.last_labels.Goals as goal

pub loop-sample-init : goal.loop-sample-init
loop-sample-init c =
    let labels = number_at c.new-labels.result in
    let all = c.args.tables.now.state.samples in
    subst (λ samples. Follows labels samples all) (sym (c.into_iter-sample-iterator.ensures.into_iter_gives ∙ c.samples-sample-items.ensures))
    (follows_first labels all c.new-labels.ensures)

pub loop-sample-preserved : goal.loop-sample-preserved
loop-sample-preserved c =
    let all = c.args.tables.now.state.samples in
    follows_more (number_at c.loop-sample.labels) (number_at c.put_label.new.labels) c.in-Some.sample.now c.next.new.self all c.in_ok-put_label.ensures.labels
    (subst (λ samples. Follows (number_at c.loop-sample.labels) samples all) c.in-Some.ensures.steps c.loop-sample.invariant)
