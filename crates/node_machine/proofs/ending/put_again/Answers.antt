use Rattle.std.proofs.Common.{◌≡◌, ◌+◌, [], ◌∷◌, ap, ◌∙◌}
use Rattle.bt_rows.specs.declared.tables.Change.TheVariants.{PutNode, PutRun, Counters}
use Rattle.bt_rows.specs.Changes.{apply_changes}
use Rattle.batch_model.specs.Events.{accept}
use Rattle.batch_model.specs.Starts.{start_again}
use Rattle.machine_plans.specs.Plans.{with_moment}
use Rattle.machine_plans.proofs.Moves.{moved_plan}
use Rattle.node_machine.specs.Endings.{with_end}
use Rattle.node_machine.proofs.StartPuts.{end_and_again}
use Rattle.node_machine.proofs.ending.put_again.Goals as goal

pub returns : goal.returns
returns c =
    let s = c.args.tables.now.state in
    let run = c.args.run.now in
    let node = c.args.node.now in
    let start = c.args.start.now in
    let list = PutRun c.in_ok-ended.ended ∷ PutNode c.in_ok-counted.counted ∷ PutRun c.in_ok-again.again ∷ Counters c.next_node.result (c.next_run.result + 1) ∷ [] in
    let made : c.in_ok-changes.changes.items ≡ list = c.in_ok-changes.ensures.items in
    moved_plan c.reply_listed.result c.args.now (accept 200 (start_again node start (with_end c.args.now c.args.ending run s))) s
    c.in_ok-changes.changes.items (λ refusal e. cc)
    c.reply_listed.ensures.reply c.reply_listed.ensures.changes
    (ap (λ these. apply_changes these (with_moment c.args.now s)) made
    ∙ end_and_again s run c.requires.there.there c.args.now c.args.ending c.in_ok-ended.ended c.in_ok-again.again c.in_ok-counted.counted node start c.next_node.result (c.next_run.result + 1)
    (c.in_ok-ended.ensures ∙ c.in_ok-ended_run.ensures) (c.in_ok-counted.ensures ∙ c.in_ok-counted_node.ensures) (c.in_ok-again.ensures ∙ c.in_ok-start_run.ensures) c.next_node.ensures (ap (λ n. n + 1) c.next_run.ensures) c.requires.there.seated)
