use Rattle.std.proofs.Common.{◌≡◌, ◌+◌, [], ◌∷◌, ap, ◌∙◌}
use Rattle.bt_rows.specs.declared.tables.Change.TheVariants.{PutPrep, PutRun, Counters}
use Rattle.bt_rows.specs.Changes.{apply_changes}
use Rattle.batch_model.specs.Events.{accept}
use Rattle.batch_model.specs.Preparing.{prepare_again}
use Rattle.machine_plans.specs.Plans.{with_moment}
use Rattle.machine_plans.proofs.Moves.{moved_plan}
use Rattle.job_machine.specs.Endings.{with_end}
use Rattle.job_machine.proofs.PreparationPuts.{end_and_again}
use Rattle.job_machine.proofs.preparing.put_again.Goals as goal

pub returns : goal.returns
returns c =
    let s = c.args.tables.now.state in
    let run = c.args.run.now in
    let prep = c.args.prep.now in
    let preparation = c.args.preparation.now in
    let list = PutRun c.in_ok-ended.ended ∷ PutPrep c.in_ok-counted.counted ∷ PutRun c.in_ok-again.again ∷ Counters c.next_node.result (c.next_run.result + 1) ∷ [] in
    let made : c.in_ok-changes.changes.items ≡ list = c.in_ok-changes.ensures.items in
    moved_plan c.reply_listed.result c.args.now (accept 200 (prepare_again prep run preparation (with_end c.args.now c.args.ending run s))) s
    c.in_ok-changes.changes.items (λ refusal e. cc)
    c.reply_listed.ensures.reply c.reply_listed.ensures.changes
    (ap (λ these. apply_changes these (with_moment c.args.now s)) made
    ∙ end_and_again s run prep c.requires.there c.args.now c.args.ending c.in_ok-ended.ended c.in_ok-again.again c.in_ok-counted.counted preparation c.next_node.result (c.next_run.result + 1)
    c.in_ok-ended.ensures (c.in_ok-counted.ensures ∙ c.in_ok-counted_preparation.ensures) c.in_ok-again.ensures c.next_node.ensures (ap (λ n. n + 1) c.next_run.ensures))
