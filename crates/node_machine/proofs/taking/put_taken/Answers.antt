use Rattle.std.proofs.Common.{ap, ◌∙◌}
use Rattle.bt_rows.specs.Changes.{apply_changes}
use Rattle.batch_model.specs.Events.{accept, run_taken}
use Rattle.machine_plans.specs.Plans.{with_moment}
use Rattle.machine_plans.proofs.Moves.{moved_plan}
use Rattle.node_machine.proofs.TakePuts.{taken_put}
use Rattle.node_machine.proofs.taking.put_taken.Goals as goal

pub returns : goal.returns
returns c =
    let s = c.args.tables.now.state in
    let run = c.args.run.now in
    let now = c.args.now in
    moved_plan c.reply_listed.result now (accept 200 (run_taken (with_moment now s) run)) s
    c.in_ok-changes.changes.items (λ refusal e. cc)
    c.reply_listed.ensures.reply c.reply_listed.ensures.changes
    (ap (λ these. apply_changes these (with_moment now s)) c.in_ok-changes.ensures
    ∙ taken_put s c.requires.keys run now c.requires.there)
