use Rattle.std.proofs.Common.{◌≡◌, ◌∷◌, ◌++◌, ◌∙◌, ap}
use Rattle.bt_rows.specs.Changes.{apply_changes}
use Rattle.bt_rows.specs.declared.tables.Change.TheVariants.{PutPrep, PutRun}
use Rattle.batch_model.specs.Events.{accept}
use Rattle.batch_model.specs.Preparing.{give_up}
use Rattle.machine_plans.specs.Plans.{with_moment}
use Rattle.machine_plans.proofs.Moves.{moved_plan}
use Rattle.job_machine.specs.Endings.{spent_stops, with_end}
use Rattle.job_machine.proofs.PreparationPuts.{end_and_spent}
use Rattle.job_machine.proofs.preparing.put_given_up.Goals as goal

pub returns : goal.returns
returns c =
    let s = c.args.tables.now.state in
    let run = c.args.run.now in
    let prep = c.args.prep.now in
    let preparation = c.args.preparation.now in
    let list = PutRun c.in_ok-ended.ended ∷ PutPrep c.in_ok-spent.spent ∷ spent_stops c.args.now preparation prep s in
    let made : c.push_stops.new.changes.items ≡ list =
    c.in_ok-push_stops.ensures ∙ ap (λ items. items ++ spent_stops c.args.now preparation prep s) c.in_ok-changes.ensures.items
    in
    moved_plan c.reply_listed.result c.args.now (accept 200 (give_up prep preparation (with_end c.args.now c.args.ending run s))) s
    c.push_stops.new.changes.items (λ refusal e. cc)
    c.reply_listed.ensures.reply c.reply_listed.ensures.changes
    (ap (λ these. apply_changes these (with_moment c.args.now s)) made
    ∙ end_and_spent s run prep c.requires c.args.now c.args.ending c.in_ok-ended.ended c.in_ok-spent.spent preparation c.in_ok-ended.ensures (c.in_ok-spent.ensures ∙ c.in_ok-spent_preparation.ensures))
