use Rattle.std.proofs.Common.{[], ◌∷◌, refl, ◌∙◌}
use Rattle.bt_rows.specs.declared.tables.Change.TheVariants.{PutPrep, PutRun}
use Rattle.batch_model.specs.Events.{accept}
use Rattle.batch_model.specs.Preps.{change_prep, failed_preparation}
use Rattle.machine_plans.proofs.Moves.{moved_plan}
use Rattle.job_machine.specs.Endings.{with_end}
use Rattle.job_machine.proofs.PreparationPuts.{end_and_prep}
use Rattle.job_machine.proofs.preparing.put_stopped.Goals as goal

pub returns : goal.returns
returns c =
    let s = c.args.tables.now.state in
    let run = c.args.run.now in
    let prep = c.args.prep.now in
    moved_plan c.accept_two.result c.args.now (accept 200 (change_prep prep failed_preparation (with_end c.args.now c.args.ending run s))) s
    (PutRun c.in_ok-ended.ended ∷ PutPrep c.in_ok-failed.failed ∷ []) (λ refusal e. cc)
    c.accept_two.ensures.reply c.accept_two.ensures.changes
    (end_and_prep s run prep c.requires c.args.now c.args.ending c.in_ok-ended.ended c.in_ok-failed.failed failed_preparation c.in_ok-ended.ensures (c.in_ok-failed.ensures ∙ c.in_ok-failed_preparation.ensures) (λ x. refl))
