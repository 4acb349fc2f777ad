use Rattle.std.proofs.Common.{[], ◌∷◌, refl, ◌∙◌}
use Rattle.bt_rows.specs.declared.tables.Change.TheVariants.{PutPrep, PutRun}
use Rattle.batch_model.specs.Events.{accept}
use Rattle.batch_model.specs.Preparing.{released}
use Rattle.batch_model.specs.Preps.{change_prep}
use Rattle.machine_plans.proofs.Moves.{moved_plan}
use Rattle.job_machine.specs.Endings.{with_end}
use Rattle.job_machine.proofs.EndingPuts.{end_and_prep}
use Rattle.job_machine.proofs.ending.put_released.Goals as goal

pub returns : goal.returns
returns c =
    let s = c.args.tables.now.state in
    let run = c.args.run.now in
    let prep = c.args.prep.now in
    moved_plan c.accept_two.result c.args.now (accept 200 (change_prep prep released (with_end c.args.now c.args.ending run s))) s
    (PutRun c.in_ok-ended.ended ∷ PutPrep c.in_ok-done.done ∷ []) (λ refusal e. cc)
    c.accept_two.ensures.reply c.accept_two.ensures.changes
    (end_and_prep s c.requires.keys run c.requires.there c.args.now c.args.ending c.in_ok-ended.ended c.in_ok-done.done prep released (c.in_ok-ended.ensures ∙ c.in_ok-ended_run.ensures) (c.in_ok-done.ensures ∙ c.in_ok-released.ensures) (λ x. refl) c.requires.found)
