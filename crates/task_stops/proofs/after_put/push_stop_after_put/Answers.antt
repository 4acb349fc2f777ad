use Rattle.std.proofs.Common.{◌≡◌, ◌++◌, ◌∙◌, ap, subst, sym}
use Rattle.std.specs.Prelude.{OnOk}
use Rattle.batch_model.specs.Tasks.{is_in_job}
use Rattle.task_stops.specs.StopChanges.{is_among, is_other_in_job, stop_changes}
use Rattle.task_stops.proofs.AfterPut.{changes_after_put}
use Rattle.task_stops.proofs.after_put.push_stop_after_put.Goals as goal

pub returns : goal.returns
returns c =
    let s = c.args.tables.now.state in
    let row = c.args.row.now in
    let job = c.args.job.now in
    let want = c.args.want in
    subst (λ changes. OnOk c.push_stop.result (c.push_stop.new.changes.items ≡ c.args.changes.now.items ++ changes))
    (ap (λ which. stop_changes (is_among s which) want c.moment.result s) c.in_ok-which.ensures
    ∙ ap (λ now. stop_changes (is_other_in_job job row.job row.id) want now s) c.moment.ensures
    ∙ sym (changes_after_put (is_in_job job) row c.requires.out want s.moment s))
    c.push_stop.ensures
