-- The first task whose wall time is over is the first that is out of time, if that one has an unended run.
use Rattle.std.proofs.Common.{◌≡◌, Bool, true, false, ◌&&◌, Some, None}
use Rattle.std.specs.List.{find}
use Rattle.batch_model.specs.Tasks.{is_placed, is_undisturbed, is_busy}
use Rattle.batch_model.specs.WallTimes.{is_out_of_time, is_task_timed_out}
use Rattle.batch_model.specs.Variants.{State, TaskRow}
use Rattle.task_index.specs.Timed.{is_overdue}
use Rattle.bt_rows.proofs.DistinctRows.{find-passes}
use Rattle.job_rules.proofs.FirstWeaker.{none_weaker, first_weaker}

without_busy : (placed calm busy out : Bool) → (placed && calm && busy && out) ≡ true → ((placed && calm) && out) ≡ true
without_busy true true true out h = h
without_busy true true false out h = absurd (cc)
without_busy true false busy out h = absurd (cc)
without_busy false calm busy out h = absurd (cc)

with_busy : (placed calm busy out : Bool) → ((placed && calm) && out) ≡ true → busy ≡ true → (placed && calm && busy && out) ≡ true
with_busy true true true out h b = h
with_busy true true false out h b = absurd (cc)
with_busy true false busy out h b = absurd (cc)
with_busy false calm busy out h b = absurd (cc)

weaker : (s : State) (task : TaskRow) → is_task_timed_out s task ≡ true → is_overdue s.moment task ≡ true
weaker s task h = without_busy (is_placed task.stage) (is_undisturbed task) (is_busy s task) (is_out_of_time s.moment task) h

pub none_timed_out : (s : State) → find (is_overdue s.moment) s.tasks ≡ None → find (is_task_timed_out s) s.tasks ≡ None
none_timed_out s h = none_weaker (is_overdue s.moment) (is_task_timed_out s) (weaker s) s.tasks h

pub first_is_timed_out : (s : State) (task : TaskRow) → find (is_overdue s.moment) s.tasks ≡ Some task → is_busy s task ≡ true → find (is_task_timed_out s) s.tasks ≡ Some task
first_is_timed_out s task h busy =
    first_weaker (is_overdue s.moment) (is_task_timed_out s) (weaker s) task s.tasks h
    (with_busy (is_placed task.stage) (is_undisturbed task) (is_busy s task) (is_out_of_time s.moment task) (find-passes (is_overdue s.moment) task s.tasks h) busy)
