use Rattle.std.proofs.Common.{sym, ap, ◌∙◌}
use Rattle.bt_rows.specs.Keys.{same_task, same_run}
use Rattle.bt_rows.specs.Texts.{task_text, run_text, same_task_by_text, same_run_by_text}
use Rattle.row_keys.specs.Passes.{are_distinct}
use Rattle.tables_check.proofs.KnownKeys.{distinct_apart}
use Rattle.tables_check.proofs.distinct.known_keys.Goals as goal

pub returns-clause-tasks : goal.returns-clause-tasks
returns-clause-tasks c =
    ap (are_distinct same_task) (sym c.places_known.ensures.tasks)
    ∙ distinct_apart task_text same_task same_task_by_text c.args.tables.now.task_slots c.keys_known.ensures.tasks

pub returns-clause-runs : goal.returns-clause-runs
returns-clause-runs c =
    ap (are_distinct same_run) (sym c.places_known.ensures.runs)
    ∙ distinct_apart run_text same_run same_run_by_text c.args.tables.now.run_slots c.keys_known.ensures.runs
