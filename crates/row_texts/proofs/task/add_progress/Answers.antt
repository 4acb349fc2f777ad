use Rattle.row_texts.proofs.ReadBack.{task_progress_back}
use Rattle.row_texts.proofs.task.add_progress.Goals as goal

pub returns-clause-back : goal.returns-clause-back
returns-clause-back c =
    rw (← c.row.view_is)
    (task_progress_back
    _
    c.in_ok-field.ensures.back
    c.in_ok-field-2.ensures.back
    c.in_ok-field-3.ensures.back
    c.in_ok-option.ensures.back
    c.in_ok-option-2.ensures.back
    c.in_ok-option-3.ensures.back
    c.in_ok-after.ensures.back)
