use Rattle.row_texts.proofs.ReadBack.{task_back}
use Rattle.row_texts.proofs.task.TaskRowTableRow.to_value.Goals as goal

pub returns-clause-back : goal.returns-clause-back
returns-clause-back c =
    rw (← c.self.view_is)
    (task_back
    _
    c.in_ok-field.ensures.back
    c.in_ok-field-2.ensures.back
    c.in_ok-field-3.ensures.back
    c.in_ok-array.ensures.back
    (rw (← c.self.view_is) at c.in_ok-array-2.ensures.back)
    (rw (← c.self.view_is) at c.in_ok-array-3.ensures.back))
