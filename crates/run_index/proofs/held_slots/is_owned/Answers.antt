use Rattle.std.proofs.Common.{List, sym, ap, ◌∙◌}
use Rattle.kept_table.specs.Slots.{holds}
use Rattle.batch_model.specs.Slots.{owns}
use Rattle.batch_model.specs.Variants.{TaskRow}
use Rattle.run_index.specs.Held.{is_owned}
use Rattle.run_index.proofs.HeldTasks.{owned_at, owned_none}
use Rattle.run_index.proofs.held_slots.is_owned.Goals as goal

pub returns-in-None : goal.returns-in-None
returns-in-None c =
    let slots = c.args.tables.now.task_slots in
    let run = c.args.run.now in
    sym (owned_none slots run c.requires (sym c.place_of_run.ensures ∙ c.in-None.is)) ∙ ap (λ (ts : List TaskRow). is_owned ts run) c.places_known.ensures.tasks

pub returns-in-None-task_at : goal.returns-in-None-task_at
returns-in-None-task_at c =
    let slots = c.args.tables.now.task_slots in
    let run = c.args.run.now in
    ap (holds (owns run)) c.in-None-task_at.ensures
    ∙ sym (owned_at slots run c.in-Some.place c.requires (sym c.place_of_run.ensures ∙ c.in-Some.is)) ∙ ap (λ (ts : List TaskRow). is_owned ts run) c.places_known.ensures.tasks

pub returns-in-Some-task_at : goal.returns-in-Some-task_at
returns-in-Some-task_at c =
    let slots = c.args.tables.now.task_slots in
    let run = c.args.run.now in
    c.owns.ensures ∙ ap (holds (owns run)) c.in-Some-task_at.ensures
    ∙ sym (owned_at slots run c.in-Some.place c.requires (sym c.place_of_run.ensures ∙ c.in-Some.is)) ∙ ap (λ (ts : List TaskRow). is_owned ts run) c.places_known.ensures.tasks
