use Rattle.std.proofs.Common.{List, sym, subst}
use Rattle.batch_model.specs.Variants.{TaskRow, RunRow}
use Rattle.run_index.specs.Held.{HasHeld}
use Rattle.task_index.specs.Over.{AreOver}
use Rattle.machine_index.proofs.indexed_tables.parts_of.Goals as goal

pub returns : goal.returns
returns c =
    let t = c.args.tables.now in
    let runs = c.in_ok-runs in
    let tasks = c.in_ok-tasks in
    record {
      runs = runs.ensures.runs;
      active = tasks.ensures.active;
      over = subst (λ (rs : List RunRow). AreOver rs t.task_slots tasks.tasks.over.items) (sym c.places_known.ensures.runs) tasks.ensures.over;
      held = subst (λ (ts : List TaskRow). HasHeld runs.runs.held ts t.run_slots) (sym c.places_known.ensures.tasks) runs.ensures.held;
      timed = tasks.ensures.timed;
      queued = runs.ensures.queued;
      asked = runs.ensures.asked;
      numbered = tasks.ensures.numbered;
      on_nodes = runs.ensures.nodes;
    }
