use Rattle.std.proofs.Common.{◌≡◌, Bool, false, ◌&&◌, nat_le, List, [], ◌∷◌, ℕ, Option, Some, None, is_none, refl, sym, ap}
use Rattle.std.specs.List.{list_any}
use Rattle.model_lists.proofs.Tests.{or_false}
use Rattle.batch_model.specs.Finding.{names}
use Rattle.batch_model.specs.WellFormed.{is_task_of_attempt}
use Rattle.batch_model.specs.Variants.{TaskRow, RunRow}
use Rattle.tables_check.proofs.named.has_named_task.Goals as goal

unnamed : (job : Option (List ℕ)) (id : List ℕ) (b c : Bool) → job ≡ None → ((names job id && b) && c) ≡ false
unnamed None id b c h = refl
unnamed (Some name) id b c h = cc

-- a run that names no job is of no task
no_task : (run : RunRow) (tasks : List TaskRow) → run.job ≡ None → list_any (is_task_of_attempt run) tasks ≡ false
no_task run [] h = refl
no_task run (task ∷ tasks) h =
    or_false (unnamed run.job task.job (names run.task task.id) (nat_le run.attempt task.attempt) h) (no_task run tasks h)

some_task : (run : RunRow) (id : List ℕ) → run.task ≡ Some id → is_none run.task ≡ false
some_task run id e = ap (λ (o : Option (List ℕ)). is_none o) e

pub returns-in-None : goal.returns-in-None
returns-in-None c =
    let run = c.args.run.now in
    sym (or_false (some_task run c.in-Some.id c.in-Some.is) (no_task run c.args.tables.now.state.tasks c.in-None.is))
