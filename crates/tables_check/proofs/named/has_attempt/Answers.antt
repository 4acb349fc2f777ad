use Rattle.std.proofs.Common.{Option, false, sym, ap, ◌∙◌, nat_le}
use Rattle.std.specs.Option.{option_map_or}
use Rattle.batch_model.specs.Variants.{TaskRow}
use Rattle.tables_check.proofs.KnownKeys.{attempt_found}
use Rattle.tables_check.proofs.named.has_attempt.Goals as goal

pub returns-in-None : goal.returns-in-None
returns-in-None c =
    sym (attempt_found c.args.job.now c.args.id.now c.args.attempt c.args.tables.now.state.tasks c.known_keys.ensures.tasks
    ∙ ap (λ (o : Option TaskRow). option_map_or (λ (task : TaskRow). nat_le c.args.attempt task.attempt) o false) (sym c.in-None.ensures))

pub returns-in-Some : goal.returns-in-Some
returns-in-Some c =
    ap (λ (task : TaskRow). nat_le c.args.attempt task.attempt) c.task.view_is
    ∙ sym (attempt_found c.args.job.now c.args.id.now c.args.attempt c.args.tables.now.state.tasks c.known_keys.ensures.tasks
    ∙ ap (λ (o : Option TaskRow). option_map_or (λ (task : TaskRow). nat_le c.args.attempt task.attempt) o false) (sym c.in-Some.ensures))
