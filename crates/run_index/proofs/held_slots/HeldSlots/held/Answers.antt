use Rattle.std.proofs.Common.{List, ap, ◌∙◌, sum_by}
use Rattle.batch_model.specs.Variants.{RunRow}
use Rattle.run_index.specs.Held.{SumsView, kept_sum, run_held, is_owned}
use Rattle.run_index.proofs.HeldSums.{held_of}
use Rattle.run_index.proofs.held_slots.HeldSlots.held.Goals as goal

pub returns : goal.returns
returns c =
    let s = c.args.tables.now.state in
    c.sum.ensures ∙ ap (λ (v : SumsView). kept_sum v c.args.node) c.self.view_is ∙ c.requires.held c.args.node
    ∙ ap (λ (runs : List RunRow). sum_by (run_held (is_owned s.tasks) c.args.node) runs) c.places_known.ensures.runs
    ∙ held_of s c.args.node
