use Rattle.std.proofs.Common.{◌≡◌, ◌≤◌, nat_lt, List, sym, ap, subst, ◌∙◌, arith}
use Rattle.first_tree.specs.Ranks.{Ranks, no_rank, least_rank}
use Rattle.batch_model.specs.Finding.{Each}
use Rattle.batch_model.specs.Variants.{RunRow}
use Rattle.run_index.specs.Queued.{lowest_queued}
use Rattle.run_index.proofs.QueuedRanks.{queued_found, queued_missed}
use Rattle.run_index.proofs.queued_runs.QueuedRuns.lowest.Goals as goal

pub returns-then-least-next_run : goal.returns-then-least-next_run
returns-then-least-next_run c =
    let tables = c.args.tables.now in
    let ranks = c.args.self.now.items in
    let least : c.least-least.result ≡ least_rank ranks = c.least-least.ensures ∙ ap (λ (r : Ranks). least_rank r.items) c.self.view_is in
    let next = tables.state.next_run in
    let numbered = subst (λ (runs : List RunRow). Each (λ run. nat_lt run.number next) runs) (sym c.places_known.ensures.runs) c.requires.numbers in
    let most : next ≤ no_rank = omega (arith, c.next_run.ensures) in
    queued_found tables.run_slots ranks c.least-least.result next c.requires.ranks least numbered most (omega (arith, c.if-least-next_run.true, c.next_run.ensures))
    ∙ ap lowest_queued c.places_known.ensures.runs

pub returns-else-least-next_run : goal.returns-else-least-next_run
returns-else-least-next_run c =
    let tables = c.args.tables.now in
    let ranks = c.args.self.now.items in
    let least : c.least-least.result ≡ least_rank ranks = c.least-least.ensures ∙ ap (λ (r : Ranks). least_rank r.items) c.self.view_is in
    let next = tables.state.next_run in
    let numbered = subst (λ (runs : List RunRow). Each (λ run. nat_lt run.number next) runs) (sym c.places_known.ensures.runs) c.requires.numbers in
    let most : next ≤ no_rank = omega (arith, c.next_run.ensures) in
    let above : next ≤ c.least-least.result = omega (arith, c.if-least-next_run.false, c.next_run.ensures) in
    queued_missed tables.run_slots ranks c.least-least.result next c.requires.ranks least numbered most above ∙ ap lowest_queued c.places_known.ensures.runs
