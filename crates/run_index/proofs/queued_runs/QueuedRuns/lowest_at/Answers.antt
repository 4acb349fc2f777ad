use Rattle.std.proofs.Common.{◌≡◌, ◌+◌, List, drop, Some, None, sym, ap, ◌∙◌}
use Rattle.std.specs.Option.{option_copied}
use Rattle.first_tree.specs.Ranks.{Ranks, first_within_from}
use Rattle.batch_model.specs.Finding.{best}
use Rattle.batch_model.specs.Variants.{RunRow}
use Rattle.run_index.specs.Lowest.{lower_of}
use Rattle.run_index.specs.Queued.{last_rank, queued_rank_at}
use Rattle.run_index.specs.Seats.{is_queued_at, is_lower}
use Rattle.run_index.proofs.LowestRuns.{none_left}
use Rattle.run_index.proofs.PassedRuns.{is_next, none_left as none_passes}
use Rattle.run_index.proofs.QueuedRanks.{queued_reached}
use Rattle.run_index.proofs.queued_runs.QueuedRuns.lowest_at.Goals as goal

pub loop-place-preserved : goal.loop-place-preserved
loop-place-preserved c =
    let tables = c.args.tables.now in
    let slots = tables.run_slots in
    let test = is_queued_at tables.state c.args.seat in
    let from = c.loop-place.from in
    let place = c.in-Some.place in
    let some : first_within_from from last_rank c.args.self.now.items ≡ Some place =
    ap (λ (r : Ranks). first_within_from from last_rank r.items) (sym c.self.view_is) ∙ sym c.in-Some.ensures.found in
    let next = is_next test queued_rank_at last_rank (queued_reached tables.state c.args.seat) slots c.args.self.now.items from place c.requires.ranks some in
    c.lowest_with_place-lowest.ensures (drop (place + 1) slots)
    ∙ ap (λ (runs : List RunRow). lower_of (option_copied c.loop-place.lowest) (best is_lower runs)) (sym next.rest)
    ∙ c.loop-place.invariant

pub returns : goal.returns
returns c =
    let tables = c.args.tables.now in
    let slots = tables.run_slots in
    let test = is_queued_at tables.state c.args.seat in
    let from = c.loop-place.from in
    let so_far = option_copied c.loop-place.lowest in
    let none : first_within_from from last_rank c.args.self.now.items ≡ None =
    ap (λ (r : Ranks). first_within_from from last_rank r.items) (sym c.self.view_is) ∙ sym c.first_from.ensures.found ∙ c.in_default.is in
    let left = none_passes test queued_rank_at last_rank (queued_reached tables.state c.args.seat) slots c.args.self.now.items from c.requires.ranks none in
    sym (none_left tables.state c.args.seat so_far)
    ∙ ap (λ (runs : List RunRow). lower_of so_far (best is_lower runs)) (sym left)
    ∙ c.loop-place.invariant
