use Rattle.std.proofs.Common.{◌≡◌, ◌+◌, ◌++◌, List, map, drop, Some, None, sym, ap, ◌∙◌}
use Rattle.std.proofs.lemmas.List.{append-nil}
use Rattle.first_tree.specs.Ranks.{Ranks, first_within_from}
use Rattle.batch_model.specs.Variants.{RunRow}
use Rattle.run_index.specs.Asked.{asked_rank_at}
use Rattle.run_index.specs.Seats.{is_asked}
use Rattle.run_index.proofs.AskedRanks.{asked_reached}
use Rattle.run_index.proofs.PassedRuns.{is_next, none_left}
use Rattle.run_index.proofs.asked_runs.AskedRuns.numbers.Goals as goal

pub loop-place-preserved : goal.loop-place-preserved
loop-place-preserved c =
    let slots = c.args.tables.now.run_slots in
    let from = c.loop-place.from in
    let place = c.in-Some.place in
    let some : first_within_from from 0 c.args.self.now.items ≡ Some place =
    ap (λ (r : Ranks). first_within_from from 0 r.items) (sym c.self.view_is) ∙ sym c.in-Some.ensures.found in
    let next = is_next is_asked asked_rank_at 0 asked_reached slots c.args.self.now.items from place c.requires.ranks some in
    c.in_ok-add_number_at.ensures (drop (place + 1) slots)
    ∙ ap (λ (runs : List RunRow). c.loop-place.numbers.items ++ map (λ (run : RunRow). run.number) runs) (sym next.rest)
    ∙ c.loop-place.invariant

pub returns : goal.returns
returns c =
    let slots = c.args.tables.now.run_slots in
    let from = c.loop-place.from in
    let numbers = c.loop-place.numbers.items in
    let none : first_within_from from 0 c.args.self.now.items ≡ None =
    ap (λ (r : Ranks). first_within_from from 0 r.items) (sym c.self.view_is) ∙ sym c.first_from.ensures.found ∙ c.in_default.is in
    let left = none_left is_asked asked_rank_at 0 asked_reached slots c.args.self.now.items from c.requires.ranks none in
    c.of_vec.ensures
    ∙ sym (append-nil numbers)
    ∙ ap (λ (runs : List RunRow). numbers ++ map (λ (run : RunRow). run.number) runs) (sym left)
    ∙ c.loop-place.invariant
