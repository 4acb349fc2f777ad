use Rattle.std.proofs.Common.{◌≡◌, Option, None, ℕ, set, sym, ap, subst, ◌∙◌}
use Rattle.first_tree.specs.Ranks.{Ranks, no_rank}
use Rattle.kept_table.specs.Slots.{clear_at}
use Rattle.run_index.specs.Asked.{AreAsked}
use Rattle.run_index.proofs.AskedRanks.{asked_set}
use Rattle.run_index.proofs.asked_runs.AskedRuns.clear.Goals as goal

pub returns-in-Some-clause-ranks : goal.returns-in-Some-clause-ranks
returns-in-Some-clause-ranks c = λ slots asked.
    let place = c.in-Some.place in
    let items : c.set.new.self.items ≡ set c.args.self.now.items place no_rank =
    ap (λ (r : Ranks). r.items) c.set.ensures ∙ ap (λ (r : Ranks). set r.items place no_rank) c.self.view_is in
    subst (λ (b : Option ℕ). AreAsked (clear_at b slots) c.set.new.self.items) (sym c.in-Some.is)
    (subst (AreAsked (set slots place None)) (sym items) (asked_set slots c.args.self.now.items place None asked))
