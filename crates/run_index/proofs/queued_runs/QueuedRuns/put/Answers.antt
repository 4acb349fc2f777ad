use Rattle.std.proofs.Common.{◌≡◌, Option, ℕ, [], ◌∷◌, ◌++◌, Some, set, sym, ap, subst, ◌∙◌}
use Rattle.first_tree.specs.Ranks.{Ranks}
use Rattle.kept_table.specs.Slots.{put_at}
use Rattle.run_index.specs.Queued.{AreQueued, queued_rank}
use Rattle.run_index.proofs.QueuedRanks.{queued_set, queued_push}
use Rattle.run_index.proofs.queued_runs.QueuedRuns.put.Goals as goal

pub returns-in-None-clause-ranks : goal.returns-in-None-clause-ranks
returns-in-None-clause-ranks c = λ slots queued.
    let run = c.args.run.now in
    let old = c.args.self.now.items in
    let items : c.push.new.self.items ≡ old ++ queued_rank run ∷ [] =
    c.push.ensures.items ∙ ap (λ (r : Ranks). r.items ++ c.queued_rank-rank.result ∷ []) c.self.view_is
    ∙ ap (λ (n : ℕ). old ++ n ∷ []) c.queued_rank-rank.ensures in
    subst (λ (b : Option ℕ). AreQueued (put_at b run slots) c.push.new.self.items) (sym c.in-None.is)
    (subst (AreQueued (slots ++ Some run ∷ [])) (sym items) (queued_push slots old (Some run) queued))

pub returns-in-Some-clause-ranks : goal.returns-in-Some-clause-ranks
returns-in-Some-clause-ranks c = λ slots queued.
    let run = c.args.run.now in
    let place = c.in-Some.place in
    let old = c.args.self.now.items in
    let items : c.set.new.self.items ≡ set old place (queued_rank run) =
    ap (λ (r : Ranks). r.items) c.set.ensures ∙ ap (λ (r : Ranks). set r.items place c.queued_rank-rank.result) c.self.view_is
    ∙ ap (set old place) c.queued_rank-rank.ensures in
    subst (λ (b : Option ℕ). AreQueued (put_at b run slots) c.set.new.self.items) (sym c.in-Some.is)
    (subst (AreQueued (set slots place (Some run))) (sym items) (queued_set slots old place (Some run) queued))
