use Rattle.std.proofs.Common.{◌≡◌, Option, ℕ, [], ◌∷◌, ◌++◌, Some, set, sym, ap, subst, ◌∙◌}
use Rattle.first_tree.specs.Ranks.{Ranks}
use Rattle.kept_table.specs.Slots.{put_at}
use Rattle.run_index.specs.Asked.{AreAsked, asked_rank}
use Rattle.run_index.proofs.AskedRanks.{asked_set, asked_push}
use Rattle.run_index.proofs.asked_runs.AskedRuns.put.Goals as goal

pub returns-in-None-clause-ranks : goal.returns-in-None-clause-ranks
returns-in-None-clause-ranks c = λ slots asked.
    let run = c.args.run.now in
    let old = c.args.self.now.items in
    let items : c.push.new.self.items ≡ old ++ asked_rank run ∷ [] =
    c.push.ensures.items ∙ ap (λ (r : Ranks). r.items ++ c.asked_rank-rank.result ∷ []) c.self.view_is
    ∙ ap (λ (n : ℕ). old ++ n ∷ []) c.asked_rank-rank.ensures in
    subst (λ (b : Option ℕ). AreAsked (put_at b run slots) c.push.new.self.items) (sym c.in-None.is)
    (subst (AreAsked (slots ++ Some run ∷ [])) (sym items) (asked_push slots old (Some run) asked))

pub returns-in-Some-clause-ranks : goal.returns-in-Some-clause-ranks
returns-in-Some-clause-ranks c = λ slots asked.
    let run = c.args.run.now in
    let place = c.in-Some.place in
    let old = c.args.self.now.items in
    let items : c.set.new.self.items ≡ set old place (asked_rank run) =
    ap (λ (r : Ranks). r.items) c.set.ensures ∙ ap (λ (r : Ranks). set r.items place c.asked_rank-rank.result) c.self.view_is
    ∙ ap (set old place) c.asked_rank-rank.ensures in
    subst (λ (b : Option ℕ). AreAsked (put_at b run slots) c.set.new.self.items) (sym c.in-Some.is)
    (subst (AreAsked (set slots place (Some run))) (sym items) (asked_set slots old place (Some run) asked))
