use Rattle.std.proofs.Common.{List, ℕ, sym, subst, ◌∙◌}
use Rattle.text_chains.specs.Chains.{ChainsView}
use Rattle.run_index.specs.Attempts.{run_attempt_text}
use Rattle.run_index.specs.Texts.{IsAdded}
use Rattle.run_index.proofs.TextPlaces.{row_put, row_put_untold}
use Rattle.run_index.proofs.runs_of_attempts.RunsOfAttempts.add.Goals as goal

pub returns-in-None-clause-runs : goal.returns-in-None-clause-runs
returns-in-None-clause-runs c = λ slots before is runs.
    row_put_untold run_attempt_text c.args.self.now slots before c.args.run.now (sym c.of_run.ensures ∙ c.in-None.is) runs

pub returns-in-Some-clause-runs : goal.returns-in-Some-clause-runs
returns-in-Some-clause-runs c = λ slots before is runs.
    row_put run_attempt_text c.args.self.now c.add_place.new.chains slots before c.args.run.now c.in-Some.text c.args.place (sym c.of_run.ensures ∙ c.in-Some.is) is
    (subst (λ (v : ChainsView). IsAdded v c.add_place.new.chains c.in-Some.text c.args.place) c.self.view_is
    (subst (λ (t : List ℕ). IsAdded c.self.inside.chains c.add_place.new.chains t c.args.place) c.as_slice.ensures.bytes c.add_place.ensures.places)) runs
