use Rattle.std.proofs.Common.{◌≡◌, true, false, rules, sym, ◌∙◌}
use Rattle.batch_model.specs.Runs.{is_work}
use Rattle.node_machine.proofs.PrepsOfRuns.{no_work, no_prep_job, prep_named}
use Rattle.node_machine.proofs.taking.find_prep_of.Goals as goal

pub returns-then-not-is_work : goal.returns-then-not-is_work
returns-then-not-is_work c =
    let w : is_work c.args.run.now.kind ≡ false = first_of (cc, search rules) in
    sym (no_work c.args.run.now c.args.tables.now.state.preps w)

pub returns-in-None : goal.returns-in-None
returns-in-None c =
    let w : is_work c.args.run.now.kind ≡ true = first_of (cc, search rules) in
    sym (no_prep_job c.args.run.now c.args.tables.now.state.preps w c.in-None.is)

pub returns-in-Some : goal.returns-in-Some
returns-in-Some c =
    let w : is_work c.args.run.now.kind ≡ true = first_of (cc, search rules) in
    c.find_prep.ensures ∙ prep_named c.args.run.now c.in-Some.job c.args.tables.now.state.preps w c.in-Some.is
