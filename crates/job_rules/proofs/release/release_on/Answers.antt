use Rattle.std.proofs.Common.{ap, sym, subst, ◌∙◌, Option, IfOk}
use Rattle.std.specs.Option.{option_and_then}
use Rattle.batch_model.specs.Finding.{only_if}
use Rattle.batch_model.specs.JobRules.{release_for}
use Rattle.batch_model.specs.Rows.{job_of, node_of}
use Rattle.batch_model.specs.Steps.{DueStep}
use Rattle.batch_model.specs.Variants.{NodeRow}
use Rattle.machine_plans.specs.Plans.{IsRule}
use Rattle.job_rules.proofs.release.release_on.Goals as goal

pub returns-in-None : goal.returns-in-None
returns-in-None c =
    let s = c.args.tables.now.state in
    let prep = c.args.prep.now in
    let at = λ (node : NodeRow). option_and_then (release_for s prep node) (job_of s prep.job) in
    ap (λ b. only_if b (option_and_then at (node_of s prep.node))) c.requires.wanted
    ∙ sym (ap (option_and_then at) c.in-None.ensures)

pub returns-in-Some : goal.returns-in-Some
returns-in-Some c =
    let s = c.args.tables.now.state in
    let prep = c.args.prep.now in
    let at = λ (node : NodeRow). option_and_then (release_for s prep node) (job_of s prep.job) in
    subst (λ (rule : Option DueStep). IfOk c.release_at.result (IsRule rule s))
    (ap (option_and_then at) c.in-Some.ensures ∙ sym (ap (λ b. only_if b (option_and_then at (node_of s prep.node))) c.requires.wanted))
    c.release_at.ensures
