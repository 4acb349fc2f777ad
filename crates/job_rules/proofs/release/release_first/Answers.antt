use Rattle.std.proofs.Common.{◌≡◌, true, false, ap, sym, subst, ◌∙◌, Option, IfOk, rules}
use Rattle.bt_rows.specs.Keys.{same_prep, same_prep_equiv}
use Rattle.bt_rows.proofs.DistinctRows.{found_first}
use Rattle.batch_model.specs.Finding.{has_number_left}
use Rattle.batch_model.specs.Steps.{DueStep}
use Rattle.machine_plans.specs.Plans.{IsRule}
use Rattle.job_rules.specs.Releases.{is_to_release}
use Rattle.job_rules.proofs.FirstToRelease.{none_left, none_to_release, first_to_release, is_wanted}
use Rattle.job_rules.proofs.release.release_first.Goals as goal

pub returns-then-not-has_number_left : goal.returns-then-not-has_number_left
returns-then-not-has_number_left c =
    let off : c.has_number_left.result ≡ false = search rules in
    none_left c.args.tables.now.state (ap has_number_left (sym c.next_run.ensures) ∙ (sym c.has_number_left.ensures ∙ off))

pub returns-in-None : goal.returns-in-None
returns-in-None c = none_to_release c.args.tables.now.state (sym c.in-None.ensures)

pub release_on-requires-clause-left : goal.release_on-requires-clause-left
release_on-requires-clause-left c =
    let on : c.has_number_left.result ≡ true = search rules in
    ap has_number_left (sym c.next_run.ensures) ∙ (sym c.has_number_left.ensures ∙ on)

pub release_on-requires-clause-wanted : goal.release_on-requires-clause-wanted
release_on-requires-clause-wanted c = is_wanted c.args.tables.now.state c.in-Some.prep.now (sym c.in-Some.ensures)

pub release_on-requires-clause-there : goal.release_on-requires-clause-there
release_on-requires-clause-there c =
    let s = c.args.tables.now.state in
    found_first same_prep same_prep_equiv (is_to_release s) c.in-Some.prep.now s.preps c.requires.keys.preps (sym c.in-Some.ensures)

pub returns-in-Some : goal.returns-in-Some
returns-in-Some c =
    let s = c.args.tables.now.state in
    let on : c.has_number_left.result ≡ true = search rules in
    subst (λ (rule : Option DueStep). IfOk c.release_on.result (IsRule rule s))
    (sym (first_to_release s c.in-Some.prep.now (ap has_number_left (sym c.next_run.ensures) ∙ (sym c.has_number_left.ensures ∙ on)) (sym c.in-Some.ensures)))
    c.release_on.ensures
