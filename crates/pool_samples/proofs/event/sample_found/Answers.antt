use Rattle.std.proofs.Common.{◌≡◌, None, ◌∙◌, ap, subst, rules}
use Rattle.bt_rows.specs.Changes.{apply_changes}
use Rattle.batch_model.specs.Answers.{accept}
use Rattle.machine_plans.specs.Plans.{IsPlanOf, IsRefused, with_moment}
use Rattle.pool_samples.specs.Kept.{taken_since}
use Rattle.pool_samples.proofs.SampleAnswers.{sampled, too_old}
use Rattle.pool_samples.proofs.event.sample_found.Goals as goal

pub returns-in-Some : goal.returns-in-Some
returns-in-Some c =
    too_old c.args.tables.now.state c.args.now c.args.percentage c.args.pool.now c.kept_processors-kept.result c.kept_processors-kept.ensures c.in-Some.newest
    (c.in-Some.ensures ∙ ap (λ label. taken_since label c.kept_processors-kept.result.newest) c.label_of.ensures)

pub returns : goal.returns
returns c =
    let s = c.args.tables.now.state in
    let now = c.args.now in
    let pool = c.args.pool.now in
    let kept = c.kept_processors-kept.result in
    let none : None ≡ taken_since c.label_of.result kept.newest = search rules in
    let answered =
    sampled s now c.args.percentage pool kept c.kept_processors-kept.ensures c.requires (none ∙ ap (λ label. taken_since label kept.newest) c.label_of.ensures)
    in
    let first = c.in_ok-accept_listed.ensures in (
      subst (λ answer. IsPlanOf answer s c.in_ok-accept_listed.field-0)
          (ap (λ changes. accept 200 (apply_changes changes (with_moment now s))) c.in_ok-changes.ensures ∙ answered) first,
      λ refused. subst IsRefused first.reply refused,
    )
