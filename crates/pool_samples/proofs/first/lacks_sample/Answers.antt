use Rattle.std.proofs.Common.{◌≡◌, ◌∙◌, find, is_none, refl, rules, ap}
use Rattle.bt_rows.specs.Keys.{sample_has_label}
use Rattle.batch_model.specs.Samples.{label_of}
use Rattle.batch_model.specs.Variants.{ActiveTasks}
use Rattle.pool_samples.proofs.Lacking.{lacks_now}
use Rattle.pool_samples.proofs.first.lacks_sample.Goals as goal

pub returns : goal.returns
returns c =
    let s = c.args.tables.now.state in
    let pool = c.args.pool.now in
    let now : c.label_of-label.result ≡ label_of s.moment = c.label_of-label.ensures ∙ ap label_of c.moment.ensures in
    let found : c.is_none.result ≡ is_none (find (sample_has_label pool.id ActiveTasks c.label_of-label.result) s.samples) = search rules in
    found
    ∙ ap (λ label. is_none (find (sample_has_label pool.id ActiveTasks label) s.samples)) now
    ∙ lacks_now s pool c.requires (find (sample_has_label pool.id ActiveTasks (label_of s.moment)) s.samples) refl
