use Rattle.std.proofs.Common.{◌&&◌, ◌∙◌, sym, rules, tests}
use Rattle.std.proofs.lemmas.Iterator.{YieldsList-from_slice}
use Rattle.std.proofs.lemmas.Iterator.Search.{any_from_yields_List}
use Rattle.batch_model.specs.Rows.{is_task}
use Rattle.batch_model.specs.Readiness.{satisfies_others}
use Rattle.dependency_counts.specs.Counts.{Live, counted}
use Rattle.dependency_counts.proofs.Lives.{any_counted}
use Rattle.dependency_counts.proofs.dependencies.is_id_satisfied.Goals as goal

pub returns : goal.returns
returns c =
    any_from_yields_List
    (λ (live : Live). is_task c.args.job.now c.args.id.now (counted live) && satisfies_others (counted live)) _ _ c.any.result c.any.ensures.ran
    (YieldsList-from_slice c.args.lives.now cc) (λ x b q k. search (rules, tests))
    ∙ sym (any_counted (λ task. is_task c.args.job.now c.args.id.now task && satisfies_others task) c.args.lives.now)
