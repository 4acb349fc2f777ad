use Rattle.std.proofs.Common.{◌≡◌, false, ap, sym, ◌∙◌, rules}
use Rattle.std.specs.Option.{option_map}
use Rattle.batch_model.specs.Finding.{only_if}
use Rattle.batch_model.specs.JobRules.{release_made}
use Rattle.job_rules.proofs.release.release_for.Goals as goal

pub returns-then-not-is_releasing : goal.returns-then-not-is_releasing
returns-then-not-is_releasing c =
    let s = c.args.tables.now.state in
    let job = c.args.job.now in
    let off : c.is_releasing.result ≡ false = search rules in
    ap (λ b. only_if b (option_map (release_made s c.args.prep.now c.args.node.now job) job.release)) (sym c.is_releasing.ensures ∙ off)
