use Rattle.std.proofs.Common.{◌≡◌, ◌<◌, true, false, sym, ◌∙◌, rules, arith}
use Rattle.batch_model.specs.Readiness.{is_number_satisfied}
use Rattle.task_readiness.proofs.Satisfied.{last_passes, last_fails}
use Rattle.task_readiness.proofs.readiness.is_span_satisfied.Goals as goal

pub returns-then-not-is_number_satisfied : goal.returns-then-not-is_number_satisfied
returns-then-not-is_number_satisfied c =
    let fails : c.is_number_satisfied.result ≡ false = search rules in
    let within : c.args.span.0 < c.loop-number.number = omega arith in
    sym
    (c.loop-number.invariant
    ∙ last_fails (is_number_satisfied c.args.indexed.now.state c.args.job.now) c.args.span.0 c.loop-number.number within
    (sym c.is_number_satisfied.ensures ∙ fails))

pub loop-number-preserved : goal.loop-number-preserved
loop-number-preserved c =
    let passes : c.is_number_satisfied.result ≡ true = search rules in
    let within : c.args.span.0 < c.loop-number.number = omega arith in
    c.loop-number.invariant
    ∙ last_passes (is_number_satisfied c.args.indexed.now.state c.args.job.now) c.args.span.0 c.loop-number.number within
    (sym c.is_number_satisfied.ensures ∙ passes)
