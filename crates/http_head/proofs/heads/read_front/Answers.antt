use Rattle.std.proofs.Common.{subst, arith}
use Rattle.httparse.specs.Grammar.{NeverHasRequest, EndsInTarget}
use Rattle.http_head.specs.declared.heads.TheConstants.{HEAD_LIMIT}
use Rattle.http_head.proofs.FieldCounts.{many_by_lines}
use Rattle.http_head.proofs.Reading.{found_in, front_is, long_by_bytes, long_by_fields, open_here}
use Rattle.http_head.proofs.heads.read_front.Goals as goal

pub returns-in-Whole : goal.returns-in-Whole
returns-in-Whole c = found_in c.args.buf.now c.min.result c.in-Whole.head c.min.ensures c.in-Whole.ensures

pub returns-in-Partial : goal.returns-in-Partial
returns-in-Partial c =
    long_by_bytes c.args.buf.now c.min.result c.min.ensures c.if-front-eq-HEAD_LIMIT.true c.in-Partial.ensures

pub returns-in-Partial-2 : goal.returns-in-Partial-2
returns-in-Partial-2 c =
    long_by_fields c.args.buf.now c.min.result c.min.ensures
    (many_by_lines _ c.in-Partial.ensures.0 c.in-Partial.ensures.1 (omega (arith, c.count_lines.ensures, c.if-count_lines.true)))

pub returns-in-Partial-3 : goal.returns-in-Partial-3
returns-in-Partial-3 c =
    open_here c.args.buf.now c.min.result c.min.ensures c.if-front-eq-HEAD_LIMIT.false c.in-Partial.ensures
    (omega (arith, c.count_lines.ensures, c.if-count_lines.false))

pub returns-in-TooMany : goal.returns-in-TooMany
returns-in-TooMany c =
    long_by_fields c.args.buf.now c.min.result c.min.ensures c.in-TooMany.ensures

pub returns-in-Invalid : goal.returns-in-Invalid
returns-in-Invalid c =
    subst (λ w. NeverHasRequest w × ¬ EndsInTarget w) (front_is HEAD_LIMIT c.min.result c.args.buf.now c.min.ensures) c.in-Invalid.ensures
