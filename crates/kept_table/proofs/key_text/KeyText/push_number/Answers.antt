use Rattle.std.proofs.Common.{◌≡◌, ◌∙◌, arith}
use Rattle.kept_table.proofs.NumberBytes.{left_first, left_next, left_last}
use Rattle.kept_table.proofs.key_text.KeyText.push_number.Goals as goal

pub loop-init : goal.loop-init
loop-init c = left_first c.args.self.now c.args.number (omega arith)

pub push-requires : goal.push-requires
push-requires c = omega (arith, c.loop.invariant.long)

pub loop-preserved : goal.loop-preserved
loop-preserved c = left_next c.args.self.now c.loop.self c.push.new.self c.args.number c.loop.rest c.loop.counter (omega arith) c.loop.invariant c.push.ensures

pub overflow_cast-rest-2 : goal.overflow_cast-rest-2
overflow_cast-rest-2 c =
    let last : c.loop.counter ≡ 7 = omega arith in
    omega (arith, (left_last c.args.self.now c.loop.self c.args.number c.loop.rest c.loop.counter last c.loop.invariant).0)

pub push-requires-2 : goal.push-requires-2
push-requires-2 c = omega (arith, c.loop.invariant.long)

pub returns : goal.returns
returns c =
    let last : c.loop.counter ≡ 7 = omega arith in
    c.push-2.ensures ∙ (left_last c.args.self.now c.loop.self c.args.number c.loop.rest c.loop.counter last c.loop.invariant).1
