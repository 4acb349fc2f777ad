use Rattle.std.proofs.Common.{◌≡◌, arith}
use Rattle.std.proofs.lemmas.Int.{ints}
use Rattle.formula_values.proofs.Totals.{total_more}
use Rattle.formula_values.proofs.items.total.Goals as goal

pub loop-item-preserved : goal.loop-item-preserved
loop-item-preserved c =
    let x : c.from-sum.result ≡ c.item-item.result = omega (arith, ints) in
    record {
      whole = total_more c.args.items.now c.loop-item.item-index c.item-item.result _ _ _ c.loop-item-test.true c.item-item.is
          (omega (arith, ints)) c.loop-item.invariant.whole;
      low = omega (arith, ints);
      high = omega (arith, ints);
    }
