use Rattle.formula_values.proofs.TimeParts.{all_parts}
use Rattle.formula_values.proofs.texts.push_time.Goals as goal

pub returns : goal.returns
returns c =
    all_parts _ _ _ _ _ _ _ _ c.args.shown c.args.units
    c.in_ok-push_part.ensures c.in_ok-push_part-2.ensures c.in_ok-push_part-3.ensures c.in_ok-push_part-4.ensures
    c.in_ok-push_part-5.ensures c.in_ok-push_part-6.ensures c.in_ok-push_part-7.ensures
