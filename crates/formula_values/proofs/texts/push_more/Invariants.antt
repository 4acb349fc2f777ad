use Rattle.std.proofs.Common.{◌≡◌, ◌++◌, drop}
use Rattle.std.specs.Prelude.{string_bytes}
use Rattle.formula_values.specs.Texts.{more_items}
use Rattle.formula_values.proofs.texts.push_more.Given as goal

abbrev pub invariant-loop-item : goal.invariant-loop-item
invariant-loop-item l = string_bytes l.text ++ more_items (drop l.item-index l.items) ≡ string_bytes l.initial.text ++ more_items l.items
