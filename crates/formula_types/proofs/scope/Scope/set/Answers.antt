use Rattle.std.proofs.Common.{Some}
use Rattle.std.proofs.lemmas.Map.Text.{btree_map_updates_str}
use Rattle.formula_types.specs.View.{types_in}
use Rattle.formula_types.proofs.scope.Scope.set.Goals as goal

pub returns : goal.returns
unfolding types_in
returns c = λ i name. btree_map_updates_str c.args.name.now c.args.self.now.types c.insert.new.self
    (Some c.args.value) c.in_ok-insert.ensures.updates name i
