use Rattle.std.proofs.Common.{◌≤◌, List, Some, Err, sym, ap, ◌∙◌, subst}
use Rattle.std.proofs.lemmas.Result.{err_from_is_err_and}
use Rattle.std.proofs.lemmas.List.Elements.{All-pop}
use Rattle.std.specs.declared.alloc.Global.{Global}
use Rattle.std.specs.declared.vec.Vec.{Vec}
use denote.Ref.{Bor}
use Rattle.bt_base.specs.Fails.{Gives, GivesAs}
use Rattle.formula_trees.specs.declared.tree.Expr.{Expr, size-Expr}
use Rattle.formula_trees.specs.View.{tree_of, trees_of}
use Rattle.formula_values.specs.declared.value.Value.{Value}
use Rattle.formula_eval.specs.declared.fault.Interrupt.{Interrupt}
use Rattle.formula_eval.specs.Evaluation.{value_of, values_of, metric_of}
use Rattle.formula_eval.specs.Walks.{method_value}
use Rattle.formula_eval.proofs.Nodes.{through_pop, through_fails, arguments_fail, arguments_known}
use Rattle.formula_eval.proofs.Arguments.{call_known, list_known, method_known}
use Rattle.formula_eval.proofs.values.+values.Goals as goal

pub node_value-returns-in-Call : goal.node_value-returns-in-Call
node_value-returns-in-Call n c =
    let told = call_known c.args.context.now.text.now c.args.context.now.metrics.now c.args.context.now.now c.args.context.now.set.now c.args.node.now
    c.in-Call.span _ _ c.args.first.now c.in-Call.is c.deref.ensures.value in
    subst (λ r. Gives c.call_value.result r) (sym told) c.call_value.ensures

pub node_value-returns-in-List : goal.node_value-returns-in-List
node_value-returns-in-List n c =
    let told = list_known c.args.context.now.text.now c.args.context.now.metrics.now c.args.context.now.now c.args.context.now.set.now c.args.node.now _ _ _
    c.args.first.now c.in-List.is c.deref-in-List.ensures.value in
    subst (λ r. Gives c.list_value.result r) (sym told) c.list_value.ensures

pub node_value-returns-in-Method : goal.node_value-returns-in-Method
node_value-returns-in-Method n c =
    let text = c.args.context.now.text.now in
    let told = method_known text c.args.context.now.metrics.now c.args.context.now.now c.args.context.now.set.now c.args.node.now c.in-Method.operand
    c.in-Method.span _ _ c.args.first.now c.in-Method.is c.deref-in-Method-2.ensures.value in
    let same = c.metric_of-metric.ensures ∙ ap (λ e. metric_of text (tree_of e)) c.deref-in-Method.ensures in
    let gives = subst (λ m. Gives c.method_value.result
    (method_value text c.args.context.now.metrics.now c.args.context.now.now c.args.context.now.set.now c.in-Method.span m
    (trees_of c.deref-in-Method-2.result.now))) same c.method_value.ensures in
    subst (λ r. Gives c.method_value.result r) (sym told) gives

pub value_of-returns-in_err-found : goal.value_of-returns-in_err-found
value_of-returns-in_err-found n c =
    let p = err_from_is_err_and c.from_residual-in_err-found.result c.from_residual-in_err-found.ensures.1 in
    let told = value_of c.args.context.now.text.now c.args.context.now.metrics.now c.args.context.now.now c.args.context.now.set.now
    (tree_of c.args.expr.now) in
    let fails = through_fails _ _ _ _ c.up.nodes.items c.pop.new.self.items c.in-Some.node c.up.found told c.in_err-found.field-0.0 c.in-Some.ensures.items
    c.up.invariant.0 c.in_err-found.ensures in
    subst (λ r. Gives r told) (sym (p.1 ∙ ap Err p.2)) fails

pub value_of-up-preserved : goal.value_of-up-preserved
value_of-up-preserved n c = (
  through_pop _ _ _ _ c.up.nodes.items c.pop.new.self.items c.in-Some.node c.up.found c.in_ok-found.found _ c.in-Some.ensures.items c.up.invariant.0
      c.in_ok-found.ensures,
  (All-pop (λ (e : Bor Expr). size-Expr e.now ≤ size-Expr c.args.expr.now) c.up.nodes.items c.pop.new.self.items
      (Some c.in-Some.node) c.in-Some.ensures.items c.up.invariant.1).0,
)

pub values_of-returns-in_err-found : goal.values_of-returns-in_err-found
values_of-returns-in_err-found n c =
    let p = err_from_is_err_and c.from_residual.result c.from_residual.ensures.1 in
    let told = values_of c.args.context.now.text.now c.args.context.now.metrics.now c.args.context.now.now c.args.context.now.set.now
    (trees_of c.args.items.now) in
    let fails = arguments_fail _ _ _ _ c.loop-item.values.items c.args.items.now c.loop-item.item-index c.item-item.result c.in_err-found.field-0.0
    c.item-item.is c.loop-item-test.true c.loop-item.invariant c.in_err-found.ensures in
    subst (λ r. GivesAs {X = Vec Value Global} {Y = List Value} {E = Interrupt} (λ (values : Vec Value Global). values.items) r told)
    (sym (p.1 ∙ ap Err p.2)) fails

pub values_of-returns : goal.values_of-returns
values_of-returns n c = arguments_known _ _ _ _ c.loop-item.values.items c.args.items.now c.loop-item.item-index c.loop-item-test.false c.loop-item.invariant
