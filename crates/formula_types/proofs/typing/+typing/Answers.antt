use Rattle.std.proofs.Common.{◌≤◌, List, Some, Ok, Err, sym, ap, ◌∙◌, subst, arith}
use Rattle.std.proofs.lemmas.Result.{err_from_is_err_and}
use Rattle.std.proofs.lemmas.List.Elements.{All-pop}
use Rattle.std.specs.declared.alloc.Global.{Global}
use Rattle.std.specs.declared.vec.Vec.{Vec}
use denote.Ref.{Bor}
use Rattle.bt_base.specs.Fails.{Gives, GivesAs}
use Rattle.formula_trees.specs.declared.tree.Expr.{Expr, size-Expr}
use Rattle.formula_trees.specs.View.{tree_of, trees_of}
use Rattle.formula_trees.specs.declared.value_types.ExprType.{ExprType}
use Rattle.formula_trees.specs.Names.{method_named}
use Rattle.formula_types.specs.declared.fault.TypeFault.{TypeFault}
use Rattle.formula_types.specs.Scopes.{part}
use Rattle.formula_types.specs.Typing.{type_of, types_of, is_metric, method_at}
use Rattle.formula_types.specs.View.{types_in}
use Rattle.formula_types.proofs.Nodes.{through_pop, through_fails, arguments_fail, arguments_typed}
use Rattle.formula_types.proofs.Calls.{call_typed, list_typed, method_typed}
use Rattle.formula_types.proofs.Steps.{first_failed, first_succeeded}
use Rattle.formula_types.proofs.typing.+typing.Goals as goal

pub node_type-returns-in_err-types-in-Call : goal.node_type-returns-in_err-types-in-Call
node_type-returns-in_err-types-in-Call n c =
    let p = err_from_is_err_and c.from_residual.result c.from_residual.ensures.1 in
    let told = call_typed c.args.text.now (types_in c.args.scope.now) c.args.node.now c.in-Call.span _ _ c.args.first c.in-Call.is c.deref.ensures.value in
    first_failed _ _ _ _ _ told (p.1 ∙ ap Err p.2) c.in_err-types-in-Call.ensures

pub node_type-returns-in_err-types-in-List : goal.node_type-returns-in_err-types-in-List
node_type-returns-in_err-types-in-List n c =
    let p = err_from_is_err_and c.from_residual-in_err-types-in-List.result c.from_residual-in_err-types-in-List.ensures.1 in
    let told = list_typed c.args.text.now
    (types_in c.args.scope.now) c.args.node.now c.in-List.span _ _ c.args.first c.in-List.is c.deref-in-List.ensures.value in
    first_failed _ _ _ _ _ told (p.1 ∙ ap Err p.2) c.in_err-types-in-List.ensures

pub node_type-returns-in_err-types-in-Method : goal.node_type-returns-in_err-types-in-Method
node_type-returns-in_err-types-in-Method n c =
    let p = err_from_is_err_and c.from_residual-in_err-types-in-Method.result c.from_residual-in_err-types-in-Method.ensures.1 in
    let told = method_typed c.args.text.now
    (types_in c.args.scope.now) c.args.node.now c.in-Method.operand c.in-Method.span _ _ c.args.first c.in-Method.is c.deref-in-Method.ensures.value in
    first_failed _ _ _ _ _ told (p.1 ∙ ap Err p.2) c.in_err-types-in-Method.ensures

pub node_type-returns-in_ok-types-in-Call : goal.node_type-returns-in_ok-types-in-Call
node_type-returns-in_ok-types-in-Call n c =
    let told = call_typed c.args.text.now (types_in c.args.scope.now) c.args.node.now c.in-Call.span _ _ c.args.first c.in-Call.is c.deref.ensures.value in
    first_succeeded _ _ _ _ _ told (c.in_ok-types-in-Call.ensures ∙ ap Ok (sym c.deref-in-Call.ensures.value)) c.call_at.ensures

pub node_type-returns-in_ok-types-in-List : goal.node_type-returns-in_ok-types-in-List
node_type-returns-in_ok-types-in-List n c =
    let told = list_typed c.args.text.now
    (types_in c.args.scope.now) c.args.node.now c.in-List.span _ _ c.args.first c.in-List.is c.deref-in-List.ensures.value in
    first_succeeded _ _ _ _ _ told (c.in_ok-types-in-List.ensures ∙ ap Ok (sym c.deref-in-List-2.ensures.value)) c.list_at.ensures

pub node_type-returns-in_ok-types-in-Method : goal.node_type-returns-in_ok-types-in-Method
node_type-returns-in_ok-types-in-Method n c =
    let text = c.args.text.now in
    let told = method_typed c.args.text.now
    (types_in c.args.scope.now) c.args.node.now c.in-Method.operand c.in-Method.span _ _ c.args.first c.in-Method.is c.deref-in-Method.ensures.value in
    let same = c.is_metric.ensures ∙ ap (λ e. is_metric text (tree_of e)) c.deref-in-Method-2.ensures in
    let gives = subst (λ is. Gives c.method_at.result
    (method_at c.in-Method.span (method_named (part text c.in-Method.span)) is c.deref-in-Method-3.result.now)) same c.method_at.ensures in
    first_succeeded _ _ _ _ _ told (c.in_ok-types-in-Method.ensures ∙ ap Ok (sym c.deref-in-Method-3.ensures.value)) gives

pub type_of-node_type-requires : goal.type_of-node_type-requires
type_of-node_type-requires n c =
    let small : size-Expr c.in-Some.node.now ≤ size-Expr c.args.expr.now =
    (All-pop (λ (e : Bor Expr). size-Expr e.now ≤ size-Expr c.args.expr.now) c.up.nodes.items c.pop.new.self.items
    (Some c.in-Some.node) c.in-Some.ensures.items c.up.invariant.1).1 in
    (omega (arith, small, c.decreases), tt)

pub type_of-returns-in_err-found : goal.type_of-returns-in_err-found
type_of-returns-in_err-found n c =
    let p = err_from_is_err_and c.from_residual-in_err-found.result c.from_residual-in_err-found.ensures.1 in
    let told = type_of c.args.text.now (types_in c.args.scope.now) (tree_of c.args.expr.now) in
    let fails = through_fails c.args.text.now
    (types_in c.args.scope.now) c.up.nodes.items c.pop.new.self.items c.in-Some.node c.up.found told c.in_err-found.field-0.0 c.in-Some.ensures.items
    c.up.invariant.0 c.in_err-found.ensures in
    subst (λ r. Gives r told) (sym (p.1 ∙ ap Err p.2)) fails

pub type_of-up-preserved : goal.type_of-up-preserved
type_of-up-preserved n c = (
  through_pop c.args.text.now (types_in c.args.scope.now) c.up.nodes.items c.pop.new.self.items c.in-Some.node c.up.found c.in_ok-found.found _
      c.in-Some.ensures.items c.up.invariant.0 c.in_ok-found.ensures,
  (All-pop (λ (e : Bor Expr). size-Expr e.now ≤ size-Expr c.args.expr.now) c.up.nodes.items c.pop.new.self.items
      (Some c.in-Some.node) c.in-Some.ensures.items c.up.invariant.1).0,
)

pub types_of-returns-in_err-found : goal.types_of-returns-in_err-found
types_of-returns-in_err-found n c =
    let p = err_from_is_err_and c.from_residual.result c.from_residual.ensures.1 in
    let told = types_of c.args.text.now (types_in c.args.scope.now) (trees_of c.args.items.now) in
    let fails = arguments_fail c.args.text.now
    (types_in c.args.scope.now) c.loop-item.types.items c.args.items.now c.loop-item.item-index c.item-item.result c.in_err-found.field-0.0 c.item-item.is
    c.loop-item-test.true c.loop-item.invariant c.in_err-found.ensures in
    subst (λ r. GivesAs {X = Vec ExprType Global} {Y = List ExprType} {E = TypeFault} (λ (types : Vec ExprType Global). types.items) r told)
    (sym (p.1 ∙ ap Err p.2)) fails

pub types_of-returns : goal.types_of-returns
types_of-returns n c = arguments_typed c.args.text.now
    (types_in c.args.scope.now) c.loop-item.types.items c.args.items.now c.loop-item.item-index c.loop-item-test.false c.loop-item.invariant
