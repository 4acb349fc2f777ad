use Rattle.std.proofs.Common.{List, Ok, sym, ap, ◌∙◌, ◌≤◌, All, subst, arith}
use Rattle.std.proofs.lemmas.List.Elements.{All-push}
use denote.Ref.{Bor}
use Rattle.formula_trees.specs.declared.tree.Expr.{Expr, size-Expr}
use Rattle.formula_trees.specs.View.{tree_of}
use Rattle.formula_trees.specs.declared.value_types.ExprType.TheVariants.{Stop}
use Rattle.formula_types.specs.Typing.{type_of}
use Rattle.formula_types.specs.Nodes.{through}
use Rattle.formula_types.proofs.Nodes.{type_by_first, type_alone, through_push}
use Rattle.formula_types.proofs.typing.spine.Goals as goal

pub down-preserved : goal.down-preserved
down-preserved c =
    let Fits : List (Bor Expr) → Type 0 = λ es. All (λ (e : Bor Expr). size-Expr e.now ≤ size-Expr c.args.expr.now) es in
    let pushed = c.in_ok-push.ensures.items in (
      λ text set.
          ap (λ es. through text set es (type_of text set (tree_of c.in-Some.operand.now))) pushed
          ∙ through_push text set c.down.nodes.items c.down.inner (type_of text set (tree_of c.in-Some.operand.now))
          ∙ ap (through text set c.down.nodes.items)
          (sym (type_by_first text set (tree_of c.down.inner.now) (tree_of c.in-Some.operand.now) Stop c.in-Some.ensures.value))
          ∙ c.down.invariant.0 text set,
      omega (arith, c.in-Some.ensures.within, c.down.invariant.1),
      subst Fits (sym pushed) (All-push
          (λ (e : Bor Expr). size-Expr e.now ≤ size-Expr c.args.expr.now) c.down.nodes.items c.down.inner c.down.invariant.2 c.down.invariant.1),
    )

pub returns-clause-value : goal.returns-clause-value
returns-clause-value c =
    λ text set any.
    ap (λ es. through text set es (Ok any)) c.in_ok-push-2.ensures.items
    ∙ through_push text set c.down.nodes.items c.down.inner (Ok any)
    ∙ ap (through text set c.down.nodes.items) (sym (type_alone text set (tree_of c.down.inner.now) any c.in_default.ensures.value))
    ∙ c.down.invariant.0 text set
