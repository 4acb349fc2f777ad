-- The values of nodes with arguments.
use Rattle.std.proofs.Common.{◌≡◌, ℕ, List, Ok, sym, ap, ◌∙◌}
use Rattle.std.specs.declared.alloc.Global.{Global}
use Rattle.std.specs.declared.boxed.Box.{Box}
use Rattle.std.specs.declared.vec.Vec.{Vec}
use Rattle.bt_base.specs.Fails.{◌>>=◌}
use Rattle.formula_trees.specs.declared.token.Span.{Span}
use Rattle.formula_trees.specs.declared.tree.Expr.{Expr}
use Rattle.formula_trees.specs.declared.tree.Expr.TheVariants.{Call, List as Items, Method}
use Rattle.formula_trees.specs.Tree as tree
use Rattle.formula_trees.specs.View.{tree_of, trees_of}
use Rattle.formula_trees.proofs.Rows.{tree_of-Call, tree_of-List, row_items}
use Rattle.formula_trees.specs.Names.{function_named, method_named}
use Rattle.formula_types.specs.Scopes.{part}
use Rattle.formula_values.specs.declared.value.Value.{Value}
use Rattle.formula_values.specs.declared.value.Value.TheVariants.{DoubleVec}
use Rattle.formula_values.specs.Functions.{flattened}
use Rattle.formula_metrics.specs.declared.metrics.Metrics.{Metrics}
use Rattle.formula_eval.specs.declared.outcome.Outcome.{Outcome}
use Rattle.formula_eval.specs.Evaluation.{values_of, call_at, method_at, metric_of}
use Rattle.formula_eval.specs.Walks.{node_value}

module _ (text : List ℕ) (metrics : Metrics) (now : ℕ) (set : Outcome) where
  pub call_known : (node : Expr) (p : Span) (args : Vec Expr Global) (items : List Expr) (first : Value) → node ≡ Call p args → items ≡ args.items →
      node_value text metrics now set (tree_of node) first ≡ (values_of text metrics now set (trees_of items) >>= call_at now p (function_named (part text p)))
  call_known node p args items first is same =
      ap (λ e. node_value text metrics now set (tree_of e) first) is
      ∙ ap (λ t. node_value text metrics now set t first) (tree_of-Call p args)
      ∙ ap (λ es. values_of text metrics now set (trees_of es) >>= call_at now p (function_named (part text p))) (sym same)

  pub list_known : (node : Expr) (p : Span) (args : Vec Expr Global) (items : List Expr) (first : Value) → node ≡ Items p args → items ≡ args.items →
      node_value text metrics now set (tree_of node) first ≡ (values_of text metrics now set (trees_of items) >>= (λ values. Ok (DoubleVec (flattened values))))
  list_known node p args items first is same =
      ap (λ e. node_value text metrics now set (tree_of e) first) is
      ∙ ap (λ t. node_value text metrics now set t first) (tree_of-List p args)
      ∙ ap (λ es. values_of text metrics now set (trees_of es) >>= (λ values. Ok (DoubleVec (flattened values)))) (sym same)

  pub method_known : (node : Expr) (operand : Box Expr Global) (p : Span) (args : Vec Expr Global) (items : List Expr) (first : Value) →
      node ≡ Method operand p args → items ≡ args.items →
      node_value text metrics now set (tree_of node) first
      ≡ (values_of text metrics now set (trees_of items) >>= method_at metrics now p (metric_of text (tree_of operand.value)) (method_named (part text p)))
  method_known node operand p args items first is same =
      ap (λ e. node_value text metrics now set (tree_of e) first) is
      ∙ ap (λ t. node_value text metrics now set t first) (ap (tree.Method (tree_of operand.value) p) (row_items p args))
      ∙ ap (λ es. values_of text metrics now set (trees_of es) >>= method_at metrics now p (metric_of text (tree_of operand.value))
      (method_named (part text p))) (sym same)
