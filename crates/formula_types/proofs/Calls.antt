-- The types of nodes with arguments.
use Rattle.std.proofs.Common.{◌≡◌, ℕ, List, sym, ap, ◌∙◌}
use Rattle.std.specs.declared.alloc.Global.{Global}
use Rattle.std.specs.declared.boxed.Box.{Box}
use Rattle.std.specs.declared.vec.Vec.{Vec}
use Rattle.bt_base.specs.Fails.{◌>>=◌}
use Rattle.formula_trees.specs.declared.token.Span.{Span}
use Rattle.formula_trees.specs.declared.tree.Expr.{Expr}
use Rattle.formula_trees.specs.declared.tree.Expr.TheVariants.{Call, List as Items, Method}
use Rattle.formula_trees.specs.Tree as tree
use Rattle.formula_trees.specs.View.{tree_of, trees_of}
use Rattle.formula_trees.proofs.Rows.{tree_of-Call, tree_of-List, row_items}
use Rattle.formula_trees.specs.declared.value_types.ExprType.{ExprType}
use Rattle.formula_trees.specs.Names.{function_named, method_named}
use Rattle.formula_types.specs.Scopes as scopes
use Rattle.formula_types.specs.Scopes.{part}
use Rattle.formula_types.specs.Typing.{types_of, call_at, list_at, method_at, is_metric}
use Rattle.formula_types.specs.Nodes.{node_type}

pub call_typed : (text : List ℕ) (set : scopes.Variables) (node : Expr) (p : Span) (args : Vec Expr Global) (items : List Expr) (first : ExprType) →
    node ≡ Call p args → items ≡ args.items →
    node_type text set (tree_of node) first ≡ (types_of text set (trees_of items) >>= call_at p (function_named (part text p)))
call_typed text set node p args items first is same =
    ap (λ e. node_type text set (tree_of e) first) is
    ∙ ap (λ t. node_type text set t first) (tree_of-Call p args)
    ∙ ap (λ es. types_of text set (trees_of es) >>= call_at p (function_named (part text p))) (sym same)

pub list_typed : (text : List ℕ) (set : scopes.Variables) (node : Expr) (p : Span) (args : Vec Expr Global) (items : List Expr) (first : ExprType) →
    node ≡ Items p args → items ≡ args.items → node_type text set (tree_of node) first ≡ (types_of text set (trees_of items) >>= list_at p)
list_typed text set node p args items first is same =
    ap (λ e. node_type text set (tree_of e) first) is
    ∙ ap (λ t. node_type text set t first) (tree_of-List p args)
    ∙ ap (λ es. types_of text set (trees_of es) >>= list_at p) (sym same)

pub method_typed : (text : List ℕ) (set : scopes.Variables) (node : Expr) (operand : Box Expr Global) (p : Span) (args : Vec Expr Global) (items : List Expr)
    (first : ExprType) → node ≡ Method operand p args → items ≡ args.items →
    node_type text set (tree_of node) first
    ≡ (types_of text set (trees_of items) >>= method_at p (method_named (part text p)) (is_metric text (tree_of operand.value)))
method_typed text set node operand p args items first is same =
    ap (λ e. node_type text set (tree_of e) first) is
    ∙ ap (λ t. node_type text set t first) (ap (tree.Method (tree_of operand.value) p) (row_items p args))
    ∙ ap (λ es. types_of text set (trees_of es) >>= method_at p (method_named (part text p)) (is_metric text (tree_of operand.value))) (sym same)
