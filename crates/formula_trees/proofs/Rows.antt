-- The trees of the items of a call, a method or a list.
use Rattle.std.proofs.Common.{◌≡◌, List, [], ◌∷◌, ◌++◌, refl, ap, ◌∙◌}
use Rattle.formula_trees.specs.declared.token.Span.{Span}
use Rattle.std.specs.declared.alloc.Global.{Global}
use Rattle.std.specs.declared.vec.Vec.{Vec}
use mathlib.Core.Former.{Count}
use Rattle.formula_trees.specs.declared.tree.Expr.{Expr, Row_of-Expr, end_of-Expr, more_of-Expr, items-the_row-Expr, items_hidden-the_row-Expr-0}
use Rattle.formula_trees.specs.declared.tree.Expr.TheVariants.{Call, List as Items, Call', List', Method'}
use Rattle.formula_trees.specs.Tree as tree
use Rattle.formula_trees.specs.View.{tree_of, row_trees, trees_after, trees_of}

abbrev row_of : Expr → (n : Count) × Row_of-Expr n
row_of (Call' p shape row) = (_, row)
row_of (List' p shape row) = (_, row)
row_of (Method' b e p shape row) = (_, row)
row_of _ = (_, end_of-Expr)

row_after : (n : _) (row : Row_of-Expr n) (front : tree.Trees) → row_trees row front ≡ trees_after front (items-the_row-Expr n row)
row_after n end_of-Expr front = refl
row_after n (more_of-Expr e rest) front = row_after _ rest (tree.more front (tree_of e))

pub row_items : (p : Span) (args : Vec Expr Global) → (let row = row_of (Call p args) in row_trees row.1 tree.none) ≡ trees_of args.items
row_items p args =
    let row = row_of (Call p args) in
    row_after row.0 row.1 tree.none ∙ ap (trees_after tree.none) (items_hidden-the_row-Expr-0 args)

pub tree_of-Call : (p : Span) (args : Vec Expr Global) → tree_of (Call p args) ≡ tree.Call p (trees_of args.items)
tree_of-Call p args = ap (tree.Call p) (row_items p args)

pub tree_of-List : (p : Span) (args : Vec Expr Global) → tree_of (Items p args) ≡ tree.Vector p (trees_of args.items)
tree_of-List p args = ap (tree.Vector p) (row_items p args)

pub trees_after_push : (es : List Expr) (e : Expr) (front : tree.Trees) → trees_after front (es ++ e ∷ []) ≡ tree.more (trees_after front es) (tree_of e)
trees_after_push [] e front = refl
trees_after_push (x ∷ es) e front = trees_after_push es e (tree.more front (tree_of x))

pub trees_of_push : (es : List Expr) (e : Expr) → trees_of (es ++ e ∷ []) ≡ tree.more (trees_of es) (tree_of e)
trees_of_push es e = trees_after_push es e tree.none
