-- The trees that the program's expressions and statements represent.
use Rattle.std.specs.Prelude.{List, [], ◌∷◌, map}
use Rattle.formula_trees.specs.declared.tree.Expr.{Expr, Row_of-Expr, end_of-Expr, more_of-Expr}
use Rattle.formula_trees.specs.declared.tree.Expr.TheVariants.{Number, Text, Name, Call', List', Member', Method', Unary', Binary', Ternary'}
use Rattle.formula_trees.specs.declared.tree.Statement.{Statement}
use Rattle.formula_trees.specs.declared.tree.Statement.TheVariants.{Assign, Expression}
use Rattle.formula_trees.specs.Formula.{StatementTree, Sets, Drops}
use Rattle.formula_trees.specs.Tree.{Tree, Numeral, Quoted, Variable, Call, Vector, Member, Method, Unary, Binary, Ternary, Trees, none, more}

abbrev mutual
  -- the tree of an expression
  pub tree_of : Expr → Tree
  tree_of (Number n p) = Numeral n p
  tree_of (Text p) = Quoted p
  tree_of (Name p) = Variable p
  tree_of (Call' p shape args) = Call p (row_trees args none)
  tree_of (List' p shape args) = Vector p (row_trees args none)
  tree_of (Member' b e p) = Member (tree_of e) p
  tree_of (Method' b e p shape args) = Method (tree_of e) p (row_trees args none)
  tree_of (Unary' o p b e) = Unary o p (tree_of e)
  tree_of (Binary' o p b l c r) = Binary o p (tree_of l) (tree_of r)
  tree_of (Ternary' p b c d y e n) = Ternary p (tree_of c) (tree_of y) (tree_of n)

  -- the trees of the items of a call, a method or a list, after others
  pub row_trees : {m : _} → Row_of-Expr m → Trees → Trees
  row_trees end_of-Expr front = front
  row_trees (more_of-Expr e rest) front = row_trees rest (more front (tree_of e))

-- the trees of a list, after others
abbrev pub trees_after : Trees → List Expr → Trees
trees_after front [] = front
trees_after front (e ∷ es) = trees_after (more front (tree_of e)) es

-- the trees of a list
abbrev pub trees_of : List Expr → Trees
trees_of es = trees_after none es

-- the tree of a statement
abbrev pub statement_of : Statement → StatementTree
statement_of (Assign p e) = Sets p (tree_of e)
statement_of (Expression e) = Drops (tree_of e)

-- the trees of statements
abbrev pub statements_of : List Statement → List StatementTree
statements_of ss = map statement_of ss
