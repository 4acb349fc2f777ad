-- The tree of an expression. A node has the part of the text that is its token: its literal, its name, its operator or its
-- `[`; a ternary has its `?`. A group has no node of its own.
use Rattle.std.specs.Prelude.{ℤ}
use Rattle.formula_trees.specs.declared.token.Span.{Span}
use Rattle.formula_trees.specs.declared.token.BinaryOperator.{BinaryOperator}
use Rattle.formula_trees.specs.declared.tree.UnaryOperator.{UnaryOperator}

mutual
  -- an expression
  pub data Tree : Type 0 where
    Numeral : (millionths : ℤ) (span : Span) → Tree
    Quoted : (span : Span) → Tree
    Variable : (span : Span) → Tree
    Call : (span : Span) → Trees → Tree
    Vector : (span : Span) → Trees → Tree
    Member : Tree → (span : Span) → Tree
    Method : Tree → (span : Span) → Trees → Tree
    Unary : UnaryOperator → (span : Span) → Tree → Tree
    Binary : BinaryOperator → (span : Span) → Tree → Tree → Tree
    Ternary : (span : Span) → Tree → Tree → Tree → Tree

  -- arguments and items, the last one outermost
  pub data Trees : Type 0 where
    none : Trees
    more : Trees → Tree → Trees
