-- A formula: statements that are separated by `;`, with one more `;` after the last or not. It may be empty.
use Rattle.std.specs.Prelude.{List, [], ◌∷◌, ◌++◌}
use Rattle.formula_trees.specs.declared.token.Span.{Span}
use Rattle.formula_trees.specs.declared.token.Kind.TheVariants.{Name, Assign, Semicolon}
use Rattle.formula_trees.specs.declared.token.Token.{Token}
use Rattle.formula_trees.specs.Tree.{Tree}
use Rattle.formula_trees.specs.Grammar.{at, Reads}

-- a statement sets the name that is this part of the text, or drops the value of its expression
pub data StatementTree : Type 0 where
  Sets : (span : Span) → Tree → StatementTree
  Drops : Tree → StatementTree

-- the tokens are this statement
pub data ReadsStatement : List Token → StatementTree → Type 0 where
  sets : {ts : List Token} {t : Tree} (p q : Span) → Reads 0 ts t → ReadsStatement (at Name p ∷ at Assign q ∷ ts) (Sets p t)
  drops : {ts : List Token} {t : Tree} → Reads 0 ts t → ReadsStatement ts (Drops t)

-- the tokens are these statements
pub data ReadsFormula : List Token → List StatementTree → Type 0 where
  empty : ReadsFormula [] []
  last : {ts : List Token} {s : StatementTree} → ReadsStatement ts s → ReadsFormula ts (s ∷ [])
  then : {ts us : List Token} {s : StatementTree} {ss : List StatementTree} (p : Span) → ReadsStatement ts s → ReadsFormula us ss →
      ReadsFormula (ts ++ at Semicolon p ∷ us) (s ∷ ss)
