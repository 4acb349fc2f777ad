-- The states that the program's values represent.
use Rattle.formula_trees.specs.declared.token.Span.{Span}
use Rattle.std.specs.Prelude.{◌≡◌, ℕ, Option, Some, None, Result, Ok, Err, [], ◌∷◌, true}
use Rattle.formula_syntax.specs.declared.expression.Position.{Position}
use Rattle.formula_syntax.specs.declared.expression.Position.TheVariants.{Want, First, Named, Have, Dotted}
use Rattle.formula_trees.specs.declared.fault.SyntaxFault.{SyntaxFault}
use Rattle.formula_trees.specs.declared.fault.SyntaxFault.TheVariants.{UnexpectedToken}
use Rattle.bt_base.specs.declared.fail.Fail.{Fail}
use Rattle.bt_base.specs.declared.fail.Fail.TheVariants.{Memory, Why}
use Rattle.formula_trees.specs.View.{tree_of}
use Rattle.formula_syntax.specs.Frames.{callee_of}
use Rattle.formula_syntax.specs.Parser as parser

-- a stack and the place in an expression
abbrev pub state_of : parser.Stack → Position → parser.State
state_of s Want = parser.Want s
state_of s First = parser.First s
state_of s (Named c) = parser.Named s (callee_of c)
state_of s (Have t) = parser.Have s (tree_of t)
state_of s (Dotted t) = parser.Dotted s (tree_of t)

-- a token at a place was taken, with this stack left, as the parser takes it
abbrev pub Takes : parser.Stack → Result Position (Fail SyntaxFault) → Span → Option parser.State → Type 0
Takes s (Ok q) p o = o ≡ Some (state_of s q)
Takes s (Err Memory) p o = Unit {0}
Takes s (Err (Why f)) p o = (o ≡ None) × (f ≡ UnexpectedToken p.from)

-- the last frame is complete with an operand of this level
abbrev pub CompletesLast : ℕ → parser.Stack → Type 0
CompletesLast j [] = ⊥
CompletesLast j (f ∷ s) = parser.grips j f ≡ true
