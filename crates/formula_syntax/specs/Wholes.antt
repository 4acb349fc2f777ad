-- The states of a whole text that the program's values represent.
use Rattle.std.specs.Prelude.{◌≡◌, ℕ, List, nat_lt, true, false, Option, Some, None, Result, Ok, Err}
use Rattle.formula_trees.specs.declared.tree.Statement.{Statement}
use Rattle.formula_syntax.specs.declared.formula.Target.{Target}
use Rattle.formula_syntax.specs.declared.formula.Target.TheVariants.{Nowhere, Name}
use Rattle.formula_syntax.specs.declared.formula.Progress.{Progress}
use Rattle.formula_syntax.specs.declared.formula.Progress.TheVariants.{Between, Lone, Inside}
use Rattle.formula_trees.specs.declared.fault.SyntaxFault.{SyntaxFault}
use Rattle.formula_trees.specs.declared.fault.TheConstants.{DEEPEST}
use Rattle.formula_trees.specs.declared.fault.SyntaxFault.TheVariants.{UnexpectedToken, TooDeep}
use Rattle.bt_base.specs.declared.fail.Fail.{Fail}
use Rattle.bt_base.specs.declared.fail.Fail.TheVariants.{Memory, Why}
use Rattle.formula_trees.specs.Formula.{StatementTree}
use Rattle.formula_trees.specs.View.{statements_of}
use Rattle.formula_syntax.specs.Stacks.{stack_of}
use Rattle.formula_syntax.specs.States.{state_of}
use Rattle.formula_syntax.specs.Whole as whole

-- what a statement does with its expression
abbrev pub target_of : Target → whole.Target
target_of Nowhere = whole.Nowhere
target_of (Name p) = whole.Into p

-- the statements before, and what is read of the last one
abbrev pub whole_of : List StatementTree → Progress → whole.Whole
whole_of done Between = whole.Between done
whole_of done (Lone p) = whole.Lone done p
whole_of done (Inside target s q) = whole.Inside done (target_of target) (state_of (stack_of s) q)

-- a token at a place was taken, with these statements left, as the parser takes it
abbrev pub TakesWhole : List StatementTree → Result Progress (Fail SyntaxFault) → ℕ → Option whole.Whole → Type 0
TakesWhole done (Ok q) p o = o ≡ Some (whole_of done q)
TakesWhole done (Err Memory) p o = Unit {0}
TakesWhole done (Err (Why f)) p o = (o ≡ None) × (f ≡ UnexpectedToken p)

-- a statement ended at a place, with these statements left
abbrev pub Ends : List StatementTree → Result (Unit {0}) (Fail SyntaxFault) → ℕ → Option (List StatementTree) → Type 0
Ends done (Ok u) p o = o ≡ Some done
Ends done (Err Memory) p o = Unit {0}
Ends done (Err (Why f)) p o = (o ≡ None) × (f ≡ UnexpectedToken p)

-- the token is not taken, or it opens too many marks
abbrev pub FaultAt : SyntaxFault → ℕ → Option whole.Whole → Type 0
FaultAt f p None = f ≡ UnexpectedToken p
FaultAt f p (Some w) = (nat_lt DEEPEST (whole.depth_in w) ≡ true) × (f ≡ TooDeep p)

-- the same, with the limit of open marks
abbrev pub TakesShallow : List StatementTree → Result Progress (Fail SyntaxFault) → ℕ → Option whole.Whole → Type 0
TakesShallow done (Ok q) p o = (o ≡ Some (whole_of done q)) × (nat_lt DEEPEST (whole.depth_in (whole_of done q)) ≡ false)
TakesShallow done (Err Memory) p o = Unit {0}
TakesShallow done (Err (Why f)) p o = FaultAt f p o

-- the statements of a text, or its first fault
abbrev pub AnswersParsed : List Statement → Result (Unit {0}) (Fail SyntaxFault) → Result (List StatementTree) SyntaxFault → Type 0
AnswersParsed ss (Ok u) r = r ≡ Ok (statements_of ss)
AnswersParsed ss (Err Memory) r = Unit {0}
AnswersParsed ss (Err (Why f)) r = r ≡ Err f
