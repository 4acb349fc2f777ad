-- What the parser does with a token of a whole formula.
use Rattle.std.specs.Prelude.{ℕ, List, [], ◌∷◌, ◌++◌, Option, Some, None, Result, Ok, Err, nat_lt, if◌then◌else◌}
use Rattle.std.specs.Option.{option_map}
use Rattle.formula_trees.specs.declared.token.Span.{Span}
use Rattle.formula_trees.specs.Spans.{span_of}
use Rattle.formula_trees.specs.declared.token.Kind.{Kind}
use Rattle.formula_trees.specs.declared.token.Kind.TheVariants.{Name, Semicolon, Assign}
use Rattle.formula_trees.specs.declared.token.Token.{Token}
use Rattle.formula_trees.specs.declared.fault.SyntaxFault.{SyntaxFault}
use Rattle.formula_trees.specs.declared.fault.TheConstants.{DEEPEST}
use Rattle.formula_trees.specs.declared.fault.SyntaxFault.TheVariants.{UnexpectedToken, TooDeep}
use Rattle.formula_trees.specs.Tree.{Tree}
use Rattle.formula_trees.specs.Formula.{StatementTree, Sets, Drops}
use Rattle.formula_syntax.specs.Parser.{Free, State, Want, First, Named, Have, Dotted, Stack, step, settled, depth_of}

-- what a statement does with its expression
pub data Target : Type 0 where
  Nowhere : Target
  Into : (place : Span) → Target

-- the statement of an expression
abbrev pub with_target : Target → Tree → StatementTree
with_target Nowhere t = Drops t
with_target (Into p) t = Sets p t

-- the statements before, and what is read of the last one: nothing, a name alone, or part of an expression
pub data Whole : Type 0 where
  Between : List StatementTree → Whole
  Lone : List StatementTree → (place : Span) → Whole
  Inside : List StatementTree → Target → State → Whole

-- the statements, if the last one's expression has nothing open
abbrev pub ended_by : List StatementTree → Target → Option (Stack × Tree) → Option (List StatementTree)
ended_by done target (Some ([], t)) = Some (done ++ with_target target t ∷ [])
ended_by done target _ = None

-- the statements, if the last one may end here
abbrev pub ended : Whole → Option (List StatementTree)
ended (Between done) = None
ended (Lone done p) = ended_by done Nowhere (settled 0 (Named [] (Free p)))
ended (Inside done target q) = ended_by done target (settled 0 q)

-- the statements, if the text may end here
abbrev pub finished : Whole → Option (List StatementTree)
finished (Between done) = Some done
finished w = ended w

-- a token where a statement begins
abbrev pub begin_whole : List StatementTree → Kind → Span → Option Whole
begin_whole done Name p = Some (Lone done p)
begin_whole done k p = option_map (Inside done Nowhere) (step (Want []) k p)

-- a token after a name that begins a statement
abbrev pub lone_whole : List StatementTree → Span → Kind → Span → Option Whole
lone_whole done q Assign p = Some (Inside done (Into q) (Want []))
lone_whole done q Semicolon p = option_map Between (ended (Lone done q))
lone_whole done q k p = option_map (Inside done Nowhere) (step (Named [] (Free q)) k p)

-- a token after the beginning of an expression
abbrev pub inside_whole : List StatementTree → Target → State → Kind → Span → Option Whole
inside_whole done target q Semicolon p = option_map Between (ended (Inside done target q))
inside_whole done target q k p = option_map (Inside done target) (step q k p)

-- one token; None if it is not taken
abbrev pub step_whole : Whole → Kind → Span → Option Whole
step_whole (Between done) k p = begin_whole done k p
step_whole (Lone done q) k p = lone_whole done q k p
step_whole (Inside done target q) k p = inside_whole done target q k p

-- the stack of a state
abbrev pub stack_in : State → Stack
stack_in (Want s) = s
stack_in (First s) = s
stack_in (Named s c) = s
stack_in (Have s t) = s
stack_in (Dotted s t) = s

-- how many marks are open
abbrev pub depth_in : Whole → ℕ
depth_in (Between done) = 0
depth_in (Lone done p) = 0
depth_in (Inside done target q) = depth_of (stack_in q)

-- the statements, or the fault of a text that may not end here
abbrev pub at_end : ℕ → Option (List StatementTree) → Result (List StatementTree) SyntaxFault
at_end end None = Err (UnexpectedToken end)
at_end end (Some ss) = Ok ss

-- the fault of a token, or what follows it
abbrev pub on_token : ℕ → (Whole → Result (List StatementTree) SyntaxFault) → Option Whole → Result (List StatementTree) SyntaxFault
on_token p go None = Err (UnexpectedToken p)
on_token p go (Some w) = if nat_lt DEEPEST (depth_in w) then Err (TooDeep p) else go w

-- the statements of the tokens of a text of that length, or the first fault
abbrev pub parsed : ℕ → List Token → Whole → Result (List StatementTree) SyntaxFault
parsed end [] w = at_end end (finished w)
parsed end (t ∷ ts) w = on_token t.from (parsed end ts) (step_whole w t.kind (span_of t))

-- goes on if a token was taken
abbrev pub and_run_whole : Option Whole → (Whole → Option Whole) → Option Whole
and_run_whole None go = None
and_run_whole (Some w) go = go w

-- the tokens, one after the other, without the limit of open marks
abbrev pub run_whole : List Token → Whole → Option Whole
run_whole [] w = Some w
run_whole (t ∷ ts) w = and_run_whole (step_whole w t.kind (span_of t)) (run_whole ts)
