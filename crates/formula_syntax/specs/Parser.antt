-- What the parser does with a token: a stack of what is open, the last one first.
use Rattle.std.specs.Prelude.{ℕ, suc, Bool, false, List, [], ◌∷◌, Option, Some, None, nat_le, if◌then◌else◌}
use Rattle.formula_trees.specs.declared.token.Span.{Span}
use Rattle.formula_trees.specs.Spans.{span_of}
use Rattle.formula_trees.specs.declared.token.BinaryOperator.{BinaryOperator}
use Rattle.formula_trees.specs.declared.token.BinaryOperator.TheVariants.{Subtract}
use Rattle.formula_trees.specs.declared.tree.UnaryOperator.{UnaryOperator}
use Rattle.formula_trees.specs.declared.tree.UnaryOperator.TheVariants.{Negate, Invert}
use Rattle.formula_trees.specs.declared.token.Kind.{Kind}
use Rattle.formula_trees.specs.declared.token.Kind.TheVariants.{Number, Text, Name, Infix, Bang, Question, Colon, Comma, Dot, OpenGroup, CloseGroup, OpenList}
use Rattle.formula_trees.specs.declared.token.Kind.TheVariants.{CloseList}
use Rattle.formula_trees.specs.declared.token.Token.{Token}
use Rattle.formula_trees.specs.Tree.{Tree, Numeral, Quoted, Variable, Call, Vector, Member, Method, Unary, Binary, Ternary, Trees, none, more}
use Rattle.formula_trees.specs.Grammar.{level_of}

-- a name that was read, of itself or of a member
pub data Callee : Type 0 where
  Free : (place : Span) → Callee
  Of : Tree → (place : Span) → Callee

-- what is open
pub data Frame : Type 0 where
  InGroup : Frame
  InCall : Callee → Trees → Frame
  InList : (place : Span) → Trees → Frame
  InUnary : UnaryOperator → (place : Span) → Frame
  InBinary : BinaryOperator → (place : Span) → Tree → Frame
  AfterQuestion : (place : Span) → Tree → Frame
  AfterColon : (place : Span) → Tree → Tree → Frame

-- all that is open, the last one first
abbrev pub Stack : Type 0
Stack = List Frame

-- what is open, and the place in an expression: where an operand has to begin; where the first item or none may follow; after a name;
-- after an operand; after a dot
pub data State : Type 0 where
  Want : Stack → State
  First : Stack → State
  Named : Stack → Callee → State
  Have : Stack → Tree → State
  Dotted : Stack → Tree → State

-- a name that is not called
abbrev pub bare : Callee → Tree
bare (Free p) = Variable p
bare (Of t p) = Member t p

-- a call of a name
abbrev pub applied : Callee → Trees → Tree
applied (Free p) args = Call p args
applied (Of t p) args = Method t p args

-- a frame takes an operand of this level or a stronger one: then it is complete
abbrev pub grips : ℕ → Frame → Bool
grips j InGroup = false
grips j (InCall c args) = false
grips j (InList p args) = false
grips j (InUnary o p) = nat_le j 7
grips j (InBinary o p l) = nat_le j (level_of o)
grips j (AfterQuestion p c) = false
grips j (AfterColon p c y) = nat_le j 0

-- what a frame makes of its last operand
abbrev pub joined : Frame → Tree → Tree
joined (InUnary o p) t = Unary o p t
joined (InBinary o p l) t = Binary o p l t
joined (AfterColon p c y) t = Ternary p c y t
joined _ t = t

-- a frame with its last operand, if it takes one of this level
abbrev pub completed : ℕ → Frame → Tree → Option Tree
completed j f t = if grips j f then Some (joined f t) else None

-- goes on with a tree, or stays
abbrev pub go_on : Option Tree → (Tree → Stack × Tree) → Stack × Tree → Stack × Tree
go_on None go stay = stay
go_on (Some t) go stay = go t

-- closes what is open, of this level and of stronger ones
abbrev pub close : ℕ → Stack → Tree → Stack × Tree
close j [] t = ([], t)
close j (f ∷ s) t = go_on (completed j f t) (close j s) (f ∷ s, t)

-- what a token that is not part of an operand closes
abbrev pub strength : Kind → ℕ
strength (Infix o) = level_of o
strength Question = 1
strength Dot = 8
strength _ = 0

-- a `:` needs a `?`
abbrev pub on_colon : Span → Stack → Tree → Option State
on_colon p (AfterQuestion q c ∷ s) t = Some (Want (AfterColon q c t ∷ s))
on_colon p _ t = None

-- a `,` ends an argument or item
abbrev pub on_comma : Stack → Tree → Option State
on_comma (InCall c args ∷ s) t = Some (Want (InCall c (more args t) ∷ s))
on_comma (InList q args ∷ s) t = Some (Want (InList q (more args t) ∷ s))
on_comma _ t = None

-- a `)` ends a group or a call
abbrev pub on_close_group : Stack → Tree → Option State
on_close_group (InGroup ∷ s) t = Some (Have s t)
on_close_group (InCall c args ∷ s) t = Some (Have s (applied c (more args t)))
on_close_group _ t = None

-- a `]` ends a list
abbrev pub on_close_list : Stack → Tree → Option State
on_close_list (InList q args ∷ s) t = Some (Have s (Vector q (more args t)))
on_close_list _ t = None

-- a token after an operand
abbrev pub act : Stack → Tree → Kind → Span → Option State
act s t (Infix o) p = Some (Want (InBinary o p t ∷ s))
act s t Question p = Some (Want (AfterQuestion p t ∷ s))
act s t Dot p = Some (Dotted s t)
act s t Colon p = on_colon p s t
act s t Comma p = on_comma s t
act s t CloseGroup p = on_close_group s t
act s t CloseList p = on_close_list s t
act s t _ p = None

-- the same of a stack with an operand
abbrev pub act_on : Stack × Tree → Kind → Span → Option State
act_on x k p = act x.0 x.1 k p

-- `-` where an operand has to begin
abbrev pub minus : Stack → BinaryOperator → Span → Option State
minus s Subtract p = Some (Want (InUnary Negate p ∷ s))
minus s _ p = None

-- the beginning of an operand
abbrev pub begin : Stack → Kind → Span → Option State
begin s (Number n) p = Some (Have s (Numeral n p))
begin s Text p = Some (Have s (Quoted p))
begin s Name p = Some (Named s (Free p))
begin s (Infix o) p = minus s o p
begin s Bang p = Some (Want (InUnary Invert p ∷ s))
begin s OpenGroup p = Some (Want (InGroup ∷ s))
begin s OpenList p = Some (First (InList p none ∷ s))
begin s _ p = None

-- a `)` after the `(` of a call
abbrev pub no_arguments : Stack → Option State
no_arguments (InCall c args ∷ s) = Some (Have s (applied c args))
no_arguments _ = None

-- a `]` after the `[` of a list
abbrev pub no_items_in : Stack → Option State
no_items_in (InList q args ∷ s) = Some (Have s (Vector q args))
no_items_in _ = None

-- the first argument or item, or the end of none
abbrev pub begin_first : Stack → Kind → Span → Option State
begin_first s CloseGroup p = no_arguments s
begin_first s CloseList p = no_items_in s
begin_first s k p = begin s k p

-- a `(` after a name begins a call
abbrev pub or_call : Stack → Callee → Kind → Option State → Option State
or_call s c OpenGroup other = Some (First (InCall c none ∷ s))
or_call s c _ other = other

-- the name after a dot
abbrev pub select : Stack → Tree → Kind → Span → Option State
select s t Name p = Some (Named s (Of t p))
select s t _ p = None

-- one token; None if it is not taken
abbrev pub step : State → Kind → Span → Option State
step (Want s) k p = begin s k p
step (First s) k p = begin_first s k p
step (Named s c) k p = or_call s c k (act_on (close (strength k) s (bare c)) k p)
step (Have s t) k p = act_on (close (strength k) s t) k p
step (Dotted s t) k p = select s t k p

-- goes on if a token was taken
abbrev pub and_run : Option State → (State → Option State) → Option State
and_run None go = None
and_run (Some q) go = go q

-- the tokens, one after the other
abbrev pub run : List Token → State → Option State
run [] q = Some q
run (x ∷ xs) q = and_run (step q x.kind (span_of x)) (run xs)

-- the last operand, with what is open once this level and stronger ones are closed
abbrev pub settled : ℕ → State → Option (Stack × Tree)
settled j (Want s) = None
settled j (First s) = None
settled j (Named s c) = Some (close j s (bare c))
settled j (Have s t) = Some (close j s t)
settled j (Dotted s t) = None

-- how many marks are open
abbrev pub depth_of : Stack → ℕ
depth_of [] = 0
depth_of (InBinary o p l ∷ s) = depth_of s
depth_of (_ ∷ s) = suc (depth_of s)
