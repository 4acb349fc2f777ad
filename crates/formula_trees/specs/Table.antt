-- Which token may follow, as a table: a place, and the marks that are open, the last one first. It knows no levels. A token that
-- is not named for a place is not taken there.
use Rattle.std.specs.Prelude.{ℕ, List, [], ◌∷◌, length, Option, Some, None, nat_lt, if◌then◌else◌, Bool, true, false}
use Rattle.formula_trees.specs.declared.token.BinaryOperator.{BinaryOperator}
use Rattle.formula_trees.specs.declared.token.BinaryOperator.TheVariants.{Subtract}
use Rattle.formula_trees.specs.declared.token.Kind.{Kind}
use Rattle.formula_trees.specs.declared.token.Kind.TheVariants.{Number, Text, Name, Infix, Bang, Question, Colon, Comma, Semicolon, Assign, Dot, OpenGroup}
use Rattle.formula_trees.specs.declared.token.Kind.TheVariants.{CloseGroup, OpenList, CloseList}
use Rattle.formula_trees.specs.declared.token.Token.{Token}
use Rattle.formula_trees.specs.declared.fault.SyntaxFault.{SyntaxFault}
use Rattle.formula_trees.specs.declared.fault.SyntaxFault.TheVariants.{UnexpectedToken, TooDeep}
use Rattle.formula_trees.specs.declared.fault.TheConstants.{DEEPEST}

-- the places of a reading: where a statement may begin; where an operand has to begin; after a `(` or `[` that the first item or none
-- may follow; after a name that begins a statement; after another name; after an operand; after a dot
pub data Place : Type 0 where
  Start : Place
  Want : Place
  First : Place
  Lone : Place
  Named : Place
  Have : Place
  Dotted : Place

-- what is open
pub data Mark : Type 0 where
  Group : Mark
  Call : Mark
  Items : Mark
  QuestionMark : Mark
  ColonMark : Mark
  Unary : Mark

-- a place, and the open marks
abbrev pub Standing : Type 0
Standing = Place × List Mark

-- without the unary marks at the end
abbrev pub clears_unary : List Mark → List Mark
clears_unary [] = []
clears_unary (Unary ∷ ms) = clears_unary ms
clears_unary (m ∷ ms) = m ∷ ms

-- without the unary and `:` marks at the end
abbrev pub clears : List Mark → List Mark
clears [] = []
clears (Unary ∷ ms) = clears ms
clears (ColonMark ∷ ms) = clears ms
clears (m ∷ ms) = m ∷ ms

-- `-` where an operand has to begin
abbrev pub minus_taken : List Mark → BinaryOperator → Option Standing
minus_taken ms Subtract = Some (Want, Unary ∷ ms)
minus_taken ms _ = None

-- where an operand has to begin
abbrev pub at_want : List Mark → Kind → Option Standing
at_want ms (Number n) = Some (Have, ms)
at_want ms Text = Some (Have, ms)
at_want ms Name = Some (Named, ms)
at_want ms (Infix o) = minus_taken ms o
at_want ms Bang = Some (Want, Unary ∷ ms)
at_want ms OpenGroup = Some (Want, Group ∷ ms)
at_want ms OpenList = Some (First, Items ∷ ms)
at_want ms _ = None

-- a `)` after the `(` of a call
abbrev pub ends_call : List Mark → Option Standing
ends_call (Call ∷ ms) = Some (Have, ms)
ends_call _ = None

-- a `]` after the `[` of a list
abbrev pub ends_list : List Mark → Option Standing
ends_list (Items ∷ ms) = Some (Have, ms)
ends_list _ = None

-- where the first item or none may follow
abbrev pub at_first : List Mark → Kind → Option Standing
at_first ms CloseGroup = ends_call ms
at_first ms CloseList = ends_list ms
at_first ms k = at_want ms k

-- a `:` needs a `?`
abbrev pub colon_taken : List Mark → Option Standing
colon_taken (QuestionMark ∷ ms) = Some (Want, ColonMark ∷ ms)
colon_taken _ = None

-- a `,` stands in a call or a list
abbrev pub comma_taken : List Mark → Option Standing
comma_taken (Call ∷ ms) = Some (Want, Call ∷ ms)
comma_taken (Items ∷ ms) = Some (Want, Items ∷ ms)
comma_taken _ = None

-- a `)` ends a group or a call
abbrev pub close_group_taken : List Mark → Option Standing
close_group_taken (Group ∷ ms) = Some (Have, ms)
close_group_taken (Call ∷ ms) = Some (Have, ms)
close_group_taken _ = None

-- a `]` ends a list
abbrev pub close_list_taken : List Mark → Option Standing
close_list_taken (Items ∷ ms) = Some (Have, ms)
close_list_taken _ = None

-- a `;` needs that no mark is open
abbrev pub semicolon_taken : List Mark → Option Standing
semicolon_taken [] = Some (Start, [])
semicolon_taken _ = None

-- after an operand
abbrev pub at_have : List Mark → Kind → Option Standing
at_have ms Dot = Some (Dotted, ms)
at_have ms (Infix o) = Some (Want, clears_unary ms)
at_have ms Question = Some (Want, QuestionMark ∷ clears_unary ms)
at_have ms Colon = colon_taken (clears ms)
at_have ms Comma = comma_taken (clears ms)
at_have ms CloseGroup = close_group_taken (clears ms)
at_have ms CloseList = close_list_taken (clears ms)
at_have ms Semicolon = semicolon_taken (clears ms)
at_have ms _ = None

-- after a name
abbrev pub at_named : List Mark → Kind → Option Standing
at_named ms OpenGroup = Some (First, Call ∷ ms)
at_named ms k = at_have ms k

-- after a name that begins a statement
abbrev pub at_lone : List Mark → Kind → Option Standing
at_lone ms Assign = Some (Want, ms)
at_lone ms k = at_named ms k

-- where a statement may begin
abbrev pub at_start : List Mark → Kind → Option Standing
at_start ms Name = Some (Lone, ms)
at_start ms k = at_want ms k

-- after a dot
abbrev pub at_dot : List Mark → Kind → Option Standing
at_dot ms Name = Some (Named, ms)
at_dot ms _ = None

-- the next place and marks, if the table takes a token
abbrev pub taken : Place → List Mark → Kind → Option Standing
taken Start ms k = at_start ms k
taken Want ms k = at_want ms k
taken First ms k = at_first ms k
taken Lone ms k = at_lone ms k
taken Named ms k = at_named ms k
taken Have ms k = at_have ms k
taken Dotted ms k = at_dot ms k

-- no mark is open
abbrev pub is_empty : List Mark → Bool
is_empty [] = true
is_empty _ = false

-- the text may end here
abbrev pub takes_end : Place → List Mark → Bool
takes_end Start ms = true
takes_end Lone ms = is_empty (clears ms)
takes_end Named ms = is_empty (clears ms)
takes_end Have ms = is_empty (clears ms)
takes_end _ ms = false

-- the fault of a token, or what follows it
abbrev pub judged_token : ℕ → (Standing → Option SyntaxFault) → Option Standing → Option SyntaxFault
judged_token p go None = Some (UnexpectedToken p)
judged_token p go (Some x) = if nat_lt DEEPEST (length x.1) then Some (TooDeep p) else go x

-- the first fault of the tokens of a text of that length, from a place and marks
abbrev pub first_fault : ℕ → List Token → Standing → Option SyntaxFault
first_fault end [] x = if takes_end x.0 x.1 then None else Some (UnexpectedToken end)
first_fault end (t ∷ ts) x = judged_token t.from (first_fault end ts) (taken x.0 x.1 t.kind)
