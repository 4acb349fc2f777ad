-- The table and the parser take the same tokens.
use Rattle.std.proofs.Common.{◌≡◌, ℕ, suc, ◌<◌, ◌≤◌, Bool, true, false, List, [], ◌∷◌, length, Option, Some, None, Result, Ok, Err, refl, sym, ap, ◌∙◌, subst}
use Rattle.std.proofs.Common.{⊎_elim, arith, lit≤}
use Rattle.std.specs.Prelude.{nat_lt, if◌then◌else◌}
use Rattle.std.specs.Option.{option_map}
use Rattle.std.proofs.lemmas.Bool.{cases_lt}
use Rattle.formula_trees.specs.declared.token.Span.{Span}
use Rattle.formula_trees.specs.Spans.{span_of}
use Rattle.formula_trees.specs.declared.token.BinaryOperator.{BinaryOperator}
use Rattle.formula_trees.specs.declared.token.BinaryOperator.TheVariants.{Or, And, Equal, NotEqual, Less, AtMost, Greater, AtLeast, Add, Subtract, Multiply}
use Rattle.formula_trees.specs.declared.token.BinaryOperator.TheVariants.{Divide}
use Rattle.formula_trees.specs.declared.token.Kind.{Kind}
use Rattle.formula_trees.specs.declared.token.Kind.TheVariants.{Number, Text, Name, Infix, Bang, Question, Colon, Comma, Semicolon, Assign, Dot, OpenGroup}
use Rattle.formula_trees.specs.declared.token.Kind.TheVariants.{CloseGroup, OpenList, CloseList}
use Rattle.formula_trees.specs.declared.token.Token.{Token}
use Rattle.formula_trees.specs.declared.fault.SyntaxFault.{SyntaxFault}
use Rattle.formula_trees.specs.declared.fault.TheConstants.{DEEPEST}
use Rattle.formula_trees.specs.declared.fault.SyntaxFault.TheVariants.{UnexpectedToken, TooDeep}
use Rattle.formula_trees.specs.Tree.{Tree, Unary, Binary, Ternary, none}
use Rattle.formula_trees.specs.Grammar.{level_of}
use Rattle.formula_trees.specs.Formula.{StatementTree}
use Rattle.formula_trees.specs.Table as table
use Rattle.formula_trees.specs.Table.{clears, clears_unary, taken, Standing, first_fault, judged_token, takes_end}
use Rattle.formula_syntax.specs.Parser.{Callee, Free, bare, InGroup, InCall, InList, InUnary, InBinary, AfterQuestion, AfterColon, Stack, State, Want, First}
use Rattle.formula_syntax.specs.Parser.{Named, Have, Dotted, close, strength, act_on, on_colon, on_comma, on_close_group, on_close_list, minus, begin}
use Rattle.formula_syntax.specs.Parser.{begin_first, select, step, depth_of}
use Rattle.formula_syntax.specs.Whole.{Target, Nowhere, Whole, Between, Lone, Inside, ended_by, ended, finished, begin_whole, lone_whole, inside_whole}
use Rattle.formula_syntax.specs.Whole.{step_whole, depth_in, at_end, on_token, parsed}
use Rattle.formula_syntax.proofs.Running.{level_low, level_high, close_unary, close_binary}
use Rattle.formula_syntax.proofs.Stands.{operand_at, Stands, bottom, in_group, in_call, in_list, in_unary, in_binary, after_question, after_colon, Holds, want}
use Rattle.formula_syntax.proofs.Stands.{first_argument, first_item, named, have, dotted, stay_binary, stay_colon}
use Rattle.formula_syntax.proofs.StandsFormula.{HoldsWhole, between, lone, inside, holds_step_whole}

-- the marks that are open
abbrev pub marks_of : Stack → List table.Mark
marks_of [] = []
marks_of (InGroup ∷ s) = table.Group ∷ marks_of s
marks_of (InCall c args ∷ s) = table.Call ∷ marks_of s
marks_of (InList p args ∷ s) = table.Items ∷ marks_of s
marks_of (InUnary o p ∷ s) = table.Unary ∷ marks_of s
marks_of (InBinary o p l ∷ s) = marks_of s
marks_of (AfterQuestion p c ∷ s) = table.QuestionMark ∷ marks_of s
marks_of (AfterColon p c y ∷ s) = table.ColonMark ∷ marks_of s

abbrev pub standing_of : State → Standing
standing_of (Want s) = (table.Want, marks_of s)
standing_of (First s) = (table.First, marks_of s)
standing_of (Named s c) = (table.Named, marks_of s)
standing_of (Have s t) = (table.Have, marks_of s)
standing_of (Dotted s t) = (table.Dotted, marks_of s)

abbrev pub standing_in : Whole → Standing
standing_in (Between done) = (table.Start, [])
standing_in (Lone done p) = (table.Lone, [])
standing_in (Inside done target q) = standing_of q

-- nothing at the end can be closed
abbrev IsOpen : Stack → Type 0
IsOpen [] = Unit {0}
IsOpen (InUnary o p ∷ s) = ⊥
IsOpen (InBinary o p l ∷ s) = ⊥
IsOpen (AfterColon p c y ∷ s) = ⊥
IsOpen (f ∷ s) = Unit {0}

record Cleared (x : Stack × Tree) (ms : List table.Mark) : Type 0 where
  is_open : IsOpen x.0
  marks : marks_of x.0 ≡ ms

cleared : (s : Stack) (t : Tree) → Cleared (close 0 s t) (clears (marks_of s))
cleared [] t = record { is_open = tt; marks = refl }
cleared (InGroup ∷ s) t = record { is_open = tt; marks = refl }
cleared (InCall c args ∷ s) t = record { is_open = tt; marks = refl }
cleared (InList p args ∷ s) t = record { is_open = tt; marks = refl }
cleared (AfterQuestion p c ∷ s) t = record { is_open = tt; marks = refl }
cleared (InUnary o p ∷ s) t = cleared s (Unary o p t)
cleared (AfterColon p c y ∷ s) t = cleared s (Ternary p c y t)
cleared (InBinary o p l ∷ s) t =
    subst (λ (x : Stack × Tree). Cleared x (clears (marks_of s))) (sym (close_binary 0 o p l s t (omega arith))) (cleared s (Binary o p l t))

-- if a binary operator or a ternary waits for its operand, no unary operator is before it
no_unary : {s : Stack} {us : List Token} → Stands s us → operand_at s ≤ 6 → clears_unary (marks_of s) ≡ marks_of s
no_unary bottom h = refl
no_unary (in_group p st) h = refl
no_unary (in_call q st rc rf) h = refl
no_unary (in_list p st rf) h = refl
no_unary (in_unary o p st l) h = absurd (omega arith)
no_unary (in_binary o p st l rl) h = let high = level_high o in no_unary st (omega arith)
no_unary (after_question p st l rc) h = refl
no_unary (after_colon p q st l rc ry) h = refl

cleared_unary : {s : Stack} {us : List Token} → Stands s us → (j : ℕ) (t : Tree) → 1 ≤ j → j ≤ 6 → marks_of (close j s t).0 ≡ clears_unary (marks_of s)
cleared_unary bottom j t a b = refl
cleared_unary (in_group p st) j t a b = refl
cleared_unary (in_call q st rc rf) j t a b = refl
cleared_unary (in_list p st rf) j t a b = refl
cleared_unary (after_question p st l rc) j t a b = refl
cleared_unary (after_colon {s = s} {c = c} {y = y} p q st l rc ry) j t a b = ap (λ (x : Stack × Tree). marks_of x.0) (stay_colon j p c y s t a)
cleared_unary (in_unary {s = s} o p st l) j t a b = ap (λ (x : Stack × Tree). marks_of x.0) (close_unary j o p s t (omega arith))
    ∙ cleared_unary st j (Unary o p t) a b
cleared_unary (in_binary {s = s} {l = l} o p st le rl) j t a b =
    ⊎_elim
    (λ (h : j < suc (level_of o)). ap (λ (x : Stack × Tree). marks_of x.0) (close_binary j o p l s t (omega arith)) ∙ cleared_unary st j (Binary o p l t) a b)
    (λ (h : suc (level_of o) ≤ j). let high = level_high o in ap (λ (x : Stack × Tree). marks_of x.0) (stay_binary j o p l s t h)
    ∙ sym (no_unary st (omega arith)))
    (cases_lt j (suc (level_of o)))

colon_same : (s : Stack) (t : Tree) (p : Span) → IsOpen s → table.colon_taken (marks_of s) ≡ option_map standing_of (on_colon p s t)
colon_same [] t p h = refl
colon_same (InGroup ∷ s) t p h = refl
colon_same (InCall c args ∷ s) t p h = refl
colon_same (InList q args ∷ s) t p h = refl
colon_same (InUnary o q ∷ s) t p h = absurd h
colon_same (InBinary o q l ∷ s) t p h = absurd h
colon_same (AfterQuestion q c ∷ s) t p h = refl
colon_same (AfterColon q c y ∷ s) t p h = absurd h

comma_same : (s : Stack) (t : Tree) → IsOpen s → table.comma_taken (marks_of s) ≡ option_map standing_of (on_comma s t)
comma_same [] t h = refl
comma_same (InGroup ∷ s) t h = refl
comma_same (InCall c args ∷ s) t h = refl
comma_same (InList q args ∷ s) t h = refl
comma_same (InUnary o q ∷ s) t h = absurd h
comma_same (InBinary o q l ∷ s) t h = absurd h
comma_same (AfterQuestion q c ∷ s) t h = refl
comma_same (AfterColon q c y ∷ s) t h = absurd h

close_group_same : (s : Stack) (t : Tree) → IsOpen s → table.close_group_taken (marks_of s) ≡ option_map standing_of (on_close_group s t)
close_group_same [] t h = refl
close_group_same (InGroup ∷ s) t h = refl
close_group_same (InCall c args ∷ s) t h = refl
close_group_same (InList q args ∷ s) t h = refl
close_group_same (InUnary o q ∷ s) t h = absurd h
close_group_same (InBinary o q l ∷ s) t h = absurd h
close_group_same (AfterQuestion q c ∷ s) t h = refl
close_group_same (AfterColon q c y ∷ s) t h = absurd h

close_list_same : (s : Stack) (t : Tree) → IsOpen s → table.close_list_taken (marks_of s) ≡ option_map standing_of (on_close_list s t)
close_list_same [] t h = refl
close_list_same (InGroup ∷ s) t h = refl
close_list_same (InCall c args ∷ s) t h = refl
close_list_same (InList q args ∷ s) t h = refl
close_list_same (InUnary o q ∷ s) t h = absurd h
close_list_same (InBinary o q l ∷ s) t h = absurd h
close_list_same (AfterQuestion q c ∷ s) t h = refl
close_list_same (AfterColon q c y ∷ s) t h = absurd h

-- a text may end, and a statement may end, if no mark is left
ended_same : (x : Stack × Tree) (done : List StatementTree) (target : Target) → IsOpen x.0 →
    table.semicolon_taken (marks_of x.0) ≡ option_map standing_in (option_map Between (ended_by done target (Some x)))
ended_same ([], t) done target h = refl
ended_same (InGroup ∷ s, t) done target h = refl
ended_same (InCall c args ∷ s, t) done target h = refl
ended_same (InList q args ∷ s, t) done target h = refl
ended_same (InUnary o q ∷ s, t) done target h = absurd h
ended_same (InBinary o q l ∷ s, t) done target h = absurd h
ended_same (AfterQuestion q c ∷ s, t) done target h = refl
ended_same (AfterColon q c y ∷ s, t) done target h = absurd h

end_same : (s : Stack) (t : Tree) (done : List StatementTree) (target : Target) →
    table.semicolon_taken (clears (marks_of s)) ≡ option_map standing_in (option_map Between (ended_by done target (Some (close 0 s t))))
end_same s t done target = let c = cleared s t in ap table.semicolon_taken (sym c.marks) ∙ ended_same (close 0 s t) done target c.is_open

dot_same : (s : Stack) (t : Tree) → marks_of (close 8 s t).0 ≡ marks_of s
dot_same [] t = refl
dot_same (InGroup ∷ s) t = refl
dot_same (InCall c args ∷ s) t = refl
dot_same (InList p args ∷ s) t = refl
dot_same (InUnary o p ∷ s) t = refl
dot_same (AfterQuestion p c ∷ s) t = refl
dot_same (AfterColon p c y ∷ s) t = refl
dot_same (InBinary o p l ∷ s) t = let high = level_high o in ap (λ (x : Stack × Tree). marks_of x.0) (stay_binary 8 o p l s t (omega arith))

minus_same : (o : BinaryOperator) (p : Span) (s : Stack) → table.minus_taken (marks_of s) o ≡ option_map standing_of (minus s o p)
minus_same Or p s = refl
minus_same And p s = refl
minus_same Equal p s = refl
minus_same NotEqual p s = refl
minus_same Less p s = refl
minus_same AtMost p s = refl
minus_same Greater p s = refl
minus_same AtLeast p s = refl
minus_same Add p s = refl
minus_same Subtract p s = refl
minus_same Multiply p s = refl
minus_same Divide p s = refl

begin_same : (k : Kind) (p : Span) (s : Stack) → table.at_want (marks_of s) k ≡ option_map standing_of (begin s k p)
begin_same (Infix o) p s = minus_same o p s
begin_same _ p s = refl

-- after an operand, but for the end of a statement
have_same : (k : Kind) (p : Span) (s : Stack) (us : List Token) (t : Tree) → Stands s us → (k ≡ Semicolon → ⊥) →
    table.at_have (marks_of s) k ≡ option_map standing_of (act_on (close (strength k) s t) k p)
have_same (Infix o) p s us t st other = ap (λ ms. Some (table.Want, ms)) (sym (cleared_unary st (level_of o) t (level_low o) (level_high o)))
have_same Question p s us t st other = ap (λ ms. Some (table.Want, table.QuestionMark ∷ ms)) (sym (cleared_unary st 1 t (lit≤ tt) (lit≤ tt)))
have_same Colon p s us t st other = let c = cleared s t in let x = close 0 s t in ap table.colon_taken (sym c.marks) ∙ colon_same x.0 x.1 p c.is_open
have_same Comma p s us t st other = let c = cleared s t in let x = close 0 s t in ap table.comma_taken (sym c.marks) ∙ comma_same x.0 x.1 c.is_open
have_same Semicolon p s us t st other = absurd (other refl)
have_same Dot p s us t st other = ap (λ ms. Some (table.Dotted, ms)) (sym (dot_same s t))
have_same CloseGroup p s us t st other = let c = cleared s t in let x = close 0 s t in ap table.close_group_taken (sym c.marks)
    ∙ close_group_same x.0 x.1 c.is_open
have_same CloseList p s us t st other = let c = cleared s t in let x = close 0 s t in ap table.close_list_taken (sym c.marks)
    ∙ close_list_same x.0 x.1 c.is_open
have_same _ p s us t st other = refl

named_same : (k : Kind) (p : Span) (s : Stack) (us : List Token) (c : Callee) → Stands s us → (k ≡ Semicolon → ⊥) →
    table.at_named (marks_of s) k ≡ option_map standing_of (step (Named s c) k p)
named_same OpenGroup p s us c st other = refl
named_same k p s us c st other = have_same k p s us (bare c) st other

first_argument_same : (k : Kind) (p : Span) (s : Stack) (c : Callee) →
    table.at_first (marks_of (InCall c none ∷ s)) k ≡ option_map standing_of (begin_first (InCall c none ∷ s) k p)
first_argument_same CloseGroup p s c = refl
first_argument_same CloseList p s c = refl
first_argument_same k p s c = begin_same k p (InCall c none ∷ s)

first_item_same : (k : Kind) (p : Span) (s : Stack) (q : Span) →
    table.at_first (marks_of (InList q none ∷ s)) k ≡ option_map standing_of (begin_first (InList q none ∷ s) k p)
first_item_same CloseGroup p s q = refl
first_item_same CloseList p s q = refl
first_item_same k p s q = begin_same k p (InList q none ∷ s)

select_same : (k : Kind) (p : Span) (s : Stack) (t : Tree) → table.at_dot (marks_of s) k ≡ option_map standing_of (select s t k p)
select_same (Number n) p s t = refl
select_same Text p s t = refl
select_same Name p s t = refl
select_same (Infix o) p s t = refl
select_same Bang p s t = refl
select_same Question p s t = refl
select_same Colon p s t = refl
select_same Comma p s t = refl
select_same Semicolon p s t = refl
select_same Assign p s t = refl
select_same Dot p s t = refl
select_same OpenGroup p s t = refl
select_same CloseGroup p s t = refl
select_same OpenList p s t = refl
select_same CloseList p s t = refl

step_same : {q : State} {ts : List Token} → Holds q ts → (k : Kind) (p : Span) → (k ≡ Semicolon → ⊥) →
    taken (standing_of q).0 (standing_of q).1 k ≡ option_map standing_of (step q k p)
step_same (want {s = s} st) k p other = begin_same k p s
step_same (first_argument {s = s} {c = c} q st rc) k p other = first_argument_same k p s c
step_same (first_item {s = s} q st) k p other = first_item_same k p s q
step_same (named {s = s} {us = us} {c = c} st rc) k p other = named_same k p s us c st other
step_same (have {s = s} {us = us} {t = t} st rt) k p other = have_same k p s us t st other
step_same (dotted {s = s} {t = t} d st rt) k p other = select_same k p s t

-- a statement ends
semicolon_same : {q : State} {ts : List Token} → Holds q ts → (done : List StatementTree) (target : Target) →
    taken (standing_of q).0 (standing_of q).1 Semicolon ≡ option_map standing_in (option_map Between (ended (Inside done target q)))
semicolon_same (want st) done target = refl
semicolon_same (first_argument q st rc) done target = refl
semicolon_same (first_item q st) done target = refl
semicolon_same (named {s = s} {c = c} st rc) done target = end_same s (bare c) done target
semicolon_same (have {s = s} {t = t} st rt) done target = end_same s t done target
semicolon_same (dotted d st rt) done target = refl

lifted : (o : Option State) (done : List StatementTree) (target : Target) (x : Option Standing) → x ≡ option_map standing_of o →
    x ≡ option_map standing_in (option_map (Inside done target) o)
lifted None done target x e = e
lifted (Some q) done target x e = e

start_same : (k : Kind) (p : Span) (done : List StatementTree) → table.at_start [] k ≡ option_map standing_in (begin_whole done k p)
start_same Name p done = refl
start_same k p done = lifted (begin [] k p) done Nowhere _ (begin_same k p [])

lone_same : (k : Kind) (p : Span) (done : List StatementTree) (a : Span) → table.at_lone [] k ≡ option_map standing_in (lone_whole done a k p)
lone_same Semicolon p done a = refl
lone_same Assign p done a = refl
lone_same k p done a = lifted (step (Named [] (Free a)) k p) done Nowhere _ (named_same k p [] [] (Free a) bottom (λ e. cc))

inside_same : (k : Kind) (p : Span) (done : List StatementTree) (target : Target) (q : State) (ts : List Token) → Holds q ts →
    taken (standing_of q).0 (standing_of q).1 k ≡ option_map standing_in (inside_whole done target q k p)
inside_same Semicolon p done target q ts h = semicolon_same h done target
inside_same k p done target q ts h = lifted (step q k p) done target _ (step_same h k p (λ e. cc))

pub whole_same : {w : Whole} {ts : List Token} → HoldsWhole w ts → (k : Kind) (p : Span) →
    taken (standing_in w).0 (standing_in w).1 k ≡ option_map standing_in (step_whole w k p)
whole_same (between {done = done} d) k p = start_same k p done
whole_same (lone {done = done} a d) k p = lone_same k p done a
whole_same (inside {done = done} {vs = vs} {target = target} {q = q} d o h) k p = inside_same k p done target q vs h

depth_same : (s : Stack) → length (marks_of s) ≡ depth_of s
depth_same [] = refl
depth_same (InGroup ∷ s) = ap suc (depth_same s)
depth_same (InCall c args ∷ s) = ap suc (depth_same s)
depth_same (InList p args ∷ s) = ap suc (depth_same s)
depth_same (InUnary o p ∷ s) = ap suc (depth_same s)
depth_same (InBinary o p l ∷ s) = depth_same s
depth_same (AfterQuestion p c ∷ s) = ap suc (depth_same s)
depth_same (AfterColon p c y ∷ s) = ap suc (depth_same s)

depth_in_same : (w : Whole) → length (standing_in w).1 ≡ depth_in w
depth_in_same (Between done) = refl
depth_in_same (Lone done p) = refl
depth_in_same (Inside done target (Want s)) = depth_same s
depth_in_same (Inside done target (First s)) = depth_same s
depth_in_same (Inside done target (Named s c)) = depth_same s
depth_in_same (Inside done target (Have s t)) = depth_same s
depth_in_same (Inside done target (Dotted s t)) = depth_same s

-- the fault of a text that was parsed, if it has one
abbrev pub fault_of : Result (List StatementTree) SyntaxFault → Option SyntaxFault
fault_of (Ok ss) = None
fault_of (Err f) = Some f

finish_open : (x : Stack × Tree) (done : List StatementTree) (target : Target) (end : ℕ) → IsOpen x.0 →
    (if table.is_empty (marks_of x.0) then None else Some (UnexpectedToken end)) ≡ fault_of (at_end end (ended_by done target (Some x)))
finish_open ([], t) done target end h = refl
finish_open (InGroup ∷ s, t) done target end h = refl
finish_open (InCall c args ∷ s, t) done target end h = refl
finish_open (InList q args ∷ s, t) done target end h = refl
finish_open (InUnary o q ∷ s, t) done target end h = absurd h
finish_open (InBinary o q l ∷ s, t) done target end h = absurd h
finish_open (AfterQuestion q c ∷ s, t) done target end h = refl
finish_open (AfterColon q c y ∷ s, t) done target end h = absurd h

finish_close : (s : Stack) (t : Tree) (done : List StatementTree) (target : Target) (end : ℕ) →
    (if table.is_empty (clears (marks_of s)) then None else Some (UnexpectedToken end)) ≡ fault_of (at_end end (ended_by done target (Some (close 0 s t))))
finish_close s t done target end = let c = cleared s t in ap (λ ms. if table.is_empty ms then None else Some (UnexpectedToken end)) (sym c.marks)
    ∙ finish_open (close 0 s t) done target end c.is_open

finish_same : (w : Whole) (end : ℕ) → first_fault end [] (standing_in w) ≡ fault_of (at_end end (finished w))
finish_same (Between done) end = refl
finish_same (Lone done p) end = refl
finish_same (Inside done target (Want s)) end = refl
finish_same (Inside done target (First s)) end = refl
finish_same (Inside done target (Named s c)) end = finish_close s (bare c) done target end
finish_same (Inside done target (Have s t)) end = finish_close s t done target end
finish_same (Inside done target (Dotted s t)) end = refl

fault_of_cond : (b : Bool) (p : ℕ) (x : Option SyntaxFault) (r : Result (List StatementTree) SyntaxFault) → x ≡ fault_of r →
    (if b then Some (TooDeep p) else x) ≡ fault_of (if b then Err (TooDeep p) else r)
fault_of_cond true p x r e = refl
fault_of_cond false p x r e = e

token_same : (o : Option Whole) (p end : ℕ) (xs : List Token) → ((w : Whole) → o ≡ Some w → first_fault end xs (standing_in w) ≡ fault_of (parsed end xs w)) →
    judged_token p (first_fault end xs) (option_map standing_in o) ≡ fault_of (on_token p (parsed end xs) o)
token_same None p end xs h = refl
token_same (Some w) p end xs h =
    ap (λ n. if nat_lt DEEPEST n then Some (TooDeep p) else first_fault end xs (standing_in w)) (depth_in_same w)
    ∙ fault_of_cond (nat_lt DEEPEST (depth_in w)) p _ _ (h w refl)

-- the parser has the fault of the table
pub fault_same : (xs ts : List Token) (end : ℕ) (w : Whole) → HoldsWhole w ts → first_fault end xs (standing_in w) ≡ fault_of (parsed end xs w)
fault_same [] ts end w h = finish_same w end
fault_same (x ∷ xs) ts end w h =
    ap (judged_token x.from (first_fault end xs)) (whole_same h x.kind (span_of x))
    ∙ token_same (step_whole w x.kind (span_of x)) x.from end xs (λ v e. fault_same xs _ end v (holds_step_whole h x.kind (span_of x) v e))
