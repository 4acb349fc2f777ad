-- How runs compose, and what the parser does with a token after an operand.
use Rattle.std.proofs.Common.{◌≡◌, ℕ, ◌<◌, ◌≤◌, ◌≢◌, suc, List, [], ◌∷◌, ◌++◌, Option, Some, None, cond, refl, sym, ap, ◌∙◌, arith, lit≤}
use Rattle.std.proofs.lemmas.Option.{same_Some}
use Rattle.std.proofs.lemmas.Bool.{le-leb, lt-leb}
use Rattle.formula_trees.specs.declared.token.Span.{Span}
use Rattle.formula_trees.specs.Spans.{span_of}
use Rattle.formula_trees.specs.declared.token.BinaryOperator.{BinaryOperator}
use Rattle.formula_trees.specs.declared.token.BinaryOperator.TheVariants.{Or, And, Equal, NotEqual, Less, AtMost, Greater, AtLeast, Add, Subtract, Multiply}
use Rattle.formula_trees.specs.declared.token.BinaryOperator.TheVariants.{Divide}
use Rattle.formula_trees.specs.declared.tree.UnaryOperator.{UnaryOperator}
use Rattle.formula_trees.specs.declared.token.Kind.{Kind}
use Rattle.formula_trees.specs.declared.token.Kind.TheVariants.{CloseGroup, CloseList}
use Rattle.formula_trees.specs.declared.token.Token.{Token}
use Rattle.formula_trees.specs.Tree.{Tree, Unary, Binary, Ternary}
use Rattle.formula_trees.specs.Grammar.{level_of, at}
use Rattle.formula_syntax.specs.Parser.{Callee, InUnary, InBinary, AfterColon, Stack, State, Want, First, Named, Have, Dotted, go_on, close, strength, act}
use Rattle.formula_syntax.specs.Parser.{act_on, or_call, begin, begin_first, step, and_run, run, settled}

and_run_append : (o : Option State) (xs us : List Token) → ((r : State) → run (xs ++ us) r ≡ and_run (run xs r) (run us)) →
    and_run o (run (xs ++ us)) ≡ and_run (and_run o (run xs)) (run us)
and_run_append None xs us h = refl
and_run_append (Some r) xs us h = h r

pub run_append : (ts us : List Token) (q : State) → run (ts ++ us) q ≡ and_run (run ts q) (run us)
run_append [] us q = refl
run_append (x ∷ xs) us q = and_run_append (step q x.kind (span_of x)) xs us (λ r. run_append xs us r)

-- a run, and what follows it
pub run_then : (ts us : List Token) (q r : State) → run ts q ≡ Some r → run (ts ++ us) q ≡ run us r
run_then ts us q r e = run_append ts us q ∙ ap (λ o. and_run o (run us)) e

-- a run, one token, and what follows it
pub run_then_one : (ts us : List Token) (k : Kind) (p : Span) (q r w : State) → run ts q ≡ Some r → step r k p ≡ Some w → run (ts ++ at k p ∷ us) q ≡ run us w
run_then_one ts us k p q r w e f = run_then ts (at k p ∷ us) q r e ∙ ap (λ o. and_run o (run us)) f

-- a token after an operand acts on what the operand settles as
pub steps_on : (q : State) (k : Kind) (p : Span) (s : Stack) (t : Tree) → ((s' : Stack) (c : Callee) (o : Option State) → or_call s' c k o ≡ o) →
    settled (strength k) q ≡ Some (s, t) → step q k p ≡ act s t k p
steps_on (Want s') k p s t h e = cc
steps_on (First s') k p s t h e = cc
steps_on (Named s' c) k p s t h e = h s' c _ ∙ ap (λ x. act_on x k p) (same_Some _ _ e)
steps_on (Have s' t') k p s t h e = ap (λ x. act_on x k p) (same_Some _ _ e)
steps_on (Dotted s' t') k p s t h e = cc

pub level_low : (o : BinaryOperator) → 1 ≤ level_of o
level_low Or = lit≤ tt
level_low And = lit≤ tt
level_low Equal = lit≤ tt
level_low NotEqual = lit≤ tt
level_low Less = lit≤ tt
level_low AtMost = lit≤ tt
level_low Greater = lit≤ tt
level_low AtLeast = lit≤ tt
level_low Add = lit≤ tt
level_low Subtract = lit≤ tt
level_low Multiply = lit≤ tt
level_low Divide = lit≤ tt

pub level_high : (o : BinaryOperator) → level_of o ≤ 6
level_high Or = lit≤ tt
level_high And = lit≤ tt
level_high Equal = lit≤ tt
level_high NotEqual = lit≤ tt
level_high Less = lit≤ tt
level_high AtMost = lit≤ tt
level_high Greater = lit≤ tt
level_high AtLeast = lit≤ tt
level_high Add = lit≤ tt
level_high Subtract = lit≤ tt
level_high Multiply = lit≤ tt
level_high Divide = lit≤ tt

-- what an operand that is read at a level may stand on: nothing there is closed by what groups to the left at this level or a stronger one
abbrev pub Below : ℕ → Stack → Type 0
Below k s = (j : ℕ) (t : Tree) → k ≤ j → 1 ≤ j → j ≢ 7 → close j s t ≡ (s, t)

pub close_unary : (j : ℕ) (o : UnaryOperator) (p : Span) (s : Stack) (t : Tree) → j ≤ 7 → close j (InUnary o p ∷ s) t ≡ close j s (Unary o p t)
close_unary j o p s t h = ap (λ b. go_on (cond b (Some (Unary o p t)) None) (close j s) (InUnary o p ∷ s, t)) (le-leb j 7 h)

pub close_binary : (j : ℕ) (o : BinaryOperator) (p : Span) (l : Tree) (s : Stack) (t : Tree) → j ≤ level_of o →
    close j (InBinary o p l ∷ s) t ≡ close j s (Binary o p l t)
close_binary j o p l s t h = ap (λ b. go_on (cond b (Some (Binary o p l t)) None) (close j s) (InBinary o p l ∷ s, t)) (le-leb j (level_of o) h)

pub close_colon : (j : ℕ) (p : Span) (c y : Tree) (s : Stack) (t : Tree) → j ≤ 0 → close j (AfterColon p c y ∷ s) t ≡ close j s (Ternary p c y t)
close_colon j p c y s t h = ap (λ b. go_on (cond b (Some (Ternary p c y t)) None) (close j s) (AfterColon p c y ∷ s, t)) (le-leb j 0 h)

pub below_unary : (o : UnaryOperator) (p : Span) (s : Stack) → Below 7 (InUnary o p ∷ s)
below_unary o p s j t a b c = let h : 7 < j = omega arith in ap (λ b. go_on (cond b (Some (Unary o p t)) None) (close j s) (InUnary o p ∷ s, t)) (lt-leb j 7 h)

pub below_binary : (o : BinaryOperator) (p : Span) (l : Tree) (s : Stack) → Below (suc (level_of o)) (InBinary o p l ∷ s)
below_binary o p l s j t a b c = let h : level_of o < j = omega arith in
    ap (λ b. go_on (cond b (Some (Binary o p l t)) None) (close j s) (InBinary o p l ∷ s, t)) (lt-leb j (level_of o) h)

pub below_colon : (p : Span) (c y : Tree) (s : Stack) → Below 0 (AfterColon p c y ∷ s)
below_colon p c y s j t a b d = ap (λ b. go_on (cond b (Some (Ternary p c y t)) None) (close j s) (AfterColon p c y ∷ s, t)) (lt-leb j 0 b)

-- where an operand or a closing mark may follow, an operand is read as where an operand has to follow
begins : (k : Kind) (p : Span) (s : Stack) (g : State → Option State) (q : State) → and_run (begin s k p) g ≡ Some q → and_run (begin_first s k p) g ≡ Some q
begins CloseGroup p s g q e = cc
begins CloseList p s g q e = cc
begins _ p s g q e = e

pub first_as_want : (ts : List Token) (s : Stack) (q : State) (j : ℕ) (x : Stack × Tree) → run ts (Want s) ≡ Some q → settled j q ≡ Some x →
    run ts (First s) ≡ Some q
first_as_want [] s q j x e f = let g : settled j q ≡ None = ap (settled j) (sym (same_Some _ _ e)) in cc
first_as_want (y ∷ ys) s q j x e f = begins y.kind (span_of y) s (run ys) q e
