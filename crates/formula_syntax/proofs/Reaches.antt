-- What is read as a tree, the parser takes, and it then has the tree.
use Rattle.std.proofs.Common.{◌≡◌, ℕ, ◌≤◌, ◌≢◌, suc, List, [], ◌∷◌, ◌++◌, Option, Some, None, refl, sym, ap, ◌∙◌, subst, arith, lit≤}
use Rattle.formula_trees.specs.declared.token.Span.{Span}
use Rattle.formula_trees.specs.declared.token.BinaryOperator.{BinaryOperator}
use Rattle.formula_trees.specs.declared.tree.UnaryOperator.{UnaryOperator}
use Rattle.formula_trees.specs.declared.tree.UnaryOperator.TheVariants.{Negate, Invert}
use Rattle.formula_trees.specs.declared.token.Kind.{Kind}
use Rattle.formula_trees.specs.declared.token.Kind.TheVariants.{Name, Infix, Question, Colon, Comma, Dot, OpenGroup, CloseGroup, CloseList}
use Rattle.formula_trees.specs.declared.token.Token.{Token}
use Rattle.formula_trees.specs.Tree.{Tree, Numeral, Quoted, Call, Vector, Method, Unary, Binary, Ternary, Trees, none, more}
use Rattle.formula_trees.specs.Grammar.{level_of, sign_of, at, Reads, number, text, name, group, call, vector, member, method, unary, binary, ternary, stronger}
use Rattle.formula_trees.specs.Grammar.{ReadsItems, no_items, items, ReadsSome, first, next}
use Rattle.formula_syntax.specs.Parser.{Callee, Free, Of, applied, Frame, InGroup, InCall, InList, InUnary, InBinary, AfterQuestion, AfterColon, Stack, State}
use Rattle.formula_syntax.specs.Parser.{Want, First, Named, Have, Dotted, completed, go_on, close, strength, act, or_call, on_comma, step, and_run, run}
use Rattle.formula_syntax.specs.Parser.{settled}
use Rattle.formula_syntax.proofs.Running.{run_then_one, steps_on, level_low, level_high, Below, close_unary, close_binary, close_colon, below_unary}
use Rattle.formula_syntax.proofs.Running.{below_binary, below_colon, first_as_want}

pub record Reaches (k : ℕ) (s : Stack) (ts : List Token) (t : Tree) : Type 0 where
  pub state : State
  pub runs : run ts (Want s) ≡ Some state
  pub settles : (j : ℕ) → j ≤ k → settled j state ≡ Some (close j s t)

-- a frame that collects what commas part, and how it is closed
record Collects (f : Trees → Frame) (make : Trees → Tree) (k : Kind) : Type 0 where
  stays : (args : Trees) (j : ℕ) (t : Tree) → completed j (f args) t ≡ None
  takes_comma : (args : Trees) (s : Stack) (t : Tree) → on_comma (f args ∷ s) t ≡ Some (Want (f (more args t) ∷ s))
  closes_none : (s : Stack) (p : Span) → step (First (f none ∷ s)) k p ≡ Some (Have s (make none))
  closes_more : (args : Trees) (s : Stack) (t : Tree) (p : Span) → act (f args ∷ s) t k p ≡ Some (Have s (make (more args t)))
  weak : strength k ≡ 0
  no_call : (s : Stack) (c : Callee) (o : Option State) → or_call s c k o ≡ o

collects_call : (c : Callee) → Collects (InCall c) (applied c) CloseGroup
collects_call c = record {
  stays = λ args j t. refl;
  takes_comma = λ args s t. refl;
  closes_none = λ s p. refl;
  closes_more = λ args s t p. refl;
  weak = refl;
  no_call = λ s c o. refl;
}

collects_list : (p : Span) → Collects (InList p) (Vector p) CloseList
collects_list p = record {
  stays = λ args j t. refl;
  takes_comma = λ args s t. refl;
  closes_none = λ s p. refl;
  closes_more = λ args s t p. refl;
  weak = refl;
  no_call = λ s c o. refl;
}

record ReachesSome (f : Trees → Frame) (s : Stack) (ts : List Token) (front : Trees) (last : Tree) : Type 0 where
  state : State
  runs : run ts (Want (f none ∷ s)) ≡ Some state
  settles : settled 0 state ≡ Some (f front ∷ s, last)

barrier : (f : Trees → Frame) (make : Trees → Tree) (k : Kind) → Collects f make k → (args : Trees) (s : Stack) (j : ℕ) (t : Tree) →
    close j (f args ∷ s) t ≡ (f args ∷ s, t)
barrier f make k c args s j t = ap (λ o. go_on o (close j s) (f args ∷ s, t)) (c.stays args j t)

-- the sign of a unary operator
begins_sign : (o : UnaryOperator) (p : Span) (s : Stack) → step (Want s) (sign_of o) p ≡ Some (Want (InUnary o p ∷ s))
begins_sign Negate p s = refl
begins_sign Invert p s = refl

reaches_group : (ts : List Token) (t : Tree) (p q : Span) (s : Stack) → Reaches 0 (InGroup ∷ s) ts t →
    Reaches 8 s (at OpenGroup p ∷ (ts ++ at CloseGroup q ∷ [])) t
reaches_group ts t p q s a = record {
  state = Have s t;
  runs = run_then_one ts [] CloseGroup q (Want (InGroup ∷ s)) a.state (Have s t) a.runs
      (steps_on a.state CloseGroup q (InGroup ∷ s) t (λ s c o. refl) (a.settles 0 (lit≤ tt)));
  settles = λ j h. refl;
}

reaches_unary : (ts : List Token) (t : Tree) (o : UnaryOperator) (p : Span) (s : Stack) → Reaches 7 (InUnary o p ∷ s) ts t →
    Reaches 7 s (at (sign_of o) p ∷ ts) (Unary o p t)
reaches_unary ts t o p s a = record {
  state = a.state;
  runs = ap (λ x. and_run x (run ts)) (begins_sign o p s) ∙ a.runs;
  settles = λ j h. a.settles j h ∙ ap Some (close_unary j o p s t h);
}

reaches_binary : (ts us : List Token) (l r : Tree) (o : BinaryOperator) (p : Span) (s : Stack) → Below (level_of o) s → Reaches (level_of o) s ts l →
    Reaches (suc (level_of o)) (InBinary o p l ∷ s) us r → Reaches (level_of o) s (ts ++ at (Infix o) p ∷ us) (Binary o p l r)
reaches_binary ts us l r o p s h a b =
    let low = level_low o in
    let high = level_high o in
    let not_seven : level_of o ≢ 7 = omega arith in
    let settles = a.settles (level_of o) (omega arith) ∙ ap Some (h (level_of o) l (omega arith) low not_seven) in
    let steps = steps_on a.state (Infix o) p s l (λ s c o. refl) settles in
    record {
      state = b.state;
      runs = run_then_one ts us (Infix o) p (Want s) a.state (Want (InBinary o p l ∷ s)) a.runs steps ∙ b.runs;
      settles = λ j i. b.settles j (omega arith) ∙ ap Some (close_binary j o p l s r i);
    }

reaches_ternary : (ts us vs : List Token) (c y n : Tree) (p q : Span) (s : Stack) → Below 0 s → Reaches 1 s ts c → Reaches 0 (AfterQuestion p c ∷ s) us y →
    Reaches 0 (AfterColon p c y ∷ s) vs n → Reaches 0 s (ts ++ at Question p ∷ (us ++ at Colon q ∷ vs)) (Ternary p c y n)
reaches_ternary ts us vs c y n p q s h a b d =
    let settles = a.settles 1 (lit≤ tt) ∙ ap Some (h 1 c (lit≤ tt) (lit≤ tt) (omega arith)) in
    let steps = steps_on a.state Question p s c (λ s c o. refl) settles in
    let steps2 = steps_on b.state Colon q (AfterQuestion p c ∷ s) y (λ s c o. refl) (b.settles 0 (lit≤ tt)) in
    record {
      state = d.state;
      runs = run_then_one ts (us ++ at Colon q ∷ vs) Question p (Want s) a.state (Want (AfterQuestion p c ∷ s)) a.runs steps
          ∙ run_then_one us vs Colon q (Want (AfterQuestion p c ∷ s)) b.state (Want (AfterColon p c y ∷ s)) b.runs steps2
          ∙ d.runs;
      settles = λ j i. d.settles j i ∙ ap Some (close_colon j p c y s n i);
    }

-- a dot and a name after an operand
run_member : (ts us : List Token) (t : Tree) (d p : Span) (s : Stack) → Below 8 s → Reaches 8 s ts t →
    run (ts ++ at Dot d ∷ at Name p ∷ us) (Want s) ≡ run us (Named s (Of t p))
run_member ts us t d p s h a =
    let settles = a.settles 8 (lit≤ tt) ∙ ap Some (h 8 t (lit≤ tt) (lit≤ tt) (omega arith)) in
    let steps = steps_on a.state Dot d s t (λ s c o. refl) settles in
    run_then_one ts (at Name p ∷ us) Dot d (Want s) a.state (Dotted s t) a.runs steps

mutual
  pub reaches : {k : ℕ} {ts : List Token} {t : Tree} → Reads k ts t → (s : Stack) → Below k s → Reaches k s ts t
  reaches (number n p) s h = record { state = Have s (Numeral n p); runs = refl; settles = λ j i. refl }
  reaches (text p) s h = record { state = Have s (Quoted p); runs = refl; settles = λ j i. refl }
  reaches (name p) s h = record { state = Named s (Free p); runs = refl; settles = λ j i. refl }
  reaches (group {ts = ts} {t = t} p q r) s h = reaches_group ts t p q s (reaches r (InGroup ∷ s) (λ j t a b c. refl))
  reaches (call {ts = ts} {args = args} p q r i) s h = record {
    state = Have s (Call p args);
    runs = reaches_items i (InCall (Free p)) (applied (Free p)) CloseGroup r s (collects_call (Free p));
    settles = λ j i. refl;
  }
  reaches (vector {ts = ts} {args = args} p q i) s h = record {
    state = Have s (Vector p args);
    runs = reaches_items i (InList p) (Vector p) CloseList q s (collects_list p);
    settles = λ j i. refl;
  }
  reaches (member {ts = ts} {t = t} d p r) s h = record {
    state = Named s (Of t p);
    runs = run_member ts [] t d p s h (reaches r s h);
    settles = λ j i. refl;
  }
  reaches (method {ts = ts} {us = us} {t = t} {args = args} d p q v r i) s h = record {
    state = Have s (Method t p args);
    runs = run_member ts (at OpenGroup q ∷ (us ++ at CloseGroup v ∷ [])) t d p s h (reaches r s h)
        ∙ reaches_items i (InCall (Of t p)) (applied (Of t p)) CloseGroup v s (collects_call (Of t p));
    settles = λ j i. refl;
  }
  reaches (unary {ts = ts} {t = t} o p r) s h = reaches_unary ts t o p s (reaches r (InUnary o p ∷ s) (below_unary o p s))
  reaches (binary {ts = ts} {us = us} {l = l} {r = r} o p a b) s h =
      reaches_binary ts us l r o p s h (reaches a s h) (reaches b (InBinary o p l ∷ s) (below_binary o p l s))
  reaches (ternary {ts = ts} {us = us} {vs = vs} {c = c} {y = y} {n = n} p q a b d) s h =
      reaches_ternary ts us vs c y n p q s h (reaches a s (λ j t x y z. h j t (omega arith) y z)) (reaches b (AfterQuestion p c ∷ s) (λ j t x y z. refl))
      (reaches d (AfterColon p c y ∷ s) (below_colon p c y s))
  reaches (stronger {k = k} {ts = ts} {t = t} r) s h =
      let a = reaches r s (λ j t x y z. h j t (omega arith) y z) in
      record { state = a.state; runs = a.runs; settles = λ j i. a.settles j (omega arith) }

  reaches_items : {ts : List Token} {args : Trees} → ReadsItems ts args → (f : Trees → Frame) (make : Trees → Tree) (k : Kind) (p : Span) (s : Stack) →
      Collects f make k → run (ts ++ at k p ∷ []) (First (f none ∷ s)) ≡ Some (Have s (make args))
  reaches_items no_items f make k p s c = ap (λ o. and_run o (run [])) (c.closes_none s p)
  reaches_items (items {ts = ts} {front = front} {last = last} r) f make k p s c =
      let a = reaches_some r f make k s c in
      let settles = subst (λ (j : ℕ). settled j a.state ≡ Some (f front ∷ s, last)) (sym c.weak) a.settles in
      let steps = steps_on a.state k p (f front ∷ s) last c.no_call settles ∙ c.closes_more front s last p in
      run_then_one ts [] k p (First (f none ∷ s)) a.state (Have s (make (more front last))) (first_as_want ts (f none ∷ s) a.state 0 _ a.runs a.settles) steps

  reaches_some : {ts : List Token} {front : Trees} {last : Tree} → ReadsSome ts front last → (f : Trees → Frame) (make : Trees → Tree) (k : Kind) (s : Stack) →
      Collects f make k → ReachesSome f s ts front last
  reaches_some (first {ts = ts} {t = t} r) f make k s c =
      let a = reaches r (f none ∷ s) (λ j t x y z. barrier f make k c none s j t) in
      record { state = a.state; runs = a.runs; settles = a.settles 0 (lit≤ tt) ∙ ap Some (barrier f make k c none s 0 t) }
  reaches_some (next {ts = ts} {us = us} {front = front} {last = last} {t = t} p r b) f make k s c =
      let a = reaches_some r f make k s c in
      let steps = steps_on a.state Comma p (f front ∷ s) last (λ s c o. refl) a.settles ∙ c.takes_comma front s last in
      let d = reaches b (f (more front last) ∷ s) (λ j t x y z. barrier f make k c (more front last) s j t) in
      record {
        state = d.state;
        runs = run_then_one ts us Comma p (Want (f none ∷ s)) a.state (Want (f (more front last) ∷ s)) a.runs steps ∙ d.runs;
        settles = d.settles 0 (lit≤ tt) ∙ ap Some (barrier f make k c (more front last) s 0 t);
      }
