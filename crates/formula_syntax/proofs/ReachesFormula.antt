-- What is read as a formula, the parser takes, and it then has the statements.
use Rattle.std.proofs.Common.{◌≡◌, List, [], ◌∷◌, ◌++◌, Option, Some, None, refl, sym, ap, ◌∙◌, lit≤, append_assoc, append-nil}
use Rattle.std.specs.Option.{option_map}
use Rattle.std.proofs.lemmas.Option.{same_Some}
use Rattle.formula_trees.specs.declared.token.Span.{Span}
use Rattle.formula_trees.specs.Spans.{span_of}
use Rattle.formula_trees.specs.declared.token.Kind.{Kind}
use Rattle.formula_trees.specs.declared.token.Kind.TheVariants.{Name, Semicolon, Assign}
use Rattle.formula_trees.specs.declared.token.Token.{Token}
use Rattle.formula_trees.specs.Tree.{Tree}
use Rattle.formula_trees.specs.Grammar.{at}
use Rattle.formula_trees.specs.Formula.{StatementTree, ReadsStatement, sets, drops, ReadsFormula, empty, last, then}
use Rattle.formula_syntax.specs.Parser.{Free, Stack, State, Want, First, Named, Have, Dotted, step, and_run, run, settled}
use Rattle.formula_syntax.specs.Whole.{Target, Nowhere, Into, Whole, Between, Lone, Inside, ended_by, ended, finished, begin_whole, step_whole, and_run_whole}
use Rattle.formula_syntax.specs.Whole.{run_whole}
use Rattle.formula_syntax.proofs.Reaches.{reaches}

-- an expression has no `;`
no_semicolon : (q : State) (p : Span) → step q Semicolon p ≡ None
no_semicolon (Want s) p = refl
no_semicolon (First s) p = refl
no_semicolon (Named s c) p = refl
no_semicolon (Have s t) p = refl
no_semicolon (Dotted s t) p = refl

pub step_inside : (k : Kind) (p : Span) (done : List StatementTree) (target : Target) (q r : State) → step q k p ≡ Some r →
    step_whole (Inside done target q) k p ≡ Some (Inside done target r)
step_inside Semicolon p done target q r e = let f = no_semicolon q p in cc
step_inside _ p done target q r e = ap (option_map (Inside done target)) e

step_lone : (k : Kind) (p : Span) (done : List StatementTree) (m : Span) (r : State) → step (Named [] (Free m)) k p ≡ Some r →
    step_whole (Lone done m) k p ≡ Some (Inside done Nowhere r)
step_lone Semicolon p done m r e = cc
step_lone Assign p done m r e = cc
step_lone _ p done m r e = ap (option_map (Inside done Nowhere)) e

run_inside_by : (o : Option State) (k : Kind) (p : Span) (xs : List Token) (done : List StatementTree) (target : Target) (q r : State) →
    ((w : State) → run xs w ≡ Some r → run_whole xs (Inside done target w) ≡ Some (Inside done target r)) → step q k p ≡ o → and_run o (run xs) ≡ Some r →
    and_run_whole (step_whole (Inside done target q) k p) (run_whole xs) ≡ Some (Inside done target r)
run_inside_by None k p xs done target q r h e f = cc
run_inside_by (Some w) k p xs done target q r h e f = ap (λ o. and_run_whole o (run_whole xs)) (step_inside k p done target q w e) ∙ h w f

pub run_inside : (xs : List Token) (done : List StatementTree) (target : Target) (q r : State) → run xs q ≡ Some r →
    run_whole xs (Inside done target q) ≡ Some (Inside done target r)
run_inside [] done target q r e = ap (option_map (Inside done target)) e
run_inside (x ∷ xs) done target q r e =
    run_inside_by (step q x.kind (span_of x)) x.kind (span_of x) xs done target q r (λ w f. run_inside xs done target w r f) refl e

-- from where a statement begins, the parser comes to where it may end
pub record ReachesEnd (xs : List Token) (from : Whole) (done : List StatementTree) (target : Target) (r : State) : Type 0 where
  pub whole : Whole
  pub runs : run_whole xs from ≡ Some whole
  pub ends : ended whole ≡ ended_by done target (settled 0 r)

run_lone_by : (o : Option State) (k : Kind) (p : Span) (xs : List Token) (done : List StatementTree) (m : Span) (r : State) → step (Named [] (Free m)) k p ≡ o →
    and_run o (run xs) ≡ Some r → and_run_whole (step_whole (Lone done m) k p) (run_whole xs) ≡ Some (Inside done Nowhere r)
run_lone_by None k p xs done m r e f = cc
run_lone_by (Some w) k p xs done m r e f = ap (λ o. and_run_whole o (run_whole xs)) (step_lone k p done m w e) ∙ run_inside xs done Nowhere w r f

run_lone : (xs : List Token) (done : List StatementTree) (m : Span) (r : State) → run xs (Named [] (Free m)) ≡ Some r →
    ReachesEnd xs (Lone done m) done Nowhere r
run_lone [] done m r e = record { whole = Lone done m; runs = refl; ends = ap (λ q. ended_by done Nowhere (settled 0 q)) (same_Some _ _ e) }
run_lone (x ∷ xs) done m r e =
    record {
      whole = Inside done Nowhere r;
      runs = run_lone_by (step (Named [] (Free m)) x.kind (span_of x)) x.kind (span_of x) xs done m r refl e;
      ends =
          refl;
    }

record Continues (o : Option Whole) (xs : List Token) (done : List StatementTree) (r : State) : Type 0 where
  whole : Whole
  runs : and_run_whole o (run_whole xs) ≡ Some whole
  ends : ended whole ≡ ended_by done Nowhere (settled 0 r)

continues_by : (o : Option State) (xs : List Token) (done : List StatementTree) (r : State) → and_run o (run xs) ≡ Some r →
    Continues (option_map (Inside done Nowhere) o) xs done r
continues_by None xs done r e = cc
continues_by (Some w) xs done r e = record { whole = Inside done Nowhere r; runs = run_inside xs done Nowhere w r e; ends = refl }

continues : (k : Kind) (p : Span) (xs : List Token) (done : List StatementTree) (r : State) → and_run (step (Want []) k p) (run xs) ≡ Some r →
    Continues (begin_whole done k p) xs done r
continues Name p xs done r e = let a = run_lone xs done p r e in record { whole = a.whole; runs = a.runs; ends = a.ends }
continues k p xs done r e = continues_by (step (Want []) k p) xs done r e

run_between : (xs : List Token) (done : List StatementTree) (r : State) (x : Stack × Tree) → run xs (Want []) ≡ Some r → settled 0 r ≡ Some x →
    ReachesEnd xs (Between done) done Nowhere r
run_between [] done r x e f = let g : settled 0 r ≡ None = ap (settled 0) (sym (same_Some _ _ e)) in cc
run_between (y ∷ ys) done r x e f = let a = continues y.kind (span_of y) ys done r e in record { whole = a.whole; runs = a.runs; ends = a.ends }

record ReachesStep (ts : List Token) (s : StatementTree) (done : List StatementTree) : Type 0 where
  whole : Whole
  runs : run_whole ts (Between done) ≡ Some whole
  ends : ended whole ≡ Some (done ++ s ∷ [])

reaches_step : {ts : List Token} {s : StatementTree} → ReadsStatement ts s → (done : List StatementTree) → ReachesStep ts s done
reaches_step (drops {ts = ts} {t = t} r) done =
    let a = reaches r [] (λ j t x y z. refl) in
    let e = a.settles 0 (lit≤ tt) in
    let b = run_between ts done a.state ([], t) a.runs e in
    record { whole = b.whole; runs = b.runs; ends = b.ends ∙ ap (ended_by done Nowhere) e }
reaches_step (sets {ts = ts} {t = t} p q r) done =
    let a = reaches r [] (λ j t x y z. refl) in
    record {
      whole = Inside done (Into p) a.state;
      runs = run_inside ts done (Into p) (Want []) a.state a.runs;
      ends =
          ap (ended_by done (Into p)) (a.settles 0 (lit≤ tt));
    }

and_run_whole_append : (o : Option Whole) (xs us : List Token) → ((r : Whole) → run_whole (xs ++ us) r ≡ and_run_whole (run_whole xs r) (run_whole us)) →
    and_run_whole o (run_whole (xs ++ us)) ≡ and_run_whole (and_run_whole o (run_whole xs)) (run_whole us)
and_run_whole_append None xs us h = refl
and_run_whole_append (Some r) xs us h = h r

run_whole_append : (ts us : List Token) (w : Whole) → run_whole (ts ++ us) w ≡ and_run_whole (run_whole ts w) (run_whole us)
run_whole_append [] us w = refl
run_whole_append (x ∷ xs) us w = and_run_whole_append (step_whole w x.kind (span_of x)) xs us (λ r. run_whole_append xs us r)

step_semicolon : (w : Whole) (p : Span) (ss : List StatementTree) → ended w ≡ Some ss → step_whole w Semicolon p ≡ Some (Between ss)
step_semicolon (Between done) p ss e = cc
step_semicolon (Lone done q) p ss e = ap (option_map Between) e
step_semicolon (Inside done target q) p ss e = ap (option_map Between) e

ended_finished : (w : Whole) (ss : List StatementTree) → ended w ≡ Some ss → finished w ≡ Some ss
ended_finished (Between done) ss e = cc
ended_finished (Lone done q) ss e = e
ended_finished (Inside done target q) ss e = e

pub record ReachesFormula (ts : List Token) (ss done : List StatementTree) : Type 0 where
  pub whole : Whole
  pub runs : run_whole ts (Between done) ≡ Some whole
  pub ends : finished whole ≡ Some (done ++ ss)

pub reaches_formula : {ts : List Token} {ss : List StatementTree} → ReadsFormula ts ss → (done : List StatementTree) → ReachesFormula ts ss done
reaches_formula empty done = record { whole = Between done; runs = refl; ends = ap Some (sym (append-nil done)) }
reaches_formula (last {s = s} r) done = let a = reaches_step r done in
    record { whole = a.whole; runs = a.runs; ends = ended_finished a.whole (done ++ s ∷ []) a.ends }
reaches_formula (then {ts = ts} {us = us} {s = s} {ss = ss} p r f) done =
    let a = reaches_step r done in
    let b = reaches_formula f (done ++ s ∷ []) in
    record {
      whole = b.whole;
      runs = run_whole_append ts (at Semicolon p ∷ us) (Between done) ∙ ap (λ o. and_run_whole o (run_whole (at Semicolon p ∷ us))) a.runs
          ∙ ap (λ o. and_run_whole o (run_whole us)) (step_semicolon a.whole p (done ++ s ∷ []) a.ends) ∙ b.runs;
      ends = b.ends ∙ ap Some (append_assoc done (s ∷ []) ss);
    }
