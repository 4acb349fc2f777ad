-- What the parser takes as a whole text is read as the statements that it has.
use Rattle.std.proofs.Common.{◌≡◌, List, [], ◌∷◌, ◌++◌, Option, Some, None, refl, sym, ap, ◌∙◌, subst, append_assoc, append-nil}
use Rattle.std.specs.Option.{option_map}
use Rattle.std.proofs.lemmas.Option.{same_Some}
use Rattle.formula_trees.specs.declared.token.Span.{Span}
use Rattle.formula_trees.specs.declared.token.Kind.{Kind}
use Rattle.formula_trees.specs.declared.token.Kind.TheVariants.{Name, Semicolon, Assign}
use Rattle.formula_trees.specs.declared.token.Token.{Token}
use Rattle.formula_trees.specs.Tree.{Tree}
use Rattle.formula_trees.specs.Grammar.{at, Reads}
use Rattle.formula_trees.specs.Formula.{StatementTree, Drops, ReadsStatement, sets, drops, ReadsFormula, empty, last, then}
use Rattle.formula_syntax.specs.Parser.{Free, Stack, State, Want, Named, step, settled}
use Rattle.formula_syntax.specs.Whole.{Target, Nowhere, Into, with_target, Whole, Between, Lone, Inside, ended_by, ended, finished, begin_whole, lone_whole}
use Rattle.formula_syntax.specs.Whole.{inside_whole, step_whole}
use Rattle.formula_syntax.proofs.Stands.{bottom, Holds, want, named, free, holds_step, read_whole}

-- statements, each with its `;`
pub data ReadsDone : List StatementTree → List Token → Type 0 where
  no_steps : ReadsDone [] []
  one_more : {done : List StatementTree} {us vs : List Token} {s : StatementTree} (p : Span) → ReadsDone done us → ReadsStatement vs s →
      ReadsDone (done ++ s ∷ []) (us ++ (vs ++ at Semicolon p ∷ []))

pub data OpensTarget : Target → List Token → Type 0 where
  nowhere : OpensTarget Nowhere []
  into : (p q : Span) → OpensTarget (Into p) (at Name p ∷ at Assign q ∷ [])

pub data HoldsWhole : Whole → List Token → Type 0 where
  between : {done : List StatementTree} {us : List Token} → ReadsDone done us → HoldsWhole (Between done) us
  lone : {done : List StatementTree} {us : List Token} (p : Span) → ReadsDone done us → HoldsWhole (Lone done p) (us ++ at Name p ∷ [])
  inside : {done : List StatementTree} {us vs ws : List Token} {target : Target} {q : State} → ReadsDone done us → OpensTarget target ws → Holds q vs →
      HoldsWhole (Inside done target q) (us ++ (ws ++ vs))

pub whole_as : (w : Whole) (ts us : List Token) → ts ≡ us → HoldsWhole w ts → HoldsWhole w us
whole_as w ts us e h = subst (λ (x : List Token). HoldsWhole w x) e h

mapped : (o : Option State) (done : List StatementTree) (target : Target) (v : Whole) (ts : List Token) →
    ((r : State) → o ≡ Some r → HoldsWhole (Inside done target r) ts) → option_map (Inside done target) o ≡ Some v → HoldsWhole v ts
mapped None done target v ts h e = cc
mapped (Some r) done target v ts h e = subst (λ (x : Whole). HoldsWhole x ts) (same_Some _ _ e) (h r refl)

mapped_end : (o : Option (List StatementTree)) (v : Whole) (ts : List Token) → ((ss : List StatementTree) → o ≡ Some ss → HoldsWhole (Between ss) ts) →
    option_map Between o ≡ Some v → HoldsWhole v ts
mapped_end None v ts h e = cc
mapped_end (Some ss) v ts h e = subst (λ (x : Whole). HoldsWhole x ts) (same_Some _ _ e) (h ss refl)

record EndsWith (done : List StatementTree) (target : Target) (x : Option (Stack × Tree)) (ss : List StatementTree) : Type 0 where
  tree : Tree
  alone : x ≡ Some ([], tree)
  steps : done ++ with_target target tree ∷ [] ≡ ss

ends_with : (done : List StatementTree) (target : Target) (x : Option (Stack × Tree)) (ss : List StatementTree) → ended_by done target x ≡ Some ss →
    EndsWith done target x ss
ends_with done target None ss e = cc
ends_with done target (Some ([], t)) ss e = record { tree = t; alone = refl; steps = same_Some _ _ e }
ends_with done target (Some (f ∷ s, t)) ss e = cc

reads_target : {target : Target} {ws : List Token} → OpensTarget target ws → (vs : List Token) (t : Tree) → Reads 0 vs t →
    ReadsStatement (ws ++ vs) (with_target target t)
reads_target nowhere vs t r = drops r
reads_target (into p q) vs t r = sets p q r

-- where a statement may end
pub record LastStep (ts : List Token) (ss : List StatementTree) : Type 0 where
  pub done : List StatementTree
  pub start : List Token
  pub back : List Token
  pub step : StatementTree
  pub before : ReadsDone done start
  pub reads : ReadsStatement back step
  pub whole : start ++ back ≡ ts
  pub steps : done ++ step ∷ [] ≡ ss

pub last_step : {w : Whole} {ts : List Token} → HoldsWhole w ts → (ss : List StatementTree) → ended w ≡ Some ss → LastStep ts ss
last_step (between d) ss e = cc
last_step (lone {done = done} {us = us} p d) ss e =
    let a = ends_with done Nowhere (settled 0 (Named [] (Free p))) ss e in
    record {
      done = done;
      start = us;
      back = at Name p ∷ [];
      step = Drops a.tree;
      before = d;
      reads = drops (read_whole (named bottom (free p)) a.tree a.alone);
      whole = refl;
      steps = a.steps;
    }
last_step (inside {done = done} {us = us} {vs = vs} {ws = ws} {target = target} {q = q} d o h) ss e =
    let a = ends_with done target (settled 0 q) ss e in
    record {
      done = done;
      start = us;
      back = ws ++ vs;
      step = with_target target a.tree;
      before = d;
      reads =
          reads_target o vs a.tree (read_whole h a.tree a.alone);
      whole = refl;
      steps = a.steps;
    }

end_step : (ts : List Token) (ss : List StatementTree) (p : Span) → LastStep ts ss → HoldsWhole (Between ss) (ts ++ at Semicolon p ∷ [])
end_step ts ss p l =
    let e : l.start ++ (l.back ++ at Semicolon p ∷ []) ≡ ts ++ at Semicolon p ∷ [] = sym (append_assoc l.start l.back (at Semicolon p ∷ []))
    ∙ ap (λ x. x ++ at Semicolon p ∷ []) l.whole in
    subst (λ (x : List StatementTree). HoldsWhole (Between x) (ts ++ at Semicolon p ∷ [])) l.steps (whole_as _ _ _ e (between (one_more p l.before l.reads)))

holds_inside : (k : Kind) (p : Span) (done : List StatementTree) (target : Target) (q : State) (us ws vs : List Token) (v : Whole) → ReadsDone done us →
    OpensTarget target ws → Holds q vs → option_map (Inside done target) (step q k p) ≡ Some v → HoldsWhole v ((us ++ (ws ++ vs)) ++ at k p ∷ [])
holds_inside k p done target q us ws vs v d o h e =
    mapped (step q k p) done target v _ (λ r f. whole_as _ (us ++ (ws ++ (vs ++ at k p ∷ []))) _ (simp append_assoc) (inside d o (holds_step h k p r f))) e

holds_begin_whole : (k : Kind) (p : Span) (done : List StatementTree) (us : List Token) (v : Whole) → ReadsDone done us → begin_whole done k p ≡ Some v →
    HoldsWhole v (us ++ at k p ∷ [])
holds_begin_whole Name p done us v d e = subst (λ (x : Whole). HoldsWhole x (us ++ at Name p ∷ [])) (same_Some _ _ e) (lone p d)
holds_begin_whole k p done us v d e =
    whole_as v ((us ++ ([] ++ [])) ++ at k p ∷ []) _ (simp append-nil) (holds_inside k p done Nowhere (Want []) us [] [] v d nowhere (want bottom) e)

holds_lone_whole : (k : Kind) (p : Span) (done : List StatementTree) (us : List Token) (a : Span) (v : Whole) → ReadsDone done us →
    lone_whole done a k p ≡ Some v → HoldsWhole v ((us ++ at Name a ∷ []) ++ at k p ∷ [])
holds_lone_whole Semicolon p done us a v d e = mapped_end (ended (Lone done a)) v _ (λ ss f. end_step (us ++ at Name a ∷ []) ss p (last_step (lone a d) ss f)) e
holds_lone_whole Assign p done us a v d e =
    subst (λ (x : Whole). HoldsWhole x ((us ++ at Name a ∷ []) ++ at Assign p ∷ [])) (same_Some _ _ e)
    (whole_as _ (us ++ ((at Name a ∷ at Assign p ∷ []) ++ [])) _ (simp append_assoc) (inside d (into a p) (want bottom)))
holds_lone_whole k p done us a v d e = holds_inside k p done Nowhere (Named [] (Free a)) us [] (at Name a ∷ []) v d nowhere (named bottom (free a)) e

holds_inside_whole : (k : Kind) (p : Span) (done : List StatementTree) (target : Target) (q : State) (us ws vs : List Token) (v : Whole) → ReadsDone done us →
    OpensTarget target ws → Holds q vs → inside_whole done target q k p ≡ Some v → HoldsWhole v ((us ++ (ws ++ vs)) ++ at k p ∷ [])
holds_inside_whole Semicolon p done target q us ws vs v d w h e =
    mapped_end (ended (Inside done target q)) v _ (λ ss f. end_step (us ++ (ws ++ vs)) ss p (last_step (inside d w h) ss f)) e
holds_inside_whole k p done target q us ws vs v d w h e = holds_inside k p done target q us ws vs v d w h e

pub holds_step_whole : {w : Whole} {ts : List Token} → HoldsWhole w ts → (k : Kind) (p : Span) (v : Whole) → step_whole w k p ≡ Some v →
    HoldsWhole v (ts ++ at k p ∷ [])
holds_step_whole (between {done = done} {us = us} d) k p v e = holds_begin_whole k p done us v d e
holds_step_whole (lone {done = done} {us = us} a d) k p v e = holds_lone_whole k p done us a v d e
holds_step_whole (inside {done = done} {us = us} {vs = vs} {ws = ws} {target = target} {q = q} d o h) k p v e =
    holds_inside_whole k p done target q us ws vs v d o h e

formula_after : {done : List StatementTree} {us : List Token} → ReadsDone done us → (vs : List Token) (ss : List StatementTree) → ReadsFormula vs ss →
    ReadsFormula (us ++ vs) (done ++ ss)
formula_after no_steps vs ss f = f
formula_after (one_more {done = done} {us = us} {vs = ws} {s = s} p d r) vs ss f =
    let e : us ++ (ws ++ at Semicolon p ∷ vs) ≡ (us ++ (ws ++ at Semicolon p ∷ [])) ++ vs = simp append_assoc in
    let g : done ++ s ∷ ss ≡ (done ++ s ∷ []) ++ ss = simp append_assoc in
    subst (λ (x : List Token). ReadsFormula x ((done ++ s ∷ []) ++ ss)) e
    (subst (λ (x : List StatementTree). ReadsFormula (us ++ (ws ++ at Semicolon p ∷ vs)) x) g
    (formula_after d (ws ++ at Semicolon p ∷ vs) (s ∷ ss) (then p r f)))

formula_of : (ts : List Token) (ss : List StatementTree) → LastStep ts ss → ReadsFormula ts ss
formula_of ts ss l =
    subst (λ (x : List Token). ReadsFormula x ss) l.whole
    (subst (λ (x : List StatementTree). ReadsFormula (l.start ++ l.back) x) l.steps (formula_after l.before l.back (l.step ∷ []) (last l.reads)))

pub read_formula : {w : Whole} {ts : List Token} → HoldsWhole w ts → (ss : List StatementTree) → finished w ≡ Some ss → ReadsFormula ts ss
read_formula (between {done = done} {us = us} d) ss e =
    subst (λ (x : List Token). ReadsFormula x ss) (append-nil us)
    (subst (λ (x : List StatementTree). ReadsFormula (us ++ []) x) (append-nil done ∙ same_Some _ _ e) (formula_after d [] [] empty))
read_formula (lone {us = us} p d) ss e = formula_of _ ss (last_step (lone p d) ss e)
read_formula (inside d o h) ss e = formula_of _ ss (last_step (inside d o h) ss e)
