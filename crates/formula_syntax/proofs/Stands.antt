-- What the parser takes is read as the tree that it has.
use Rattle.std.proofs.Common.{◌≡◌, ℕ, zero, suc, ◌+◌, ◌-◌, ◌<◌, ◌≤◌, List, [], ◌∷◌, ◌++◌, Option, Some, None, cond, refl, sym, ap, ◌∙◌, subst, ⊎_elim, arith}
use Rattle.std.proofs.Common.{lit≤, append_assoc, append-nil}
use Rattle.std.proofs.lemmas.Option.{same_Some}
use Rattle.std.proofs.lemmas.Bool.{lt-leb, cases_lt}
use Rattle.formula_trees.specs.declared.token.Span.{Span}
use Rattle.formula_trees.specs.Spans.{span_of}
use Rattle.formula_trees.specs.declared.token.BinaryOperator.{BinaryOperator}
use Rattle.formula_trees.specs.declared.token.BinaryOperator.TheVariants.{Subtract}
use Rattle.formula_trees.specs.declared.tree.UnaryOperator.{UnaryOperator}
use Rattle.formula_trees.specs.declared.tree.UnaryOperator.TheVariants.{Negate, Invert}
use Rattle.formula_trees.specs.declared.token.Kind.{Kind}
use Rattle.formula_trees.specs.declared.token.Kind.TheVariants.{Number, Text, Name, Infix, Bang, Question, Colon, Comma, Semicolon, Assign, Dot, OpenGroup}
use Rattle.formula_trees.specs.declared.token.Kind.TheVariants.{CloseGroup, OpenList, CloseList}
use Rattle.formula_trees.specs.declared.token.Token.{Token}
use Rattle.formula_trees.specs.Tree.{Tree, Numeral, Quoted, Vector, Method, Unary, Binary, Ternary, Trees, none, more}
use Rattle.formula_trees.specs.Grammar.{level_of, sign_of, at, Reads, number, text, name, group, call, vector, member, method, unary, binary, ternary, stronger}
use Rattle.formula_trees.specs.Grammar.{ReadsItems, no_items, items, ReadsSome, first, next}
use Rattle.formula_syntax.specs.Parser.{Callee, Free, Of, bare, applied, Frame, InGroup, InCall, InList, InUnary, InBinary, AfterQuestion, AfterColon, Stack}
use Rattle.formula_syntax.specs.Parser.{State, Want, First, Named, Have, Dotted, go_on, close, strength, act, act_on, on_colon, on_comma, on_close_group}
use Rattle.formula_syntax.specs.Parser.{on_close_list, minus, begin, begin_first, select, step, and_run, run, settled}
use Rattle.formula_syntax.proofs.Running.{level_low, level_high, close_unary, close_binary, close_colon}

-- the level of the operand that a frame waits for
abbrev pub operand : Frame → ℕ
operand InGroup = 0
operand (InCall c args) = 0
operand (InList p args) = 0
operand (InUnary o p) = 7
operand (InBinary o p l) = suc (level_of o)
operand (AfterQuestion p c) = 0
operand (AfterColon p c y) = 0

abbrev pub operand_at : Stack → ℕ
operand_at [] = 0
operand_at (f ∷ s) = operand f

pub data ReadsCallee : Callee → List Token → Type 0 where
  free : (p : Span) → ReadsCallee (Free p) (at Name p ∷ [])
  of_tree : {ts : List Token} {t : Tree} (d p : Span) → Reads 8 ts t → ReadsCallee (Of t p) (ts ++ at Dot d ∷ at Name p ∷ [])

pub data ReadsFront : Trees → List Token → Type 0 where
  nothing : ReadsFront none []
  some : {ts : List Token} {front : Trees} {last : Tree} (p : Span) → ReadsSome ts front last → ReadsFront (more front last) (ts ++ at Comma p ∷ [])

-- the tokens that a stack represents
pub data Stands : Stack → List Token → Type 0 where
  bottom : Stands [] []
  in_group : {s : Stack} {us : List Token} (p : Span) → Stands s us → Stands (InGroup ∷ s) (us ++ at OpenGroup p ∷ [])
  in_call : {s : Stack} {us vs ws : List Token} {c : Callee} {args : Trees} (q : Span) → Stands s us → ReadsCallee c vs → ReadsFront args ws →
      Stands (InCall c args ∷ s) (us ++ (vs ++ at OpenGroup q ∷ ws))
  in_list : {s : Stack} {us ws : List Token} {args : Trees} (p : Span) → Stands s us → ReadsFront args ws →
      Stands (InList p args ∷ s) (us ++ at OpenList p ∷ ws)
  in_unary : {s : Stack} {us : List Token} (o : UnaryOperator) (p : Span) → Stands s us → operand_at s ≤ 7 →
      Stands (InUnary o p ∷ s) (us ++ at (sign_of o) p ∷ [])
  in_binary : {s : Stack} {us vs : List Token} {l : Tree} (o : BinaryOperator) (p : Span) → Stands s us → operand_at s ≤ level_of o → Reads (level_of o) vs l →
      Stands (InBinary o p l ∷ s) (us ++ (vs ++ at (Infix o) p ∷ []))
  after_question : {s : Stack} {us vs : List Token} {c : Tree} (p : Span) → Stands s us → operand_at s ≤ 0 → Reads 1 vs c →
      Stands (AfterQuestion p c ∷ s) (us ++ (vs ++ at Question p ∷ []))
  after_colon : {s : Stack} {us vs ws : List Token} {c y : Tree} (p q : Span) → Stands s us → operand_at s ≤ 0 → Reads 1 vs c → Reads 0 ws y →
      Stands (AfterColon p c y ∷ s) (us ++ (vs ++ at Question p ∷ (ws ++ at Colon q ∷ [])))

-- the tokens that a state represents
pub data Holds : State → List Token → Type 0 where
  want : {s : Stack} {ts : List Token} → Stands s ts → Holds (Want s) ts
  first_argument : {s : Stack} {us vs : List Token} {c : Callee} (q : Span) → Stands s us → ReadsCallee c vs →
      Holds (First (InCall c none ∷ s)) (us ++ (vs ++ at OpenGroup q ∷ []))
  first_item : {s : Stack} {us : List Token} (p : Span) → Stands s us → Holds (First (InList p none ∷ s)) (us ++ at OpenList p ∷ [])
  named : {s : Stack} {us vs : List Token} {c : Callee} → Stands s us → ReadsCallee c vs → Holds (Named s c) (us ++ vs)
  have : {s : Stack} {us vs : List Token} {t : Tree} → Stands s us → Reads 8 vs t → Holds (Have s t) (us ++ vs)
  dotted : {s : Stack} {us vs : List Token} {t : Tree} (d : Span) → Stands s us → Reads 8 vs t → Holds (Dotted s t) (us ++ (vs ++ at Dot d ∷ []))

-- an expression of a level is one of each weaker level
lower : (d k j : ℕ) (ts : List Token) (t : Tree) → k ≡ d + j → Reads k ts t → Reads j ts t
lower zero k j ts t e r = let f : k ≡ j = omega arith in subst (λ (i : ℕ). Reads i ts t) f r
lower (suc d) k j ts t e r = let f : k ≡ suc (d + j) = omega arith in lower d (d + j) j ts t refl (stronger (subst (λ (i : ℕ). Reads i ts t) f r))

pub at_level : (k j : ℕ) (ts : List Token) (t : Tree) → j ≤ k → Reads k ts t → Reads j ts t
at_level k j ts t h r = lower (k - j) k j ts t (omega arith) r

-- what is left once a level and stronger ones are closed
pub record Closed (j : ℕ) (x : Stack × Tree) (ts : List Token) : Type 0 where
  pub level : ℕ
  pub front : List Token
  pub back : List Token
  pub stands : Stands x.0 front
  pub reads : Reads level back x.1
  pub strong : j ≤ level
  pub stopped : 1 ≤ j → j ≤ 7 → operand_at x.0 ≤ j
  pub whole : front ++ back ≡ ts

stay_unary : (j : ℕ) (o : UnaryOperator) (p : Span) (s : Stack) (t : Tree) → 7 < j → close j (InUnary o p ∷ s) t ≡ (InUnary o p ∷ s, t)
stay_unary j o p s t h = ap (λ b. go_on (cond b (Some (Unary o p t)) None) (close j s) (InUnary o p ∷ s, t)) (lt-leb j 7 h)

pub stay_binary : (j : ℕ) (o : BinaryOperator) (p : Span) (l : Tree) (s : Stack) (t : Tree) → level_of o < j →
    close j (InBinary o p l ∷ s) t ≡ (InBinary o p l ∷ s, t)
stay_binary j o p l s t h = ap (λ b. go_on (cond b (Some (Binary o p l t)) None) (close j s) (InBinary o p l ∷ s, t)) (lt-leb j (level_of o) h)

pub stay_colon : (j : ℕ) (p : Span) (c y : Tree) (s : Stack) (t : Tree) → 0 < j → close j (AfterColon p c y ∷ s) t ≡ (AfterColon p c y ∷ s, t)
stay_colon j p c y s t h = ap (λ b. go_on (cond b (Some (Ternary p c y t)) None) (close j s) (AfterColon p c y ∷ s, t)) (lt-leb j 0 h)

-- other tokens, which are the same
closed_as : (j : ℕ) (x : Stack × Tree) (ts us : List Token) → ts ≡ us → Closed j x ts → Closed j x us
closed_as j x ts us e c = subst (λ (w : List Token). Closed j x w) e c

-- if nothing is closed
stays : (j k : ℕ) (s : Stack) (us vs : List Token) (t : Tree) (x : Stack × Tree) → x ≡ (s, t) → Stands s us → Reads k vs t → j ≤ k →
    (1 ≤ j → j ≤ 7 → operand_at s ≤ j) → Closed j x (us ++ vs)
stays j k s us vs t x e st r h stop =
    subst (λ (w : Stack × Tree). Closed j w (us ++ vs)) (sym e)
    (record { level = k; front = us; back = vs; stands = st; reads = r; strong = h; stopped = stop; whole = refl })

pub closing : {s : Stack} {us : List Token} → Stands s us → (j k : ℕ) (vs : List Token) (t : Tree) → Reads k vs t → operand_at s ≤ k → j ≤ k →
    Closed j (close j s t) (us ++ vs)
closing bottom j k vs t r h i = stays j k [] [] vs t _ refl bottom r i (λ a b. omega arith)
closing (in_group {s = s} {us = us} p st) j k vs t r h i = stays j k (InGroup ∷ s) _ vs t _ refl (in_group p st) r i (λ a b. omega arith)
closing (in_call {s = s} {c = c} {args = args} q st rc rf) j k vs t r h i =
    stays j k (InCall c args ∷ s) _ vs t _ refl (in_call q st rc rf) r i (λ a b. omega arith)
closing (in_list {s = s} {args = args} p st rf) j k vs t r h i = stays j k (InList p args ∷ s) _ vs t _ refl (in_list p st rf) r i (λ a b. omega arith)
closing (after_question {s = s} {c = c} p st l rc) j k vs t r h i =
    stays j k (AfterQuestion p c ∷ s) _ vs t _ refl (after_question p st l rc) r i (λ a b. omega arith)
closing (in_unary {s = s} {us = us} o p st l) j k vs t r h i =
    ⊎_elim
    (λ (b : j < 8). let le : j ≤ 7 = omega arith in
    let next = closing st j 7 (at (sign_of o) p ∷ vs) (Unary o p t) (unary o p (at_level k 7 vs t h r)) l le in
    subst (λ (w : Stack × Tree). Closed j w ((us ++ at (sign_of o) p ∷ []) ++ vs)) (sym (close_unary j o p s t le))
    (closed_as j _ _ _ (simp append_assoc) next))
    (λ (b : 8 ≤ j). stays j k (InUnary o p ∷ s) _ vs t _ (stay_unary j o p s t (omega arith)) (in_unary o p st l) r i (λ a c. absurd (omega arith)))
    (cases_lt j 8)
closing (in_binary {s = s} {us = us} {vs = ls} {l = l} o p st le0 rl) j k vs t r h i =
    ⊎_elim
    (λ (b : j < suc (level_of o)). let le : j ≤ level_of o = omega arith in
    let next = closing st j (level_of o) (ls ++ at (Infix o) p ∷ vs) (Binary o p l t) (binary o p rl (at_level k (suc (level_of o)) vs t h r)) le0 le in
    subst (λ (w : Stack × Tree). Closed j w ((us ++ (ls ++ at (Infix o) p ∷ [])) ++ vs)) (sym (close_binary j o p l s t le))
    (closed_as j _ _ _ (simp append_assoc) next))
    (λ (b : suc (level_of o) ≤ j). stays j k (InBinary o p l ∷ s) _ vs t _ (stay_binary j o p l s t (omega arith)) (in_binary o p st le0 rl) r i
    (λ a c. omega arith))
    (cases_lt j (suc (level_of o)))
closing (after_colon {s = s} {us = us} {vs = cs} {ws = ys} {c = c} {y = y} p q st l rc ry) j k vs t r h i =
    ⊎_elim
    (λ (b : j < 1). let le : j ≤ 0 = omega arith in
    let next = closing st j 0 (cs ++ at Question p ∷ (ys ++ at Colon q ∷ vs)) (Ternary p c y t) (ternary p q rc ry (at_level k 0 vs t (omega arith) r)) l le in
    subst (λ (w : Stack × Tree). Closed j w ((us ++ (cs ++ at Question p ∷ (ys ++ at Colon q ∷ []))) ++ vs)) (sym (close_colon j p c y s t le))
    (closed_as j _ _ _ (simp append_assoc) next))
    (λ (b : 1 ≤ j). stays j k (AfterColon p c y ∷ s) _ vs t _ (stay_colon j p c y s t (omega arith)) (after_colon p q st l rc ry) r i (λ a d. omega arith))
    (cases_lt j 1)

-- what follows if a state is known
become : (q r : State) (ts : List Token) → Some q ≡ Some r → Holds q ts → Holds r ts
become q r ts e h = subst (λ (w : State). Holds w ts) (same_Some _ _ e) h

holds_as : (q : State) (ts us : List Token) → ts ≡ us → Holds q ts → Holds q us
holds_as q ts us e h = subst (λ (w : List Token). Holds q w) e h

-- with the tokens that were read last
with_last : (front back ts us : List Token) → front ++ back ≡ ts → front ++ (back ++ us) ≡ ts ++ us
with_last front back ts us e = sym (append_assoc front back us) ∙ ap (λ w. w ++ us) e

-- an item after those before it
with_front : {args : Trees} {ws : List Token} → ReadsFront args ws → (vs : List Token) (t : Tree) → Reads 0 vs t → ReadsSome (ws ++ vs) args t
with_front nothing vs t r = first r
with_front (some {ts = ts} {front = front} {last = last} p rs) vs t r =
    let e : ts ++ at Comma p ∷ vs ≡ (ts ++ at Comma p ∷ []) ++ vs = simp append_assoc in
    subst (λ (w : List Token). ReadsSome w (more front last) t) e (next p rs r)

reads_applied : {c : Callee} {vs : List Token} → ReadsCallee c vs → (q r : Span) (ws : List Token) (args : Trees) → ReadsItems ws args →
    Reads 8 (vs ++ at OpenGroup q ∷ (ws ++ at CloseGroup r ∷ [])) (applied c args)
reads_applied (free p) q r ws args i = call p q r i
reads_applied (of_tree {ts = ts} {t = t} d p rt) q r ws args i =
    let e : ts ++ at Dot d ∷ at Name p ∷ at OpenGroup q ∷ (ws ++ at CloseGroup r ∷ []) ≡ (ts ++ at Dot d ∷ at Name p ∷ [])
    ++ at OpenGroup q ∷ (ws ++ at CloseGroup r ∷ []) = simp append_assoc in
    subst (λ (w : List Token). Reads 8 w (Method t p args)) e (method d p q r rt i)

reads_bare : {c : Callee} {vs : List Token} → ReadsCallee c vs → Reads 8 vs (bare c)
reads_bare (free p) = name p
reads_bare (of_tree d p r) = member d p r

-- the closing marks, the comma and the colon
holds_close_group : {s : Stack} {us : List Token} → Stands s us → (k : ℕ) (vs : List Token) (t : Tree) (p : Span) (r : State) → Reads k vs t →
    on_close_group s t ≡ Some r → Holds r (us ++ (vs ++ at CloseGroup p ∷ []))
holds_close_group bottom k vs t p r rt e = cc
holds_close_group (in_group {s = s} {us = us} q st) k vs t p r rt e =
    holds_as r (us ++ at OpenGroup q ∷ (vs ++ at CloseGroup p ∷ [])) _ (simp append_assoc)
    (become (Have s t) r _ e (have st (group q p (at_level k 0 vs t (omega arith) rt))))
holds_close_group (in_call {s = s} {us = us} {vs = cs} {ws = ws} {c = c} {args = args} q st rc rf) k vs t p r rt e =
    let i = items (with_front rf vs t (at_level k 0 vs t (omega arith) rt)) in
    holds_as r (us ++ (cs ++ at OpenGroup q ∷ ((ws ++ vs) ++ at CloseGroup p ∷ []))) _ (simp append_assoc)
    (become (Have s (applied c (more args t))) r _ e (have st (reads_applied rc q p (ws ++ vs) (more args t) i)))
holds_close_group (in_list q st rf) k vs t p r rt e = cc
holds_close_group (in_unary o q st l) k vs t p r rt e = cc
holds_close_group (in_binary o q st l rl) k vs t p r rt e = cc
holds_close_group (after_question q st l rc) k vs t p r rt e = cc
holds_close_group (after_colon q q2 st l rc ry) k vs t p r rt e = cc

holds_close_list : {s : Stack} {us : List Token} → Stands s us → (k : ℕ) (vs : List Token) (t : Tree) (p : Span) (r : State) → Reads k vs t →
    on_close_list s t ≡ Some r → Holds r (us ++ (vs ++ at CloseList p ∷ []))
holds_close_list bottom k vs t p r rt e = cc
holds_close_list (in_group q st) k vs t p r rt e = cc
holds_close_list (in_call q st rc rf) k vs t p r rt e = cc
holds_close_list (in_list {s = s} {us = us} {ws = ws} {args = args} q st rf) k vs t p r rt e =
    let i = items (with_front rf vs t (at_level k 0 vs t (omega arith) rt)) in
    holds_as r (us ++ at OpenList q ∷ ((ws ++ vs) ++ at CloseList p ∷ [])) _ (simp append_assoc)
    (become (Have s (Vector q (more args t))) r _ e (have st (vector q p i)))
holds_close_list (in_unary o q st l) k vs t p r rt e = cc
holds_close_list (in_binary o q st l rl) k vs t p r rt e = cc
holds_close_list (after_question q st l rc) k vs t p r rt e = cc
holds_close_list (after_colon q q2 st l rc ry) k vs t p r rt e = cc

holds_comma : {s : Stack} {us : List Token} → Stands s us → (k : ℕ) (vs : List Token) (t : Tree) (p : Span) (r : State) → Reads k vs t → on_comma s t ≡ Some r →
    Holds r (us ++ (vs ++ at Comma p ∷ []))
holds_comma bottom k vs t p r rt e = cc
holds_comma (in_group q st) k vs t p r rt e = cc
holds_comma (in_call {s = s} {us = us} {vs = cs} {ws = ws} {c = c} {args = args} q st rc rf) k vs t p r rt e =
    let f = some p (with_front rf vs t (at_level k 0 vs t (omega arith) rt)) in
    holds_as r (us ++ (cs ++ at OpenGroup q ∷ ((ws ++ vs) ++ at Comma p ∷ []))) _ (simp append_assoc)
    (become (Want (InCall c (more args t) ∷ s)) r _ e (want (in_call q st rc f)))
holds_comma (in_list {s = s} {us = us} {ws = ws} {args = args} q st rf) k vs t p r rt e =
    let f = some p (with_front rf vs t (at_level k 0 vs t (omega arith) rt)) in
    holds_as r (us ++ at OpenList q ∷ ((ws ++ vs) ++ at Comma p ∷ [])) _ (simp append_assoc)
    (become (Want (InList q (more args t) ∷ s)) r _ e (want (in_list q st f)))
holds_comma (in_unary o q st l) k vs t p r rt e = cc
holds_comma (in_binary o q st l rl) k vs t p r rt e = cc
holds_comma (after_question q st l rc) k vs t p r rt e = cc
holds_comma (after_colon q q2 st l rc ry) k vs t p r rt e = cc

holds_colon : {s : Stack} {us : List Token} → Stands s us → (k : ℕ) (vs : List Token) (t : Tree) (p : Span) (r : State) → Reads k vs t →
    on_colon p s t ≡ Some r → Holds r (us ++ (vs ++ at Colon p ∷ []))
holds_colon bottom k vs t p r rt e = cc
holds_colon (in_group q st) k vs t p r rt e = cc
holds_colon (in_call q st rc rf) k vs t p r rt e = cc
holds_colon (in_list q st rf) k vs t p r rt e = cc
holds_colon (in_unary o q st l) k vs t p r rt e = cc
holds_colon (in_binary o q st l rl) k vs t p r rt e = cc
holds_colon (after_question {s = s} {us = us} {vs = cs} {c = c} q st l rc) k vs t p r rt e =
    holds_as r (us ++ (cs ++ at Question q ∷ (vs ++ at Colon p ∷ []))) _ (simp append_assoc)
    (become (Want (AfterColon q c t ∷ s)) r _ e (want (after_colon q p st l rc (at_level k 0 vs t (omega arith) rt))))
holds_colon (after_colon q q2 st l rc ry) k vs t p r rt e = cc

-- nothing waits for an operand of level 1
operand_low : {s : Stack} {us : List Token} → Stands s us → operand_at s ≤ 1 → operand_at s ≤ 0
operand_low bottom h = lit≤ tt
operand_low (in_group q st) h = lit≤ tt
operand_low (in_call q st rc rf) h = lit≤ tt
operand_low (in_list q st rf) h = lit≤ tt
operand_low (in_unary o q st l) h = absurd (omega arith)
operand_low (in_binary o q st l rl) h = let low = level_low o in absurd (omega arith)
operand_low (after_question q st l rc) h = lit≤ tt
operand_low (after_colon q q2 st l rc ry) h = lit≤ tt

-- a token after an operand
holds_act : (k : Kind) (p : Span) (s : Stack) (t : Tree) (ts : List Token) (r : State) → Closed (strength k) (s, t) ts → act s t k p ≡ Some r →
    Holds r (ts ++ at k p ∷ [])
holds_act (Infix o) p s t ts r c e =
    let high = level_high o in let low = level_low o in
    holds_as r (c.front ++ (c.back ++ at (Infix o) p ∷ [])) _ (with_last c.front c.back ts _ c.whole)
    (become (Want (InBinary o p t ∷ s)) r _ e
    (want (in_binary o p c.stands (c.stopped low (omega arith)) (at_level c.level (level_of o) c.back t c.strong c.reads))))
holds_act Question p s t ts r c e =
    holds_as r (c.front ++ (c.back ++ at Question p ∷ [])) _ (with_last c.front c.back ts _ c.whole)
    (become (Want (AfterQuestion p t ∷ s)) r _ e
    (want (after_question p c.stands (operand_low c.stands (c.stopped (lit≤ tt) (lit≤ tt))) (at_level c.level 1 c.back t c.strong c.reads))))
holds_act Dot p s t ts r c e =
    holds_as r (c.front ++ (c.back ++ at Dot p ∷ [])) _ (with_last c.front c.back ts _ c.whole)
    (become (Dotted s t) r _ e (dotted p c.stands (at_level c.level 8 c.back t c.strong c.reads)))
holds_act Colon p s t ts r c e = holds_as r _ _ (with_last c.front c.back ts _ c.whole) (holds_colon c.stands c.level c.back t p r c.reads e)
holds_act Comma p s t ts r c e = holds_as r _ _ (with_last c.front c.back ts _ c.whole) (holds_comma c.stands c.level c.back t p r c.reads e)
holds_act CloseGroup p s t ts r c e = holds_as r _ _ (with_last c.front c.back ts _ c.whole) (holds_close_group c.stands c.level c.back t p r c.reads e)
holds_act CloseList p s t ts r c e = holds_as r _ _ (with_last c.front c.back ts _ c.whole) (holds_close_list c.stands c.level c.back t p r c.reads e)
holds_act _ p s t ts r c e = cc

-- every frame takes what is read at level 8
operand_high : {s : Stack} {us : List Token} → Stands s us → operand_at s ≤ 8
operand_high bottom = lit≤ tt
operand_high (in_group q st) = lit≤ tt
operand_high (in_call q st rc rf) = lit≤ tt
operand_high (in_list q st rf) = lit≤ tt
operand_high (in_unary o q st l) = lit≤ tt
operand_high (in_binary o q st l rl) = let high = level_high o in omega arith
operand_high (after_question q st l rc) = lit≤ tt
operand_high (after_colon q q2 st l rc ry) = lit≤ tt

strength_high : (k : Kind) → strength k ≤ 8
strength_high (Infix o) = let high = level_high o in omega arith
strength_high Question = lit≤ tt
strength_high Dot = lit≤ tt
strength_high Colon = lit≤ tt
strength_high Comma = lit≤ tt
strength_high CloseGroup = lit≤ tt
strength_high CloseList = lit≤ tt
strength_high (Number n) = lit≤ tt
strength_high Text = lit≤ tt
strength_high Name = lit≤ tt
strength_high Bang = lit≤ tt
strength_high Semicolon = lit≤ tt
strength_high Assign = lit≤ tt
strength_high OpenGroup = lit≤ tt
strength_high OpenList = lit≤ tt

holds_after : (k : Kind) (p : Span) (s : Stack) (us vs : List Token) (t : Tree) (r : State) → Stands s us → Reads 8 vs t →
    act_on (close (strength k) s t) k p ≡ Some r → Holds r ((us ++ vs) ++ at k p ∷ [])
holds_after k p s us vs t r st rt e =
    let x = close (strength k) s t in
    holds_act k p x.0 x.1 (us ++ vs) r (closing st (strength k) 8 vs t rt (operand_high st) (strength_high k)) e

-- the beginning of an operand
holds_minus : (o : BinaryOperator) (p : Span) (s : Stack) (ts : List Token) (r : State) → Stands s ts → operand_at s ≤ 7 → minus s o p ≡ Some r →
    Holds r (ts ++ at (Infix o) p ∷ [])
holds_minus Subtract p s ts r st h e = become (Want (InUnary Negate p ∷ s)) r _ e (want (in_unary Negate p st h))
holds_minus _ p s ts r st h e = cc

operand_unary : {s : Stack} {us : List Token} → Stands s us → operand_at s ≤ 7
operand_unary bottom = lit≤ tt
operand_unary (in_group q st) = lit≤ tt
operand_unary (in_call q st rc rf) = lit≤ tt
operand_unary (in_list q st rf) = lit≤ tt
operand_unary (in_unary o q st l) = lit≤ tt
operand_unary (in_binary o q st l rl) = let high = level_high o in omega arith
operand_unary (after_question q st l rc) = lit≤ tt
operand_unary (after_colon q q2 st l rc ry) = lit≤ tt

holds_begin : (k : Kind) (p : Span) (s : Stack) (ts : List Token) (r : State) → Stands s ts → begin s k p ≡ Some r → Holds r (ts ++ at k p ∷ [])
holds_begin (Number n) p s ts r st e = become (Have s (Numeral n p)) r _ e (have st (number n p))
holds_begin Text p s ts r st e = become (Have s (Quoted p)) r _ e (have st (text p))
holds_begin Name p s ts r st e = become (Named s (Free p)) r _ e (named st (free p))
holds_begin (Infix o) p s ts r st e = holds_minus o p s ts r st (operand_unary st) e
holds_begin Bang p s ts r st e = become (Want (InUnary Invert p ∷ s)) r _ e (want (in_unary Invert p st (operand_unary st)))
holds_begin OpenGroup p s ts r st e = become (Want (InGroup ∷ s)) r _ e (want (in_group p st))
holds_begin OpenList p s ts r st e = become (First (InList p none ∷ s)) r _ e (first_item p st)
holds_begin _ p s ts r st e = cc

-- the first of some arguments or items, or their end
holds_first_argument : (k : Kind) (p : Span) (s : Stack) (c : Callee) (us vs : List Token) (q : Span) (r : State) → Stands s us → ReadsCallee c vs →
    begin_first (InCall c none ∷ s) k p ≡ Some r → Holds r ((us ++ (vs ++ at OpenGroup q ∷ [])) ++ at k p ∷ [])
holds_first_argument CloseGroup p s c us vs q r st rc e =
    holds_as r (us ++ (vs ++ at OpenGroup q ∷ ([] ++ at CloseGroup p ∷ []))) _ (simp append_assoc)
    (become (Have s (applied c none)) r _ e (have st (reads_applied rc q p [] none no_items)))
holds_first_argument (Number n) p s c us vs q r st rc e = holds_begin (Number n) p _ _ r (in_call q st rc nothing) e
holds_first_argument Text p s c us vs q r st rc e = holds_begin Text p _ _ r (in_call q st rc nothing) e
holds_first_argument Name p s c us vs q r st rc e = holds_begin Name p _ _ r (in_call q st rc nothing) e
holds_first_argument (Infix o) p s c us vs q r st rc e = holds_begin (Infix o) p _ _ r (in_call q st rc nothing) e
holds_first_argument Bang p s c us vs q r st rc e = holds_begin Bang p _ _ r (in_call q st rc nothing) e
holds_first_argument OpenGroup p s c us vs q r st rc e = holds_begin OpenGroup p _ _ r (in_call q st rc nothing) e
holds_first_argument OpenList p s c us vs q r st rc e = holds_begin OpenList p _ _ r (in_call q st rc nothing) e
holds_first_argument _ p s c us vs q r st rc e = cc

holds_first_item : (k : Kind) (p : Span) (s : Stack) (us : List Token) (q : Span) (r : State) → Stands s us → begin_first (InList q none ∷ s) k p ≡ Some r →
    Holds r ((us ++ at OpenList q ∷ []) ++ at k p ∷ [])
holds_first_item CloseList p s us q r st e =
    holds_as r (us ++ at OpenList q ∷ ([] ++ at CloseList p ∷ [])) _ (simp append_assoc) (become (Have s (Vector q none)) r _ e (have st (vector q p no_items)))
holds_first_item (Number n) p s us q r st e = holds_begin (Number n) p _ _ r (in_list q st nothing) e
holds_first_item Text p s us q r st e = holds_begin Text p _ _ r (in_list q st nothing) e
holds_first_item Name p s us q r st e = holds_begin Name p _ _ r (in_list q st nothing) e
holds_first_item (Infix o) p s us q r st e = holds_begin (Infix o) p _ _ r (in_list q st nothing) e
holds_first_item Bang p s us q r st e = holds_begin Bang p _ _ r (in_list q st nothing) e
holds_first_item OpenGroup p s us q r st e = holds_begin OpenGroup p _ _ r (in_list q st nothing) e
holds_first_item OpenList p s us q r st e = holds_begin OpenList p _ _ r (in_list q st nothing) e
holds_first_item _ p s us q r st e = cc

-- after a name, where a mark may open a call
holds_named : (k : Kind) (p : Span) (s : Stack) (c : Callee) (us vs : List Token) (r : State) → Stands s us → ReadsCallee c vs → step (Named s c) k p ≡ Some r →
    Holds r ((us ++ vs) ++ at k p ∷ [])
holds_named OpenGroup p s c us vs r st rc e =
    holds_as r (us ++ (vs ++ at OpenGroup p ∷ [])) _ (simp append_assoc) (become (First (InCall c none ∷ s)) r _ e (first_argument p st rc))
holds_named k p s c us vs r st rc e = holds_after k p s us vs (bare c) r st (reads_bare rc) e

holds_select : (k : Kind) (p : Span) (s : Stack) (us vs : List Token) (t : Tree) (d : Span) (r : State) → Stands s us → Reads 8 vs t → select s t k p ≡ Some r →
    Holds r ((us ++ (vs ++ at Dot d ∷ [])) ++ at k p ∷ [])
holds_select Name p s us vs t d r st rt e =
    holds_as r (us ++ (vs ++ at Dot d ∷ at Name p ∷ [])) _ (simp append_assoc) (become (Named s (Of t p)) r _ e (named st (of_tree d p rt)))
holds_select _ p s us vs t d r st rt e = cc

pub holds_step : {q : State} {ts : List Token} → Holds q ts → (k : Kind) (p : Span) (r : State) → step q k p ≡ Some r → Holds r (ts ++ at k p ∷ [])
holds_step (want {s = s} {ts = ts} st) k p r e = holds_begin k p s ts r st e
holds_step (first_argument {s = s} {us = us} {vs = vs} {c = c} q st rc) k p r e = holds_first_argument k p s c us vs q r st rc e
holds_step (first_item {s = s} {us = us} q st) k p r e = holds_first_item k p s us q r st e
holds_step (named {s = s} {us = us} {vs = vs} {c = c} st rc) k p r e = holds_named k p s c us vs r st rc e
holds_step (have {s = s} {us = us} {vs = vs} {t = t} st rt) k p r e = holds_after k p s us vs t r st rt e
holds_step (dotted {s = s} {us = us} {vs = vs} {t = t} d st rt) k p r e = holds_select k p s us vs t d r st rt e

-- what is left if all is closed
stands_nothing : {us : List Token} → Stands [] us → us ≡ []
stands_nothing bottom = refl

and_holds : (o : Option State) (xs ts : List Token) (r : State) → ((w : State) → o ≡ Some w → run xs w ≡ Some r → Holds r ts) → and_run o (run xs) ≡ Some r →
    Holds r ts
and_holds None xs ts r h e = cc
and_holds (Some w) xs ts r h e = h w refl e

pub holds_run : (xs ts : List Token) (q r : State) → Holds q ts → run xs q ≡ Some r → Holds r (ts ++ xs)
holds_run [] ts q r h e = holds_as r ts _ (sym (simp append-nil)) (become q r ts e h)
holds_run (x ∷ xs) ts q r h e =
    and_holds (step q x.kind (span_of x)) xs _ r
    (λ w e1 e2. holds_as r ((ts ++ x ∷ []) ++ xs) _ (simp append_assoc) (holds_run xs (ts ++ x ∷ []) w r (holds_step h x.kind (span_of x) w e1) e2))
    e

closed_all : (x : Stack × Tree) (ts : List Token) (t : Tree) → Closed 0 x ts → x ≡ ([], t) → Reads 0 ts t
closed_all x ts t c e =
    let d = subst (λ (w : Stack × Tree). Closed 0 w ts) e c in
    let f : d.back ≡ ts = ap (λ w. w ++ d.back) (sym (stands_nothing d.stands)) ∙ d.whole in
    subst (λ (w : List Token). Reads 0 w t) f (at_level d.level 0 d.back t (omega arith) d.reads)

-- if nothing is left open, the tokens are an expression with the tree that is there
pub read_whole : {q : State} {ts : List Token} → Holds q ts → (t : Tree) → settled 0 q ≡ Some ([], t) → Reads 0 ts t
read_whole (want st) t e = cc
read_whole (first_argument q st rc) t e = cc
read_whole (first_item q st) t e = cc
read_whole (named {vs = vs} {c = c} st rc) t e = closed_all _ _ t (closing st 0 8 vs (bare c) (reads_bare rc) (operand_high st) (lit≤ tt)) (same_Some _ _ e)
read_whole (have {vs = vs} {t = u} st rt) t e = closed_all _ _ t (closing st 0 8 vs u rt (operand_high st) (lit≤ tt)) (same_Some _ _ e)
read_whole (dotted d st rt) t e = cc
