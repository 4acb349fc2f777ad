-- An expression's value through its nodes, and the values of arguments one after the other.
use Rattle.std.proofs.Common.{◌≡◌, ℕ, suc, List, [], ◌∷◌, ◌++◌, Option, Some, None, Result, Ok, Err, refl, sym, ap, ◌∙◌, drop, drop-cons, get_or, length, ◌<◌}
use Rattle.std.proofs.Common.{◌≤◌}
use denote.Ref.{Bor}
use Rattle.std.proofs.lemmas.List.{at_drop_all}
use Rattle.bt_base.specs.declared.fail.Fail.{Fail}
use Rattle.bt_base.specs.declared.fail.Fail.TheVariants.{Memory, Why}
use Rattle.bt_base.specs.Fails.{◌>>=◌, Fails}
use Rattle.formula_trees.specs.declared.tree.Expr.{Expr}
use Rattle.formula_trees.specs.Tree.{Tree, Numeral, Quoted, Variable, Call, Vector, Member, Method, Unary, Binary, Ternary, Trees, none, more}
use Rattle.formula_trees.specs.View.{tree_of, trees_after, trees_of}
use Rattle.formula_types.proofs.Steps.{ends_there, one_more}
use Rattle.formula_values.specs.declared.value.Value.{Value}
use Rattle.formula_metrics.specs.declared.metrics.Metrics.{Metrics}
use Rattle.formula_eval.specs.declared.fault.Interrupt.{Interrupt}
use Rattle.formula_eval.specs.declared.outcome.Outcome.{Outcome}
use Rattle.formula_eval.specs.Evaluation.{value_of, values_of}
use Rattle.formula_eval.specs.Walks.{first_of, node_value, through, values_after}

module _ (text : List ℕ) (metrics : Metrics) (now : ℕ) (set : Outcome) where
  abbrev from_first : Tree → Value → Option Tree → Result Value Interrupt
  from_first t any None = node_value text metrics now set t any
  from_first t any (Some f) = value_of text metrics now set f >>= node_value text metrics now set t

  value_from_first : (t : Tree) (any : Value) → value_of text metrics now set t ≡ from_first t any (first_of t)
  value_from_first (Numeral n p) any = refl
  value_from_first (Quoted p) any = refl
  value_from_first (Variable p) any = refl
  value_from_first (Call p args) any = refl
  value_from_first (Vector p items) any = refl
  value_from_first (Member t p) any = refl
  value_from_first (Method t p args) any = refl
  value_from_first (Unary o p t) any = refl
  value_from_first (Binary o p l r) any = refl
  value_from_first (Ternary p c y n) any = refl

  -- the value of an expression with a first operand
  pub value_by_first : (t f : Tree) (any : Value) → first_of t ≡ Some f →
      value_of text metrics now set t ≡ (value_of text metrics now set f >>= node_value text metrics now set t)
  value_by_first t f any e = value_from_first t any ∙ ap (from_first t any) e

  -- the value of an expression without one
  pub value_alone : (t : Tree) (any : Value) → first_of t ≡ None → value_of text metrics now set t ≡ node_value text metrics now set t any
  value_alone t any e = value_from_first t any ∙ ap (from_first t any) e

  -- one node more, the innermost
  pub through_push : (es : List (Bor Expr)) (e : Bor Expr) (r : Result Value Interrupt) →
      through text metrics now set (es ++ e ∷ []) r ≡ through text metrics now set es (r >>= node_value text metrics now set (tree_of e.now))
  through_push [] e r = refl
  through_push (x ∷ es) e r = ap (λ q. q >>= node_value text metrics now set (tree_of x.now)) (through_push es e r)

  -- what ends the evaluation within ends that of the whole
  pub through_interrupt : (es : List (Bor Expr)) (h : Interrupt) → through text metrics now set es (Err h) ≡ Err h
  through_interrupt [] h = refl
  through_interrupt (x ∷ es) h = ap (λ q. q >>= node_value text metrics now set (tree_of x.now)) (through_interrupt es h)

  values_after_some : (front : Trees) (es : List Expr) →
      values_of text metrics now set (trees_after front es) ≡ (values_of text metrics now set front >>= (λ values. values_after text metrics now set values es))
  values_after_some front [] = ends_there (values_of text metrics now set front)
  values_after_some front (e ∷ es) =
      values_after_some (more front (tree_of e)) es
      ∙ one_more (values_of text metrics now set front) (value_of text metrics now set (tree_of e)) (λ values. values_after text metrics now set values es)

  -- the values of all arguments, from the first on
  pub values_in_order : (es : List Expr) → values_of text metrics now set (trees_of es) ≡ values_after text metrics now set [] es
  values_in_order es = values_after_some none es

  -- the innermost node has a value
  pub through_pop : (all rest : List (Bor Expr)) (node : Bor Expr) (found next : Value) (whole : Result Value Interrupt) → all ≡ rest ++ node ∷ [] →
      through text metrics now set all (Ok found) ≡ whole → node_value text metrics now set (tree_of node.now) found ≡ Ok next →
      through text metrics now set rest (Ok next) ≡ whole
  through_pop all rest node found next whole e h is =
      ap (through text metrics now set rest) (sym is)
      ∙ sym (through_push rest node (Ok found))
      ∙ ap (λ es. through text metrics now set es (Ok found)) (sym e)
      ∙ h

  -- the innermost node has no value
  pub through_fails : (all rest : List (Bor Expr)) (node : Bor Expr) (found : Value) (whole : Result Value Interrupt) (f : Fail Interrupt) →
      all ≡ rest ++ node ∷ [] → through text metrics now set all (Ok found) ≡ whole → Fails f (node_value text metrics now set (tree_of node.now) found) →
      Fails f whole
  through_fails all rest node found whole Memory e h is = tt
  through_fails all rest node found whole (Why g) e h is =
      sym h
      ∙ ap (λ es. through text metrics now set es (Ok found)) e
      ∙ through_push rest node (Ok found)
      ∙ ap (through text metrics now set rest) is
      ∙ through_interrupt rest g

  -- an argument has no value
  pub arguments_fail : (values : List Value) (es : List Expr) (i : ℕ) (e : Expr) (f : Fail Interrupt) → e ≡ get_or es i e → i < length es →
      values_after text metrics now set values (drop i es) ≡ values_after text metrics now set [] es → Fails f (value_of text metrics now set (tree_of e)) →
      Fails f (values_of text metrics now set (trees_of es))
  arguments_fail values es i e Memory is lt h fails = tt
  arguments_fail values es i e (Why g) is lt h fails =
      values_in_order es
      ∙ sym h
      ∙ ap (values_after text metrics now set values) (drop-cons es i e lt ∙ ap (λ x. x ∷ drop (suc i) es) (sym is))
      ∙ ap (λ r. r >>= (λ known. values_after text metrics now set (values ++ known ∷ []) (drop (suc i) es))) fails

  -- all arguments have values
  pub arguments_known : (values : List Value) (es : List Expr) (i : ℕ) → length es ≤ i →
      values_after text metrics now set values (drop i es) ≡ values_after text metrics now set [] es → values_of text metrics now set (trees_of es) ≡ Ok values
  arguments_known values es i past h =
      values_in_order es ∙ sym h ∙ at_drop_all (values_after text metrics now set values) es i past
