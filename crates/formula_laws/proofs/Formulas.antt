-- Before each statement of a formula the variables have values of their types.
use Rattle.std.proofs.Common.{◌≡◌, ℕ, Bool, true, false, cond, List, [], ◌∷◌, ◌++◌, Option, Some, None, Result, Ok, Err, is_some, refl, sym, ap, ◌∙◌, subst}
use Rattle.std.specs.Prelude.{◌||◌, option_map}
use Rattle.formula_trees.specs.declared.token.Span.{Span}
use Rattle.formula_trees.specs.Tree.{Tree}
use Rattle.formula_trees.specs.Formula.{StatementTree, Sets, Drops}
use Rattle.formula_trees.specs.declared.names.Setting.{Setting}
use Rattle.formula_trees.specs.declared.names.Setting.TheVariants.{DedicatedNodes, LowPriorityNodes, Deallocation}
use Rattle.formula_trees.specs.declared.value_types.ValueType.{ValueType}
use Rattle.formula_trees.specs.declared.value_types.ValueType.TheVariants as types
use Rattle.formula_trees.specs.declared.value_types.ExprType.{ExprType}
use Rattle.formula_trees.specs.Names.{metric_named, interval_named, is_option_word, setting_named, setting_type, function_named, fixed_type, is_read_only}
use Rattle.formula_trees.specs.Operators.{common_type}
use Rattle.formula_types.specs.declared.fault.TypeFault.TheVariants.{TypeMismatch, ReadOnly}
use Rattle.formula_types.specs.Compiled.{IsFormula}
use Rattle.formula_types.specs.Scopes.{Variables, nothing, part, or_else, name_type, with_variable}
use Rattle.formula_types.specs.Typing as typing
use Rattle.formula_types.specs.Typing.{type_of, set_to, statement_typed, typed}
use Rattle.formula_values.specs.declared.fault.ValueFault.{ValueFault}
use Rattle.formula_values.specs.declared.value.Value.{Value}
use Rattle.formula_values.specs.declared.value.Value.TheVariants.{Double, Text}
use Rattle.formula_metrics.specs.declared.metrics.Metrics.{Metrics}
use Rattle.formula_eval.specs.declared.outcome.Outcome.{Outcome}
use Rattle.formula_eval.specs.declared.settings.TheConstants.{GREATEST_DEDICATED, GREATEST_LOW}
use Rattle.formula_eval.specs.declared.outcome.Targets.{Targets}
use Rattle.formula_eval.specs.Evaluation.{value_of}
use Rattle.bt_base.specs.DeallocOptions.{option_named}
use Rattle.formula_eval.specs.Outcomes.{text_in, at_start, with_value, with_dedicated, with_low, with_option, set_variable}
use Rattle.formula_eval.specs.Statements.{target_of, chosen_or, with_setting, placed, with_name, expression_of, settled}
use Rattle.formula_laws.specs.ValueTypes.{type_of_value, Agree}
use Rattle.formula_laws.specs.Reaching.{Reaches, there, on}
use Rattle.formula_laws.proofs.Agreement.{agree_first, agree_set, agree_kept}
use Rattle.formula_types.proofs.Found.{ok_same, err_ok, both}
use Rattle.formula_laws.proofs.Expressions.{typed_as, kept}
use Rattle.formula_laws.proofs.NameTexts.{name_text}
use Rattle.formula_laws.proofs.Operations.{common_same}

-- a setting of the pool changes no variable
chosen_stays : (set next : Outcome) (o : Option _) → chosen_or set o ≡ Ok next → set.variables ≡ next.variables
chosen_stays set next None e = absurd (err_ok _ next e)
chosen_stays set next (Some chosen) e = ap (λ (end : Outcome). end.variables) (ok_same (with_option set chosen) next e)

others_stay : (set next : Outcome) (s : Setting) (known : Value) → with_setting set s known ≡ Ok next → set.variables ≡ next.variables
others_stay set next DedicatedNodes (Double n) e =
    let x = both (target_of GREATEST_DEDICATED n) (λ target. Ok (with_dedicated set target)) next e in
    ap (λ (end : Outcome). end.variables) (ok_same (with_dedicated set x.0) next x.2)
others_stay set next LowPriorityNodes (Double n) e =
    let x = both (target_of GREATEST_LOW n) (λ target. Ok (with_low set target)) next e in
    ap (λ (end : Outcome). end.variables) (ok_same (with_low set x.0) next x.2)
others_stay set next Deallocation (Text word) e = chosen_stays set next (option_named word) e
others_stay set next s known e = ap (λ (end : Outcome). end.variables) (ok_same set next e)

found : {A : Type 0} (p : Span) (r : Result A ValueFault) (x : A) → placed p r ≡ Ok x → r ≡ Ok x
found p (Ok y) x e = ap Ok (ok_same y x e)
found p (Err f) x e = absurd (err_ok _ x e)

-- a name that can be set has the type of a setting, or else that of a variable
own_type : (set : Variables) (name : List ℕ) → is_read_only name ≡ false →
    name_type set name ≡ or_else (option_map setting_type (setting_named name)) (set name)
unfolding fixed_type is_read_only
own_type set name e = ap (λ o. or_else o (set name))
    (either (is_some (metric_named name)) (is_some (interval_named name)) (is_option_word name) (is_some (function_named name)) e)
  where
    either : (m i w f : Bool) → (((m || i) || w) || f) ≡ false →
        cond m (Some types.Double) (cond i (Some types.TimeInterval) (cond w (Some types.Text) (option_map setting_type (setting_named name))))
        ≡ option_map setting_type (setting_named name)
    either true i w f e = cc
    either false true w f e = cc
    either false false true f e = cc
    either false false false f e = refl

-- what a name may be set to
may_set : (text : List ℕ) (set after : Variables) (p : Span) (type : ExprType) → typing.assigned text set p type ≡ Ok after →
    (is_read_only (part text p) ≡ false) × (set_to set p (part text p) (name_type set (part text p)) type ≡ Ok after)
may_set text set after p type e = either (is_read_only (part text p)) e
  where
    either : (b : Bool) → cond b (Err (ReadOnly p.from)) (set_to set p (part text p) (name_type set (part text p)) type) ≡ Ok after →
        (b ≡ false) × (set_to set p (part text p) (name_type set (part text p)) type ≡ Ok after)
    either true e = absurd (err_ok _ after e)
    either false e = (refl, e)

-- a name that has a type is set to values of that type
set_again : (set after : Variables) (p : Span) (name : List ℕ) (before value : ValueType) →
    cond (is_some (common_type before value)) (Ok set) (Err (TypeMismatch p.from)) ≡ Ok after → (set ≡ after) × (before ≡ value)
set_again set after p name before value e = either (common_type before value) refl e
  where
    either : (o : Option ValueType) → common_type before value ≡ o → cond (is_some o) (Ok set) (Err (TypeMismatch p.from)) ≡ Ok after →
        (set ≡ after) × (before ≡ value)
    either (Some c) is e = let same = common_same before value c is in (ok_same set after e, same.0 ∙ sym same.1)
    either None is e = absurd (err_ok _ after e)

module _ (text : List ℕ) (set next : Outcome) (before after : Variables) (p : Span) (known : Value) (agree : Agree before set.variables) where
  -- a variable with a value
  variable_set : (o : Option ValueType) → before (part text p) ≡ o → set_to before p (part text p) o (typed_as known) ≡ Ok after →
      Agree after (with_value set.variables (part text p) known)
  variable_set None is e =
      subst (λ (types : Variables). Agree types (with_value set.variables (part text p) known))
      (ok_same (with_variable before (part text p) (type_of_value known)) after e)
      (agree_set (part text p) known before set.variables (type_of_value known) agree refl)
  variable_set (Some type) is e =
      let same = set_again before after p (part text p) type (type_of_value known) e in
      subst (λ (types : Variables). Agree types (with_value set.variables (part text p) known)) same.0
      (agree_kept (part text p) known before set.variables agree (is ∙ ap Some same.1))

  -- a name with a value
  name_set : (o : Option Setting) → with_name set (part text p) o known ≡ Ok next →
      set_to before p (part text p) (or_else (option_map setting_type o) (before (part text p))) (typed_as known) ≡ Ok after →
      text_in (part text p) ≡ part text p → Agree after next.variables
  name_set (Some s) e h word =
      let same = set_again before after p (part text p) (setting_type s) (type_of_value known) h in
      subst (λ (types : Variables). Agree types next.variables) same.0 (subst (Agree before) (others_stay set next s known e) agree)
  name_set None e h word =
      let end : with_value set.variables (text_in (part text p)) known ≡ next.variables =
      ap (λ (end : Outcome). end.variables) (ok_same (set_variable set (text_in (part text p)) known) next e) in
      subst (Agree after) (ap (λ (name : List ℕ). with_value set.variables name known) (sym word) ∙ end) (variable_set (before (part text p)) refl h)

-- a name that a statement sets is a text
abbrev IsNamed : List ℕ → StatementTree → Type 0
IsNamed text (Sets p t) = text_in (part text p) ≡ part text p
IsNamed text (Drops t) = Unit {0}

abbrev AreNamed : List ℕ → List StatementTree → Type 0
AreNamed text [] = Unit {0}
AreNamed text (s ∷ ss) = IsNamed text s × AreNamed text ss

all_named : (text : List ℕ) (front rest : List StatementTree) →
    ((f r : List StatementTree) (p : Span) (t : Tree) → front ++ rest ≡ f ++ Sets p t ∷ r → text_in (part text p) ≡ part text p) → AreNamed text front
all_named text [] rest h = tt
all_named text (Sets p t ∷ front) rest h =
    (h [] (front ++ rest) p t refl, all_named text front rest (λ f r q u e. h (Sets p t ∷ f) r q u (ap (λ ss. Sets p t ∷ ss) e)))
all_named text (Drops t ∷ front) rest h = (tt, all_named text front rest (λ f r q u e. h (Drops t ∷ f) r q u (ap (λ ss. Drops t ∷ ss) e)))

-- what a name that can be set is set to
set_by : (text : List ℕ) (before after : Variables) (p : Span) (known : Value) (type : ExprType) → type ≡ typed_as known →
    typing.assigned text before p type ≡ Ok after →
    set_to before p (part text p) (or_else (option_map setting_type (setting_named (part text p))) (before (part text p))) (typed_as known) ≡ Ok after
set_by text before after p known type same e =
    let may = may_set text before after p type e in
    ap (λ o. set_to before p (part text p) o (typed_as known)) (sym (own_type before (part text p) may.0))
    ∙ ap (set_to before p (part text p) (name_type before (part text p))) (sym same)
    ∙ may.1

-- one statement
one_done : (text : List ℕ) (metrics : Metrics) (now : ℕ) (set next : Outcome) (before after : Variables) (s : StatementTree) (known : Value) →
    Agree before set.variables → IsNamed text s → value_of text metrics now set (expression_of s) ≡ Ok known → settled text set s known ≡ Ok next →
    statement_typed text before s ≡ Ok after → Agree after next.variables
one_done text metrics now set next before after (Drops t) known agree word value e h =
    let x = both (type_of text before t) (λ dropped. Ok before) after h in
    subst (λ (types : Variables). Agree types next.variables) (ok_same before after x.2)
    (subst (Agree before) (ap (λ (end : Outcome). end.variables) (ok_same set next e)) agree)
one_done text metrics now set next before after (Sets p t) known agree word value e h =
    let x = both (type_of text before t) (typing.assigned text before p) after h in
    let type = kept text metrics now set before agree t known x.0 value x.1 in
    name_set text set next before after p known agree (setting_named (part text p))
    (found p (with_name set (part text p) (setting_named (part text p)) known) next e) (set_by text before after p known x.0 type x.2) word

-- statements, one after the other
all_done : (text : List ℕ) (metrics : Metrics) (now : ℕ) (set end : Outcome) (front : List StatementTree) (before after : Variables) →
    Reaches text metrics now set front end → Agree before set.variables → AreNamed text front → typed text before front ≡ Ok after → Agree after end.variables
all_done _ _ _ _ _ _ before after (there {set = set}) agree words e = subst (λ (types : Variables). Agree types set.variables) (ok_same before after e) agree
all_done _ _ _ _ _ _ before after
    (on {text = text} {metrics = metrics} {now = now} {set = set} {next = next} {end = end} {s = s} {ss = ss} known value done later) agree words e =
    let x = both (statement_typed text before s) (λ types. typed text types ss) after e in
    all_done text metrics now next end ss x.0 after later (one_done text metrics now set next before x.0 s known agree words.0 value done x.1) words.1 x.2

-- after the statements before
pub statements_kept : (text : List ℕ) (metrics : Metrics) (now : ℕ) (start : Targets) (set : Outcome) (variables : Variables)
    (front rest : List StatementTree) → IsFormula text (front ++ rest) → Reaches text metrics now (at_start start) front set →
    typed text nothing front ≡ Ok variables → Agree variables set.variables
statements_kept text metrics now start set variables front rest formula done e =
    all_done text metrics now (at_start start) set front nothing variables done agree_first
    (all_named text front rest (λ f r p t is. name_text text f r p t (subst (IsFormula text) is formula))) e

-- a setting gets values of its type
pub setting_kept : (text : List ℕ) (metrics : Metrics) (now : ℕ) (set : Outcome) (variables after : Variables) (p : Span) (t : Tree) (known : Value)
    (s : Setting) → Agree variables set.variables → value_of text metrics now set t ≡ Ok known → statement_typed text variables (Sets p t) ≡ Ok after →
    setting_named (part text p) ≡ Some s → setting_type s ≡ type_of_value known
setting_kept text metrics now set variables after p t known s agree value e is =
    let x = both (type_of text variables t) (typing.assigned text variables p) after e in
    let given = set_by text variables after p known x.0 (kept text metrics now set variables agree t known x.0 value x.1) x.2 in
    (set_again variables after p (part text p) (setting_type s) (type_of_value known)
    (ap (λ o. set_to variables p (part text p) (or_else (option_map setting_type o) (variables (part text p))) (typed_as known)) (sym is) ∙ given)).1
