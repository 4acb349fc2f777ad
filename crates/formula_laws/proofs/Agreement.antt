-- Variables with types and variables with values stay together, and a name's value has the name's type.
use Rattle.std.proofs.Common.{◌≡◌, ℕ, Bool, true, false, cond, List, [], ◌∷◌, Option, Some, None, Result, Ok, Err, is_some, refl, sym, ap, ◌∙◌}
use Rattle.std.specs.Prelude.{◌||◌, ℤ, pos, codes, option_map, bytes_eq}
use Rattle.std.specs.Cmp.Lexicographic.{bytes_decides}
use Rattle.bt_base.specs.declared.dealloc_option.Dealloc.{Dealloc}
use Rattle.bt_base.specs.declared.pool_metric.Metric.{Metric}
use Rattle.formula_trees.specs.declared.names.Setting.{Setting}
use Rattle.formula_trees.specs.declared.names.Setting.TheVariants.{DedicatedNodes, LowPriorityNodes, Deallocation}
use Rattle.formula_trees.specs.declared.value_types.ValueType.{ValueType}
use Rattle.formula_trees.specs.declared.value_types.ValueType.TheVariants as types
use Rattle.formula_trees.specs.Names.{metric_named, interval_named, is_option_word, setting_named, setting_type, fixed_type}
use Rattle.formula_types.specs.Scopes.{Variables, nothing, or_else, name_type, with_variable}
use Rattle.formula_values.specs.declared.fault.ValueFault.{ValueFault}
use Rattle.formula_values.specs.declared.fault.ValueFault.TheVariants.{TimeOutOfRange}
use Rattle.formula_values.specs.declared.value.Value.{Value}
use Rattle.formula_values.specs.declared.value.Value.TheVariants.{TimeInterval}
use Rattle.formula_values.specs.Times.{is_interval}
use Rattle.formula_values.specs.Values.{no_value, interval_value}
use Rattle.formula_metrics.specs.declared.metrics.Metrics.{Metrics}
use Rattle.formula_metrics.specs.Methods.{value_or_none}
use Rattle.formula_metrics.specs.Parts.{part_of}
use Rattle.formula_eval.specs.declared.outcome.Variable.{Variable}
use Rattle.formula_eval.specs.declared.outcome.Outcome.{Outcome}
use Rattle.formula_eval.specs.Names.{metric_or, interval_or, word_or, setting_or, variable_or, setting_value, name_value}
use Rattle.bt_base.specs.DeallocOptions.{option_named}
use Rattle.formula_eval.specs.Outcomes.{value_among, with_value}
use Rattle.formula_laws.specs.ValueTypes.{type_of_value, Agree}

-- no variable has a type, and none has a value
pub agree_first : Agree nothing []
agree_first name = refl

module _ (name : List ℕ) (known : Value) where
  -- the values of all names once one is set
  value_set : (variables : List Variable) (any : List ℕ) →
      value_among (with_value variables name known) any ≡ cond (bytes_eq name any) (Some known) (value_among variables any)
  value_set [] any = refl
  value_set (variable ∷ variables) any = either (bytes_eq variable.name name) refl (value_set variables any)
    where
      later : (o n : Bool) (v : Value) (rest next : Option Value) → next ≡ cond n (Some known) rest → (o ≡ true → n ≡ true → ⊥) →
          cond o (Some v) next ≡ cond n (Some known) (cond o (Some v) rest)
      later true true v rest next e none = absurd (none refl refl)
      later true false v rest next e none = refl
      later false n v rest next e none = e

      here : (o n : Bool) (v : Value) (rest : Option Value) → o ≡ n → cond n (Some known) rest ≡ cond n (Some known) (cond o (Some v) rest)
      here true true v rest e = refl
      here false false v rest e = refl
      here true false v rest e = cc
      here false true v rest e = cc

      either : (b : Bool) → bytes_eq variable.name name ≡ b →
          value_among (with_value variables name known) any ≡ cond (bytes_eq name any) (Some known) (value_among variables any) →
          value_among (cond b (record { name = name; value = known } ∷ variables) (variable ∷ with_value variables name known)) any
          ≡ cond (bytes_eq name any) (Some known) (cond (bytes_eq variable.name any) (Some variable.value) (value_among variables any))
      either true e rest = here (bytes_eq variable.name any) (bytes_eq name any) variable.value (value_among variables any)
          (ap (λ bytes. bytes_eq bytes any) ((bytes_decides variable.name name).0 e))
      either false e rest = later (bytes_eq variable.name any) (bytes_eq name any) variable.value (value_among variables any) _ rest
          (λ one two. let same : variable.name ≡ name = (bytes_decides variable.name any).0 one ∙ sym ((bytes_decides name any).0 two) in
          let told : bytes_eq variable.name name ≡ true = (bytes_decides variable.name name).1 same in cc)

  -- a name that has a value for the first time, or one of another type
  pub agree_set : (set : Variables) (variables : List Variable) (value : ValueType) → Agree set variables → type_of_value known ≡ value →
      Agree (with_variable set name value) (with_value variables name known)
  agree_set set variables value h e any = ap (option_map type_of_value) (value_set variables any) ∙ either (bytes_eq name any)
    where
      either : (b : Bool) → option_map type_of_value (cond b (Some known) (value_among variables any)) ≡ cond b (Some value) (set any)
      either true = ap Some e
      either false = h any

  -- a name that has a value of the type that it had
  pub agree_kept : (set : Variables) (variables : List Variable) → Agree set variables → set name ≡ Some (type_of_value known) →
      Agree set (with_value variables name known)
  agree_kept set variables h e any = ap (option_map type_of_value) (value_set variables any) ∙ either (bytes_eq name any) refl
    where
      either : (b : Bool) → bytes_eq name any ≡ b → option_map type_of_value (cond b (Some known) (value_among variables any)) ≡ set any
      either true is = sym e ∙ ap set ((bytes_decides name any).0 is)
      either false is = h any

-- the words of the options are those that name one
words_named : (name : List ℕ) → is_option_word name ≡ is_some (option_named name)
unfolding is_option_word
words_named name = refl

-- the type of a result, if there is a value
type_given : ValueType → Result Value ValueFault → ValueType
type_given other (Ok known) = type_of_value known
type_given other (Err why) = other

-- a metric's value now is a double
metric_value : (o : Option ℤ) (v : Value) → value_or_none o ≡ Ok v → types.Double ≡ type_of_value v
unfolding type_given
metric_value None v e = ap (type_given types.Double) e
metric_value (Some n) v e = ap (type_given types.Double) e

-- a timeinterval, in units of 100 ns
interval_given : (n : ℤ) (v : Value) → interval_value n ≡ Ok v → types.TimeInterval ≡ type_of_value v
unfolding type_given
interval_given n v e = either (is_interval n) e
  where
    either : (b : Bool) → cond b (Ok (TimeInterval n)) (Err TimeOutOfRange) ≡ Ok v → types.TimeInterval ≡ type_of_value v
    either true e = ap (type_given types.TimeInterval) e
    either false e = ap (type_given types.TimeInterval) e

module _ (metrics : Metrics) (o : Outcome) (v : Value) (type : ValueType) where
  setting_kept : (s : Setting) → Some (setting_type s) ≡ Some type → ◌≡◌ {A = Result Value ValueFault} (Ok (setting_value o s)) (Ok v) → type ≡ type_of_value v
  unfolding type_given
  setting_kept DedicatedNodes t e = let same : types.Double ≡ type = cc in sym same ∙ ap (type_given types.Double) e
  setting_kept LowPriorityNodes t e = let same : types.Double ≡ type = cc in sym same ∙ ap (type_given types.Double) e
  setting_kept Deallocation t e = let same : types.Text ≡ type = cc in sym same ∙ ap (type_given types.Text) e

  -- a name's value by what the name is, and the type by the same
  by_parts : (m : Option Metric) (i : Option ℕ) (w : Option Dealloc) (s : Option Setting) (own : Option ValueType) (value : Option Value) →
      option_map type_of_value value ≡ own →
      metric_or metrics m (interval_or i (word_or w (setting_or o s (variable_or value no_value)))) ≡ Ok v →
      or_else (cond (is_some m) (Some types.Double)
      (cond (is_some i) (Some types.TimeInterval) (cond (is_some w) (Some types.Text) (option_map setting_type s)))) own ≡ Some type →
      type ≡ type_of_value v
  unfolding type_given
  by_parts (Some m) i w s own value h e t = let same : types.Double ≡ type = cc in sym same ∙ metric_value (part_of metrics m).current v e
  by_parts None (Some n) w s own value h e t = let same : types.TimeInterval ≡ type = cc in sym same ∙ interval_given (pos n) v e
  by_parts None None (Some w) s own value h e t = let same : types.Text ≡ type = cc in sym same ∙ ap (type_given types.Text) e
  by_parts None None None (Some s) own value h e t = setting_kept s t e
  by_parts None None None None own (Some known) h e t = let same : type_of_value known ≡ type = cc in sym same ∙ ap (type_given types.Text) e
  by_parts None None None None own None h e t = cc

  -- the value of a name has the name's type
  pub name_kept : (set : Variables) (name : List ℕ) → Agree set o.variables → name_value metrics o name ≡ Ok v → name_type set name ≡ Some type →
      type ≡ type_of_value v
  unfolding fixed_type
  name_kept set name h e t =
      by_parts (metric_named name) (interval_named name) (option_named name) (setting_named name) (set name) (value_among o.variables name) (h name) e
      (ap (λ b. or_else (cond (is_some (metric_named name)) (Some types.Double)
      (cond (is_some (interval_named name)) (Some types.TimeInterval) (cond b (Some types.Text) (option_map setting_type (setting_named name)))))
      (set name)) (sym (words_named name)) ∙ t)
