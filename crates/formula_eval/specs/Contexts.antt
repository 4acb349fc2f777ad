-- Values in a context: of a text, with these metrics, at this moment, and if this is set.
use Rattle.std.specs.Prelude.{List, Option, Result}
use Rattle.formula_trees.specs.declared.token.Span.{Span}
use Rattle.formula_trees.specs.declared.token.BinaryOperator.{BinaryOperator}
use Rattle.formula_trees.specs.Tree.{Tree, Trees}
use Rattle.bt_base.specs.declared.pool_metric.Metric.{Metric}
use Rattle.formula_trees.specs.Names.{method_named}
use Rattle.formula_types.specs.Scopes.{part}
use Rattle.formula_values.specs.declared.value.Value.{Value}
use Rattle.formula_eval.specs.declared.fault.Interrupt.{Interrupt}
use Rattle.formula_eval.specs.declared.context.EvalContext.{EvalContext}
use Rattle.formula_eval.specs.Names.{name_value}
use Rattle.formula_eval.specs.Evaluation.{at, method_at, value_of, values_of}
use Rattle.formula_eval.specs.Walks.{call_value, list_value, method_value, right_value, node_value}

-- the value of an expression
abbrev pub value_in : EvalContext → Tree → Result Value Interrupt
value_in context t = value_of context.text.now context.metrics.now context.now context.set.now t

-- the values of arguments or items
abbrev pub values_in : EvalContext → Trees → Result (List Value) Interrupt
values_in context ts = values_of context.text.now context.metrics.now context.now context.set.now ts

-- the value of a node from that of its first operand
abbrev pub node_in : EvalContext → Tree → Value → Result Value Interrupt
node_in context t first = node_value context.text.now context.metrics.now context.now context.set.now t first

-- a function of these arguments
abbrev pub call_in : EvalContext → Span → Trees → Result Value Interrupt
call_in context p args = call_value context.text.now context.metrics.now context.now context.set.now p args

-- a vector of these items
abbrev pub list_in : EvalContext → Trees → Result Value Interrupt
list_in context items = list_value context.text.now context.metrics.now context.now context.set.now items

-- a method of a metric with these arguments
abbrev pub method_in : EvalContext → Span → Option Metric → Trees → Result Value Interrupt
method_in context p metric args = method_value context.text.now context.metrics.now context.now context.set.now p metric args

-- a binary operator whose left side does not decide
abbrev pub right_in : EvalContext → BinaryOperator → Span → Value → Tree → Result Value Interrupt
right_in context o p left r = right_value context.text.now context.metrics.now context.now context.set.now o p left r

-- a name alone
abbrev pub name_in : EvalContext → Span → Result Value Interrupt
name_in context p = at p (name_value context.metrics.now context.set.now (part context.text.now p))

-- a method of a metric, with arguments of these values
abbrev pub method_of_values : EvalContext → Span → Option Metric → List Value → Result Value Interrupt
method_of_values context p metric values = method_at context.metrics.now context.now p metric (method_named (part context.text.now p)) values
