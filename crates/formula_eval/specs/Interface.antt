-- The names with which an evaluation is stated, so that a crate which states one stands on this one alone: metrics,
-- compiled formulas and the names of faults.
pub use Rattle.formula_trees.specs.Formula.{StatementTree}
pub use Rattle.formula_types.specs.Compiling.{compiled}
pub use Rattle.formula_values.specs.Faults.{fault_name}
pub use Rattle.formula_metrics.specs.declared.metrics.MetricPart.{MetricPart}
pub use Rattle.formula_metrics.specs.declared.metrics.Metrics.{Metrics}
