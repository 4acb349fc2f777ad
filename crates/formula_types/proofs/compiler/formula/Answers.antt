use Rattle.std.proofs.Common.{sym, ap, ◌∙◌}
use Rattle.formula_trees.specs.View.{statements_of}
use Rattle.formula_types.specs.Compiled.{have_types}
use Rattle.formula_types.proofs.compiler.formula.Goals as goal

pub invariant_of-result : goal.invariant_of-result
invariant_of-result c =
    record {
      typed =
          ap (λ text. have_types text (statements_of c.args.statements.items)) c.in_ok-text.ensures
          ∙ ap (λ es. have_types c.args.text.now (statements_of es)) (sym c.deref.ensures.value)
          ∙ c.in_ok-types.ensures.typed;
    }
