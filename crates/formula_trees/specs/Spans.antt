-- The parts of a text that tokens are.
use Rattle.formula_trees.specs.declared.token.Span.{Span}
use Rattle.formula_trees.specs.declared.token.Token.{Token}

-- the part that a token is
abbrev pub span_of : Token → Span
span_of t = record { from = t.from; to = t.to }
