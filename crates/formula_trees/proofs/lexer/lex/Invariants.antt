use Rattle.std.proofs.Common.{◌≡◌, ◌≤◌, ◌-◌, length, drop}
use Rattle.formula_trees.specs.Lexing.{prepended, lexed, tokens_in}
use Rattle.formula_trees.proofs.lexer.lex.Given as goal

abbrev pub invariant-pieces : goal.invariant-pieces
invariant-pieces l = record {
  within : l.at ≤ length l.bytes;
  so_far : lexed l.bytes ≡ prepended l.tokens.items (tokens_in (drop l.at l.bytes) 0 l.at);
}

abbrev pub decreases-pieces : goal.decreases-pieces
decreases-pieces l = length l.bytes - l.at
