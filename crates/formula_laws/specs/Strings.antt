-- The strings in a formula's text.
use Rattle.std.specs.Prelude.{◌≡◌, ℕ, ◌+◌, true, not, List, ◌∷◌, ◌++◌, length}
use Rattle.std.specs.List.{list_all}
use Rattle.formula_trees.specs.declared.token.Span.{Span}
use Rattle.formula_trees.specs.Pieces.{is_string_end}

-- this part of a text is a `"`, these bytes, of which none is a `"` or LF, and a `"`
pub record IsQuoted (text : List ℕ) (span : Span) (bytes : List ℕ) : Type 0 where
  pub before : List ℕ
  pub after : List ℕ
  pub splits : text ≡ before ++ 34 ∷ (bytes ++ 34 ∷ after)
  pub begins : span.from ≡ length before
  pub ends : span.to ≡ length before + 1 + length bytes + 1
  pub plain : list_all (λ b. not (is_string_end b)) bytes ≡ true
