-- Rows are at most as many as their places.
use Rattle.std.proofs.Common.{◌≤◌, List, [], ◌∷◌, Option, Some, None, length, arith}
use Rattle.kept_table.specs.Slots.{rows}

pub rows_few : {R : Type 0} (slots : List (Option R)) → length (rows slots) ≤ length slots
rows_few [] = omega arith
rows_few (None ∷ slots) = omega (arith, rows_few slots)
rows_few (Some row ∷ slots) = omega (arith, rows_few slots)
