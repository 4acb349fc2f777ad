-- Choices among nodes.
use Rattle.std.specs.Prelude.{ℕ, Bool, ◌&&◌, ◌||◌, nat_eq, nat_lt, List, [], ◌∷◌, Option, Some, None, if◌then◌else◌}
use Rattle.bt_rows.specs.declared.pool.Fill.{Fill}
use Rattle.bt_rows.specs.declared.pool.Fill.TheVariants.{Spread, Pack}

module _ {R : Type 0} where
  -- the one that comes before the others, and the first of these if there are several
  abbrev pub best : (R → R → Bool) → List R → Option R
  best precedes [] = None
  best precedes (row ∷ rows) = better (best precedes rows)
    where
      better : Option R → Option R
      better None = Some row
      better (Some other) = if precedes other row then Some other else Some row

-- as many slots are held on both nodes, and the first has the lower number
abbrev pub is_lower : (held node other_held other_node : ℕ) → Bool
is_lower held node other_held other_node = nat_eq held other_held && nat_lt node other_node

-- the fill type prefers the node to the other: `spread` the one with fewer held slots, `pack` the one with more, and of two with as
-- many the one with the lower number
abbrev pub prefers : Fill → (held node other_held other_node : ℕ) → Bool
prefers Spread held node other_held other_node = nat_lt held other_held || is_lower held node other_held other_node
prefers Pack held node other_held other_node = nat_lt other_held held || is_lower held node other_held other_node
