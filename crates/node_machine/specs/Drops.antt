-- The changes that drop a node.
use Rattle.std.specs.Prelude.{ℕ, Bool, nat_eq, List, ◌∷◌}
use Rattle.bt_rows.specs.declared.tables.Change.{Change}
use Rattle.bt_rows.specs.declared.tables.Change.TheVariants.{DropNode}
use Rattle.batch_model.specs.Variants.{State, PrepRow}
use Rattle.row_changes.specs.Puts.{changes_where, prep_drop}

-- a preparation on the node
abbrev pub is_prep_on : ℕ → PrepRow → Bool
is_prep_on node prep = nat_eq prep.node node

-- the drops of its row and of the preparations on it
abbrev pub drop_changes : ℕ → State → List Change
drop_changes node s = DropNode node ∷ changes_where prep_drop (is_prep_on node) s.preps
