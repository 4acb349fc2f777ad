-- What is found in a store.
use Rattle.std.specs.Prelude.{◌≡◌, ℕ, Option, Some, None}
use Rattle.bt_base.specs.Causes.{Rose}
use Rattle.bt_rows.specs.State.{State, StateWithRoom}
use Rattle.batch_model.specs.WellFormed.{IsWellFormed}
use Rattle.keeper_store.specs.declared.content.Stored.{Stored}
use Rattle.store_keeper.specs.Reading.{state_in}

-- the content is that of these tables, which are well formed
pub record IsContentOf (stored : Stored) (s : State) : Type 0 where
  pub reading : state_in stored ≡ Some s
  pub formed : IsWellFormed s

-- the tables are what the content is; none, if it is that of no well-formed tables
abbrev pub IsFound : Stored → Option StateWithRoom → Type 0
IsFound stored (Some tables) = IsContentOf stored tables.state
IsFound stored None = (s : State) → IsContentOf stored s → ⊥

-- the store's own count of faults rose, if what it contains is that of well-formed tables
abbrev pub IsStoreFault : Option Stored → ℕ → ℕ → Type 0
IsStoreFault None before now = Unit {0}
IsStoreFault (Some stored) before now = (s : State) → IsContentOf stored s → Rose before now
