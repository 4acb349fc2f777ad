-- A keeper over a store.
use Rattle.std.specs.Prelude.{◌≡◌, ℕ, Bool, true, false, Option, Some, None, is_some}
use Rattle.keeper_store.specs.declared.content.Stored.{Stored}
use Rattle.store_keeper.specs.Reading.{state_in}

-- the store, the count of the keeper's own faults, and whether the store was read with success
pub record StoreKeeper (S : Type 0) : Type 0 where
  pub store : S
  pub faults : ℕ
  pub is_read : Bool

-- if the store was read with success, what it contains, if that is visible, is tables
abbrev pub IsReadable : Bool → Option Stored → Type 0
IsReadable false content = Unit {0}
IsReadable true None = Unit {0}
IsReadable true (Some stored) = is_some (state_in stored) ≡ true
