-- What a keeper over a store knows after a read of it.
use Rattle.std.proofs.Common.{◌≡◌, ℕ, true, Option, Some, None, Result, Ok, refl, subst}
use Rattle.std.specs.Prelude.{IfSome, IsErrOf}
use Rattle.bt_rows.specs.State.{State}
use Rattle.batch_keeper.specs.declared.error.KeepError.{KeepError}
use Rattle.batch_keeper.specs.declared.error.KeepError.TheVariants.{Failed}
use Rattle.batch_keeper.specs.Told.{FailsWithCause}
use Rattle.keeper_store.specs.declared.content.Stored.{Stored}
use Rattle.store_keeper.specs.Found.{IsContentOf}
use Rattle.store_keeper.specs.Kept.{IsReadable}

-- what was read is the content of these tables, so that is what the store contains
pub found_is : (content : Option Stored) (stored : Stored) (s : State) → IfSome content (λ contained. stored ≡ contained) → IsContentOf stored s
    → IfSome content (λ contained. IsContentOf contained s)
found_is None stored s read c = tt
found_is (Some contained) stored s read c = subst (λ x. IsContentOf x s) read c

-- and the store contains tables
pub readable_is : (content : Option Stored) (s : State) → IfSome content (λ stored. IsContentOf stored s) → IsReadable true content
readable_is None s c = tt
readable_is (Some stored) s c = rw c.reading refl

ok_not_failed : {T : Type 0} (value : T) → IsErrOf (Ok value) Failed → ⊥
ok_not_failed value h = absurd (cc)

-- a call that answered `Ok`, after one that did
pub no_failure : {T R : Type 0} (value : T) (before now : ℕ) (result : Result R KeepError) → FailsWithCause before now result
    → FailsWithCause before now (Ok value)
no_failure value before now result cause = record { later = cause.later; failed = λ h. absurd (ok_not_failed value h) }
