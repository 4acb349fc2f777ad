-- The cause of a failure is that of another call that passes on the same error.
use Rattle.std.proofs.Common.{◌≡◌, ◌≤◌, ℕ, Result, Ok, Err, refl, ap, arith}
use Rattle.bt_base.specs.Causes.{Rose}
use Rattle.batch_keeper.specs.Told.{FailsWithCause}
use Rattle.batch_keeper.specs.declared.error.KeepError.{KeepError}
use Rattle.batch_keeper.specs.declared.error.KeepError.TheVariants.{Failed}

error_of : {U : Type 0} (e f : KeepError) (result : Result U KeepError) → result ≡ Err e → result ≡ Err f → e ≡ f
error_of e f result h k = cc

-- no failure
pub no_failure : {U : Type 0} (before now : ℕ) (value : U) → before ≤ now → FailsWithCause before now (Ok value)
no_failure before now value h = record { later = h; failed = λ e. absurd (cc) }

rose_before : (before middle now : ℕ) → before ≤ middle → Rose middle now → Rose before now
rose_before before middle now h r = omega arith

-- the count of faults was no higher before an earlier call
pub failed_after : {T U : Type 0} (before middle now : ℕ) (e : KeepError) → before ≤ middle → FailsWithCause {T = T} middle now (Err e)
    → FailsWithCause {T = U} before now (Err e)
failed_after before middle now e h cause =
    let l : middle ≤ now = cause.later in
    record { later = omega arith; failed = λ f. rose_before before middle now h (cause.failed (ap Err (error_of e Failed (Err e) refl f))) }
