-- What a service leaves, by how it went.
use Rattle.std.proofs.Common.{◌≡◌, ℕ, List, [], Option, Some, None, ◌⊎◌, inl, inr, append-nil, refl, sym, subst}
use Rattle.std.specs.Prelude.{IsSome, IfSome}
use Rattle.byte_streams.specs.Content.{Gains, GainsFront}
use Rattle.batch_keeper.specs.declared.error.KeepError.{KeepError}
use Rattle.batch_keeper.specs.declared.error.KeepError.TheVariants.{Failed, Memory as NoMemory}
use Rattle.batch_desk.specs.declared.journal.Journal.{Journal}
use Rattle.counted_lock.specs.Passes.{LockIdentity}
use Rattle.shared_desk.specs.Openings.{Opening}
use Rattle.batch_serve.specs.declared.status.ServeStatus.{ServeStatus}
use Rattle.batch_serve.specs.declared.status.ServeStatus.TheVariants.{Memory, Usage, SinkFault, KeeperFault}
use Rattle.batch_serve.specs.declared.worker.Worker.{Worker}
use Rattle.batch_serve.specs.declared.worker.WorkerKind.{WorkerKind}
use Rattle.batch_serve.specs.Ends.{status_of}
use Rattle.batch_serve.specs.Works.{Parts, Works}
use Rattle.batch_serve.specs.Passes.{AllServe}
use Rattle.batch_serve.specs.Serving.{listening, open_status, IsDeskOf, IsServed, unopened, unshared, served}

-- nothing of a text was written
pub front_none : (now : Option (List ℕ)) (text : List ℕ) → GainsFront now now text
front_none now text = record { front = []; rest = text; cut = refl; gained = gains_none now }
  where
    gains_none : (taken : Option (List ℕ)) → Gains taken taken []
    gains_none None = tt
    gains_none (Some bytes) = sym (append-nil bytes)

-- all of it was
pub front_all : (before now : Option (List ℕ)) (text : List ℕ) → Gains before now text → GainsFront before now text
front_all before now text gains = record { front = text; rest = []; cut = sym (append-nil text); gained = gains }

module _ {S P N L C : Type 0} (t : Parts S P N L C) (old new : List (Worker (WorkerKind S P N C L))) (before now : Option (List ℕ)) where
  -- no desk was opened
  pub unopened_is : (status : ServeStatus) (journal : Option Journal) → new ≡ old → now ≡ before → journal ≡ None
      → (status ≡ Memory) ⊎ ((status ≡ Usage) ⊎ (status ≡ KeeperFault)) → IsServed t old new before now status journal
  unopened_is status journal same unwritten none why = subst (λ (j : Option Journal). IsServed t old new before now status j) (sym none) (unopened status same unwritten why)

  -- no worker began
  pub unshared_is : (status : ServeStatus) (journal : Option Journal) → new ≡ old → IsSome journal → IfSome journal (λ j. j.entries ≡ [])
      → GainsFront before now listening → (status ≡ Memory) ⊎ (status ≡ SinkFault) → IsServed t old new before now status journal
  unshared_is status (Some journal) same some empty front why = unshared status journal same empty front why
  unshared_is status None same some empty front why = absurd (cc some)

  -- the workers worked
  pub served_is : (status : ServeStatus) (journal : Journal) (desk : LockIdentity Opening) → status ≡ status_of new → IsDeskOf journal desk
      → Gains before now listening → AllServe (λ l p w q v. Works l t p w q v) desk journal.entries old new → IsServed t old new before now status (Some journal)
  served_is status journal desk is opened gains each =
      subst (λ (z : ServeStatus). IsServed t old new before now z (Some journal)) (sym is) (served journal desk opened gains each)

-- why no desk was opened
pub open_why : (e : KeepError) → (open_status e ≡ Memory) ⊎ ((open_status e ≡ Usage) ⊎ (open_status e ≡ KeeperFault))
open_why Failed = inr (inr refl)
open_why NoMemory = inl refl

pub open_fault : (e : KeepError) → open_status e ≡ KeeperFault → e ≡ Failed
open_fault Failed is = refl
open_fault NoMemory is = absurd (cc is)

pub open_usage : (e : KeepError) → open_status e ≡ Usage → ⊥
open_usage Failed is = cc is
open_usage NoMemory is = cc is

pub open_sink : (e : KeepError) → open_status e ≡ SinkFault → ⊥
open_sink Failed is = cc is
open_sink NoMemory is = cc is
