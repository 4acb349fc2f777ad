-- What each status of `serve` says once a desk was opened, in the order in which they are tried: `ListenFault`, `Memory`, `JournalFull`, `Done`.
use Rattle.std.specs.Prelude.{◌≡◌, ◌<◌, ℕ, true, false, All, Any, List, [], length, slice_index_or, Option, Some, None, IsSome, IfSome}
use Rattle.bt_base.specs.Causes.{Rose}
use Rattle.batch_desk.specs.declared.journal.Journal.{Journal}
use Rattle.batch_serve.specs.declared.worker.Worker.{Worker}
use Rattle.batch_serve.specs.declared.worker.WorkerKind.{WorkerKind}
use Rattle.batch_serve.specs.declared.worker.WorkerKind.TheVariants as kind
use Rattle.batch_serve.specs.Ends.{has_failed, met_memory, met_full_journal}
use Rattle.batch_serve.specs.Works.{Parts}
use Rattle.batch_serve.specs.Promises.{HasEnded}

-- the elements of two lists at some place stand in a relation
pub record AtSome {A : Type 0} (r : A → A → Type 0) (old new : List A) : Type 0 where
  pub place : ℕ
  pub inside : place < length old
  pub stands : (d : A) → r (slice_index_or old place d) (slice_index_or new place d)

module _ {S P N C L : Type 0} where
  -- the worker is a door, and the count of faults of its listener rose
  abbrev pub ListenerRose : (N → ℕ) → WorkerKind S P N C L → WorkerKind S P N C L → Type 0
  ListenerRose faults (kind.Door old) (kind.Door new) = Rose (faults old.listener) (faults new.listener)
  ListenerRose faults old new = ⊥

  -- no listener failed
  abbrev pub NoneFailed : List (Worker (WorkerKind S P N C L)) → Type 0
  NoneFailed workers = All (λ (w : Worker (WorkerKind S P N C L)). has_failed w ≡ false) workers

  -- neither a lane, nor a timer, nor a connection ran out of memory
  abbrev pub NoneMetMemory : List (Worker (WorkerKind S P N C L)) → Type 0
  NoneMetMemory workers = All (λ (w : Worker (WorkerKind S P N C L)). met_memory w ≡ false) workers

  -- `ListenFault`: the workers worked, and the count of faults of a listener rose
  pub record SaysListenFault (faults : N → ℕ) (old new : List (Worker (WorkerKind S P N C L))) (left : Option Journal) : Type 0 where
    pub opened : IsSome left
    pub rose : AtSome (λ (a b : Worker (WorkerKind S P N C L)). ListenerRose faults a.kind b.kind) old new

  -- `Memory`: no desk was opened; or one was, but no worker began, and no call was made; or the workers worked and no listener failed, but a
  -- lane, a timer or a connection ran out of memory
  pub data SaysMemory (old new : List (Worker (WorkerKind S P N C L))) : Option Journal → Type 0 where
    no_desk : new ≡ old → SaysMemory old new None
    no_work : (journal : Journal) → new ≡ old → journal.entries ≡ [] → SaysMemory old new (Some journal)
    in_work : (journal : Journal) → NoneFailed new → Any (λ (w : Worker (WorkerKind S P N C L)). met_memory w ≡ true) new → SaysMemory old new (Some journal)

  -- `JournalFull`: the workers worked, no listener failed, and nothing ran out of memory, but a lane or a timer found the journal full. The
  -- journal has as many entries as its limit.
  pub record SaysJournalFull (new : List (Worker (WorkerKind S P N C L))) (left : Option Journal) : Type 0 where
    pub opened : IsSome left
    pub full : IfSome left (λ journal. length journal.entries ≡ journal.limit)
    pub found : Any (λ (w : Worker (WorkerKind S P N C L)). met_full_journal w ≡ true) new
    pub no_fault : NoneFailed new
    pub no_memory : NoneMetMemory new

  -- `Done`: the workers worked, and each ended because it was to end: each listener, and each clock of a lane or a timer, said so, and no
  -- connection ended because memory ran out
  pub record SaysDone (t : Parts S P N L C) (new : List (Worker (WorkerKind S P N C L))) (left : Option Journal) : Type 0 where
    pub opened : IsSome left
    pub ended : All (λ (w : Worker (WorkerKind S P N C L)). HasEnded t w.kind) new
