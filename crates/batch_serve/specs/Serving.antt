-- What the command `serve` leaves.
use Rattle.std.specs.Prelude.{◌≡◌, ◌≤◌, ◌⊎◌, ℕ, List, [], length, codes, Option, Some, None, IfSome, option_and_then}
use Rattle.byte_streams.specs.Content.{Gains, GainsFront}
use Rattle.batch_keeper.specs.declared.error.KeepError.{KeepError}
use Rattle.batch_keeper.specs.declared.error.KeepError.TheVariants.{Failed, Memory as NoMemory}
use Rattle.batch_model.specs.Opening.{opening}
use Rattle.batch_model.specs.Variants.{State}
use Rattle.batch_desk.specs.declared.journal.Journal.{Journal}
use Rattle.batch_desk.specs.History.{IsLegal, after_all, fault_count}
use Rattle.batch_desk.specs.Kept.{Tells}
use Rattle.batch_desk.specs.Laws.{KeepsLaws}
use Rattle.cli_words.specs.declared.command.Command.{Command}
use Rattle.cli_words.specs.declared.command.Command.TheVariants.{Replay, Calendar, Formula, Export, Drill, Serve}
use Rattle.cli_words.specs.declared.command.ServeOptions.{ServeOptions}
use Rattle.cli_words.specs.declared.command.Invocation.{Invocation}
use Rattle.counted_lock.specs.Passes.{LockIdentity}
use Rattle.shared_desk.specs.Openings.{Opening}
use Rattle.batch_serve.specs.declared.status.ServeStatus.{ServeStatus}
use Rattle.batch_serve.specs.declared.status.ServeStatus.TheVariants.{Memory, Usage, SinkFault, KeeperFault}
use Rattle.batch_serve.specs.declared.worker.Worker.{Worker}
use Rattle.batch_serve.specs.declared.worker.WorkerKind.{WorkerKind}
use Rattle.batch_serve.specs.Ends.{status_of}
use Rattle.batch_serve.specs.Works.{Parts, Works}
use Rattle.batch_serve.specs.Passes.{AllServe}

-- the line that says that the service listens
abbrev pub listening : List ℕ
listening = codes "listening\n"

-- the status of a service whose desk could not be opened
abbrev pub open_status : KeepError → ServeStatus
open_status Failed = KeeperFault
open_status NoMemory = Memory

-- the options of `serve`, if this is that command
abbrev pub options_in : Command → Option ServeOptions
options_in (Serve options) = Some options
options_in (Replay options) = None
options_in (Calendar options) = None
options_in (Formula options) = None
options_in Export = None
options_in (Drill count) = None

-- the options of `serve`, if the words are that command
abbrev pub serve_options : Option Invocation → Option ServeOptions
serve_options invocation = option_and_then (λ (i : Invocation). options_in i.command) invocation

-- the journal is that of a desk that was opened with these options over the tables of the keeper
pub record IsOpenedFor (options : ServeOptions) (told : Option State) (journal : Journal) : Type 0 where
  pub seats : journal.seats ≡ options.seats
  pub limit : journal.limit ≡ options.journal
  pub opened : IfSome told (λ s. journal.opened.state ≡ opening s)

-- The journal is a legal history from the opened tables, no longer than its limit, and keeps the laws of histories. The keeper tells the
-- tables after it, and counted each keeper fault in it.
pub record KeepsHistory {K : Type 0} (told : K → Option State) (faults : K → ℕ) (keeper : K) (journal : Journal) : Type 0 where
  pub within : length journal.entries ≤ journal.limit
  pub legal : IsLegal journal.seats journal.opened.state journal.entries
  pub laws : KeepsLaws journal.seats journal.opened.state journal.entries
  pub kept : Tells (told keeper) (after_all journal.seats journal.opened.state journal.entries)
  pub counted : fault_count journal.entries ≤ faults keeper

-- the shared desk was opened as the desk of the journal was
pub record IsDeskOf (journal : Journal) (desk : LockIdentity Opening) : Type 0 where
  pub opened : desk.origin.opened ≡ journal.opened.state
  pub seats : desk.origin.seats ≡ journal.seats
  pub limit : desk.origin.limit ≡ journal.limit

module _ {S P N L C : Type 0} (t : Parts S P N L C) (old new : List (Worker (WorkerKind S P N C L))) (before now : Option (List ℕ)) where
  -- How the service left its workers and what was written, by its status and its journal: no desk was opened, and nothing was written; or one
  -- was, no worker began, and a beginning of the line was written, perhaps nothing or all of it; or the line was written, each worker did
  -- its work with a pass of the shared desk under a number of its own, and all of them have ended.
  pub data IsServed : ServeStatus → Option Journal → Type 0 where
    unopened : (status : ServeStatus) → new ≡ old → now ≡ before → (status ≡ Memory) ⊎ ((status ≡ Usage) ⊎ (status ≡ KeeperFault)) → IsServed status None
    unshared : (status : ServeStatus) (journal : Journal) → new ≡ old → journal.entries ≡ [] → GainsFront before now listening → (status ≡ Memory) ⊎ (status ≡ SinkFault)
        → IsServed status (Some journal)
    served : (journal : Journal) (desk : LockIdentity Opening) → IsDeskOf journal desk → Gains before now listening
        → AllServe (λ l p w q v. Works l t p w q v) desk journal.entries old new → IsServed (status_of new) (Some journal)
