-- Entries of a journal as they are stored: calls, and the refusals of those that were refused.
use Rattle.std.specs.Prelude.{◌≡◌, ◌+◌, ◌<◌, ◌≤◌, ℕ, List, [], ◌∷◌, map, length, slice_index_or, All, Some, None, Vec, vec_len, vec_capacity}
use Rattle.bt_rows.specs.declared.refusal.Refusal.{Refusal}
use Rattle.bt_rows.specs.declared.refusal.Refusal.TheVariants.{UnreadableBody}
use Rattle.batch_desk.specs.declared.entries.EntryRef.{EntryRef}
use Rattle.batch_desk.specs.declared.entries.Outcome.{Outcome}
use Rattle.batch_desk.specs.declared.entries.Outcome.TheVariants.{Made, Refused, KeeperFault as LeftUndone}
use Rattle.batch_desk.specs.declared.entries.StoredCall.{StoredCall}
use Rattle.batch_desk.specs.declared.entry.Entry.{Entry}
use Rattle.batch_desk.specs.declared.entry.Mark.{Mark}
use Rattle.batch_desk.specs.declared.entry.Mark.TheVariants.{Done, KeeperFault as NotKept}
use Rattle.batch_desk.specs.History.{fault_count, faults_of}

-- the entries, and how many more can be pushed without allocating
pub record EntriesView : Type 0 where
  pub items : List Entry
  pub room : ℕ

-- what became of a call, without its refusal
abbrev pub outcome_of : Mark → Outcome
outcome_of (Done None) = Made
outcome_of (Done (Some refusal)) = Refused
outcome_of NotKept = LeftUndone

-- the refusal of a call that was refused
abbrev pub refusals_in : Mark → List Refusal
refusals_in (Done None) = []
refusals_in (Done (Some refusal)) = refusal ∷ []
refusals_in NotKept = []

-- what became of a call, by its outcome and the refusal that is stored for it
abbrev pub mark_of : Outcome → Refusal → Mark
mark_of Made refusal = Done None
mark_of Refused refusal = Done (Some refusal)
mark_of LeftUndone refusal = NotKept

-- what became of a stored call, by all refusals
abbrev pub mark_at : List Refusal → StoredCall → Mark
mark_at refusals call = mark_of call.outcome (slice_index_or refusals call.refusal UnreadableBody)

-- the entry that a stored call is
abbrev pub stored_entry : List Refusal → StoredCall → Entry
stored_entry refusals call = record {
  moment = call.moment;
  event = call.event;
  mark = mark_at refusals call;
  dues = call.dues;
  stop = call.stop;
}

-- the entries that stored calls are
abbrev pub entries_of : List Refusal → List StoredCall → List Entry
entries_of refusals calls = map (stored_entry refusals) calls

-- the entry that is shown so
abbrev pub entry_of : EntryRef → Entry
entry_of e = record { moment = e.moment; event = e.event.now; mark = e.mark; dues = e.dues; stop = e.stop }

-- 1 if the call stopped at a keeper fault, whatever the refusals are
abbrev pub faults_at : StoredCall → ℕ
faults_at call = faults_of (stored_entry [] call)

-- how many of the calls did
abbrev pub faults_in : List StoredCall → ℕ
faults_in calls = fault_count (entries_of [] calls)

-- the refusal of the call, if it was refused, is one of so many
pub record HasRefusal (count : ℕ) (call : StoredCall) : Type 0 where
  pub there : call.outcome ≡ Refused → call.refusal < count

-- all refused calls have their refusals
abbrev pub HaveRefusals : List Refusal → List StoredCall → Type 0
HaveRefusals refusals calls = All (HasRefusal (length refusals)) calls

-- `room` more calls can be pushed without allocating
pub record HasRoom {X Y : Type 0} (calls : Vec StoredCall X) (refusals : Vec Refusal Y) (room : ℕ) : Type 0 where
  pub calls_room : vec_len calls + room ≤ vec_capacity calls
  pub refusals_room : vec_len refusals + room ≤ vec_capacity refusals
  pub within : vec_len refusals ≤ vec_len calls
  pub few : vec_len calls + room ≤ 4294967295
