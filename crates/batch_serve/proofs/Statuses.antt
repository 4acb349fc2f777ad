-- What each status of a service says, from how it left its workers.
use Rattle.std.proofs.Common.{◌≡◌, ℕ, ◌<◌, ◌≤◌, Bool, true, false, List, length, get_or, Option, Some, None, ◌⊎◌, inl, inr, refl, sym, ap, subst, ◌∙◌}
use Rattle.std.proofs.Common.{length-append, arith}
use Rattle.std.specs.Prelude.{IfSome, if◌then◌else◌}
use Rattle.std.specs.List.{list_any}
use Rattle.std.specs.Option.{option_map_or}
use Rattle.std.proofs.lemmas.List.Folds.{Any-from_list_any}
use lib.ListN.{length-map}
use mathlib.Core.List.{IsPrefix}
use Rattle.batch_model.specs.Variants.{State}
use Rattle.batch_desk.specs.declared.entry.Entry.{Entry}
use Rattle.batch_desk.specs.declared.journal.Journal.{Journal}
use Rattle.counted_lock.specs.declared.views.Stamped.{Stamped}
use Rattle.counted_lock.specs.Passes.{LockIdentity}
use Rattle.batch_http.specs.declared.doors.DoorEnd.{DoorEnd}
use Rattle.shared_desk.specs.Openings.{Opening}
use Rattle.shared_desk.specs.Sharing.{Caller, calls_of}
use Rattle.batch_crew.specs.declared.cut.LaneEnd.{LaneEnd}
use Rattle.batch_crew.specs.declared.cut.LaneEnd.TheVariants as end
use Rattle.batch_serve.specs.declared.status.ServeStatus.{ServeStatus}
use Rattle.batch_serve.specs.declared.status.ServeStatus.TheVariants.{Done, Memory, Usage, ListenFault, SinkFault, KeeperFault, JournalFull}
use Rattle.batch_serve.specs.declared.worker.Worker.{Worker}
use Rattle.batch_serve.specs.declared.worker.WorkerKind.{WorkerKind}
use Rattle.batch_serve.specs.declared.worker.WorkerKind.TheVariants as kind
use Rattle.batch_serve.specs.Ends.{is_full, kind_failed, kind_full, has_failed, met_memory, met_full_journal}
use Rattle.batch_serve.specs.Works.{Parts, Works}
use Rattle.batch_serve.specs.Passes.{AllServe}
use Rattle.batch_serve.specs.Serving.{IsDeskOf, KeepsHistory, IsServed, unopened, unshared, served}
use Rattle.batch_serve.specs.Statuses.{AtSome, ListenerRose, SaysListenFault, SaysMemory, no_desk, no_work, in_work, SaysJournalFull, SaysDone}
use Rattle.batch_serve.proofs.Journals.{stands_in}
use Rattle.batch_serve.proofs.Loops.{get_or_any}
use Rattle.batch_serve.proofs.Promises.{none_passes, all_worked}

-- the tests that the status is made of, by the status
failed_from : (failed memory full : Bool) → (if failed then ListenFault else (if memory then Memory else (if full then JournalFull else Done))) ≡ ListenFault
    → failed ≡ true
failed_from true memory full is = refl
failed_from false true full is = absurd (cc is)
failed_from false false true is = absurd (cc is)
failed_from false false false is = absurd (cc is)

memory_from : (failed memory full : Bool) → (if failed then ListenFault else (if memory then Memory else (if full then JournalFull else Done))) ≡ Memory
    → (failed ≡ false) × (memory ≡ true)
memory_from true memory full is = absurd (cc is)
memory_from false true full is = (refl, refl)
memory_from false false true is = absurd (cc is)
memory_from false false false is = absurd (cc is)

full_from : (failed memory full : Bool) → (if failed then ListenFault else (if memory then Memory else (if full then JournalFull else Done))) ≡ JournalFull
    → (failed ≡ false) × ((memory ≡ false) × (full ≡ true))
full_from true memory full is = absurd (cc is)
full_from false true full is = absurd (cc is)
full_from false false true is = (refl, (refl, refl))
full_from false false false is = absurd (cc is)

-- a status of a service that began no worker is none of these
module _ (status : ServeStatus) where
  early_listen : (status ≡ Memory) ⊎ ((status ≡ Usage) ⊎ (status ≡ KeeperFault)) → status ≡ ListenFault → ⊥
  early_listen (inl why) is = cc (why, is)
  early_listen (inr (inl why)) is = cc (why, is)
  early_listen (inr (inr why)) is = cc (why, is)

  early_full : (status ≡ Memory) ⊎ ((status ≡ Usage) ⊎ (status ≡ KeeperFault)) → status ≡ JournalFull → ⊥
  early_full (inl why) is = cc (why, is)
  early_full (inr (inl why)) is = cc (why, is)
  early_full (inr (inr why)) is = cc (why, is)

  early_done : (status ≡ Memory) ⊎ ((status ≡ Usage) ⊎ (status ≡ KeeperFault)) → status ≡ Done → ⊥
  early_done (inl why) is = cc (why, is)
  early_done (inr (inl why)) is = cc (why, is)
  early_done (inr (inr why)) is = cc (why, is)

  idle_listen : (status ≡ Memory) ⊎ (status ≡ SinkFault) → status ≡ ListenFault → ⊥
  idle_listen (inl why) is = cc (why, is)
  idle_listen (inr why) is = cc (why, is)

  idle_full : (status ≡ Memory) ⊎ (status ≡ SinkFault) → status ≡ JournalFull → ⊥
  idle_full (inl why) is = cc (why, is)
  idle_full (inr why) is = cc (why, is)

  idle_done : (status ≡ Memory) ⊎ (status ≡ SinkFault) → status ≡ Done → ⊥
  idle_done (inl why) is = cc (why, is)
  idle_done (inr why) is = cc (why, is)

-- an end that found the journal full
full_is : (why : LaneEnd) (told : Option LaneEnd) → told ≡ Some why → option_map_or is_full told false ≡ true → why ≡ end.JournalFull
full_is end.Ended told is full = absurd (cc (sym (ap (λ e. option_map_or is_full e false) is) ∙ full))
full_is end.JournalFull told is full = refl
full_is end.Memory told is full = absurd (cc (sym (ap (λ e. option_map_or is_full e false) is) ∙ full))

-- what begins a list is no longer than it
shorter : {A : Type 0} (xs ys : List A) → IsPrefix xs ys → length xs ≤ length ys
shorter xs ys p = subst (λ zs. length xs ≤ length zs) p.1 (let n = length-append xs p.0 in omega arith)

-- calls without numbers are as many as with them
calls_length : (h : List (Stamped Entry)) → length (calls_of h) ≡ length h
calls_length h = length-map h _

-- a journal that is left is no longer than its limit
pub within_limit : {K : Type 0} (told : K → Option State) (faults : K → ℕ) (keeper : K) (left : Option Journal)
    → IfSome left (λ journal. KeepsHistory told faults keeper journal) → IfSome left (λ journal. length journal.entries ≤ journal.limit)
within_limit told faults keeper (Some journal) kept = kept.within
within_limit told faults keeper None kept = tt

-- a journal that has all that was seen of a full history is full
full_journal : (seen : List (Stamped Entry)) (journal : Journal) (limit : ℕ) → IsPrefix (calls_of seen) journal.entries → length seen ≡ limit
    → limit ≡ journal.limit → length journal.entries ≤ journal.limit → length journal.entries ≡ journal.limit
full_journal seen journal limit begins many same within =
    let a = shorter (calls_of seen) journal.entries begins in let b = calls_length seen in omega arith

module _ {S P N L C : Type 0} (t : Parts S P N L C) (desk : LockIdentity Opening) (p q : Caller) where
  listener_rose : (old new : WorkerKind S P N C L) → Works desk t p old q new → kind_failed new ≡ true → ListenerRose t.listener.faults old new
  listener_rose (kind.Lane old) (kind.Lane new) work failed = absurd (cc failed)
  listener_rose (kind.Lane old) (kind.Timer new) work failed = absurd work
  listener_rose (kind.Lane old) (kind.Door new) work failed = absurd work
  listener_rose (kind.Timer old) (kind.Lane new) work failed = absurd work
  listener_rose (kind.Timer old) (kind.Timer new) work failed = absurd (cc failed)
  listener_rose (kind.Timer old) (kind.Door new) work failed = absurd work
  listener_rose (kind.Door old) (kind.Lane new) work failed = absurd work
  listener_rose (kind.Door old) (kind.Timer new) work failed = absurd work
  listener_rose (kind.Door old) (kind.Door new) work failed =
      work.failed (sym (ap (λ e. option_map_or (λ (d : DoorEnd). d.failed) e false) work.told) ∙ failed)

  found_full : (old new : WorkerKind S P N C L) → Works desk t p old q new → kind_full new ≡ true → length q.seen ≡ desk.origin.limit
  found_full (kind.Lane old) (kind.Lane new) work full = work.cause.full (full_is work.why new.end work.told full)
  found_full (kind.Lane old) (kind.Timer new) work full = absurd work
  found_full (kind.Lane old) (kind.Door new) work full = absurd work
  found_full (kind.Timer old) (kind.Lane new) work full = absurd work
  found_full (kind.Timer old) (kind.Timer new) work full = work.cause.full (full_is work.why new.end work.told full)
  found_full (kind.Timer old) (kind.Door new) work full = absurd work
  found_full (kind.Door old) (kind.Lane new) work full = absurd work
  found_full (kind.Door old) (kind.Timer new) work full = absurd work
  found_full (kind.Door old) (kind.Door new) work full = absurd (cc full)

module _ {S P N L C : Type 0} (t : Parts S P N L C) (old new : List (Worker (WorkerKind S P N C L))) where
  abbrev Worked : LockIdentity Opening → Journal → Type 0
  Worked desk journal = AllServe (λ l p w q v. Works l t p w q v) desk journal.entries old new

  -- a worker that passes a test is at a place at which it worked
  place_in : (desk : LockIdentity Opening) (journal : Journal) (test : Worker (WorkerKind S P N C L) → Bool) → Worked desk journal → list_any test new ≡ true
      → (k : ℕ) × (k < length old) × ((d : Worker (WorkerKind S P N C L)) → test (get_or new k d) ≡ true)
  place_in desk journal test works some =
      let one = Any-from_list_any test new some in let count = works.count in let inside = one.2 in
      (one.0, omega arith, λ d. ap test (get_or_any new one.0 d one.1 inside ∙ one.3) ∙ one.4)

  some_rose : (desk : LockIdentity Opening) (journal : Journal) → Worked desk journal → list_any has_failed new ≡ true
      → AtSome (λ a b. ListenerRose t.listener.faults a.kind b.kind) old new
  some_rose desk journal works some = let at = place_in desk journal has_failed works some in record {
    place = at.0;
    inside = at.1;
    stands = λ d. let one = works.each at.0 d at.1 in
        listener_rose t desk one.before one.after (get_or old at.0 d).kind (get_or new at.0 d).kind one.work (at.2 d);
  }

  is_full_journal : (desk : LockIdentity Opening) (journal : Journal) → Worked desk journal → IsDeskOf journal desk → length journal.entries ≤ journal.limit
      → list_any met_full_journal new ≡ true → length journal.entries ≡ journal.limit
  is_full_journal desk journal works opened within some =
      let at = place_in desk journal met_full_journal works some in let d = (Any-from_list_any met_full_journal new some).1 in
      let one = works.each at.0 d at.1 in
      let stands = stands_in one.after.seen works.history journal.entries works.journal one.stands in
      full_journal one.after.seen journal desk.origin.limit stands
      (found_full t desk one.before one.after (get_or old at.0 d).kind (get_or new at.0 d).kind one.work (at.2 d)) opened.limit within

  pub listen_says : (before now : Option (List ℕ)) {status : ServeStatus} {left : Option Journal} → IsServed t old new before now status left
      → status ≡ ListenFault → SaysListenFault t.listener.faults old new left
  listen_says before now (unopened status same unwritten why) is = absurd (early_listen status why is)
  listen_says before now (unshared status journal same empty front why) is = absurd (idle_listen status why is)
  listen_says before now (served journal desk opened gains works) is = record {
    opened = refl;
    rose = some_rose desk journal works (failed_from (list_any has_failed new) (list_any met_memory new) (list_any met_full_journal new) is);
  }

  pub memory_says : (before now : Option (List ℕ)) {status : ServeStatus} {left : Option Journal} → IsServed t old new before now status left
      → status ≡ Memory → SaysMemory old new left
  memory_says before now (unopened status same unwritten why) is = no_desk same
  memory_says before now (unshared status journal same empty front why) is = no_work journal same empty
  memory_says before now (served journal desk opened gains works) is =
      let tests = memory_from (list_any has_failed new) (list_any met_memory new) (list_any met_full_journal new) is in
      in_work journal (none_passes has_failed new tests.0) (Any-from_list_any met_memory new tests.1)

  pub full_says : (before now : Option (List ℕ)) {status : ServeStatus} {left : Option Journal} → IsServed t old new before now status left
      → IfSome left (λ journal. length journal.entries ≤ journal.limit) → status ≡ JournalFull → SaysJournalFull new left
  full_says before now (unopened status same unwritten why) within is = absurd (early_full status why is)
  full_says before now (unshared status journal same empty front why) within is = absurd (idle_full status why is)
  full_says before now (served journal desk opened gains works) within is =
      let tests = full_from (list_any has_failed new) (list_any met_memory new) (list_any met_full_journal new) is in record {
        opened = refl;
        full = is_full_journal desk journal works opened within tests.1.1;
        found = Any-from_list_any met_full_journal new tests.1.1;
        no_fault = none_passes has_failed new tests.0;
        no_memory = none_passes met_memory new tests.1.0;
      }

  pub done_says : (before now : Option (List ℕ)) {status : ServeStatus} {left : Option Journal} → IsServed t old new before now status left
      → status ≡ Done → SaysDone t new left
  done_says before now (unopened status same unwritten why) is = absurd (early_done status why is)
  done_says before now (unshared status journal same empty front why) is = absurd (idle_done status why is)
  done_says before now (served journal desk opened gains works) is =
      record { opened = refl; ended = (all_worked t old new desk journal works).ended is }
