-- What a service promises of its workers, from how it left them.
use Rattle.std.proofs.Common.{◌≡◌, ℕ, ◌<◌, Bool, true, false, List, [], length, get_or, Option, Some, ◌⊎◌, inl, inr, refl, sym, ap, subst, ◌∙◌, arith}
use Rattle.std.specs.Prelude.{All, IfSome, if◌then◌else◌}
use Rattle.std.specs.List.{list_any}
use Rattle.std.specs.Option.{option_map_or}
use Rattle.std.proofs.lemmas.List.Elements.{All-nil}
use Rattle.std.proofs.lemmas.List.Folds.{list_any_at}
use mathlib.Core.List.{IsPrefix}
use Rattle.batch_desk.specs.declared.entry.Entry.{Entry}
use Rattle.batch_desk.specs.declared.journal.Journal.{Journal}
use Rattle.counted_lock.specs.Passes.{LockIdentity}
use Rattle.batch_http.specs.declared.doors.DoorEnd.{DoorEnd}
use Rattle.shared_desk.specs.Openings.{Opening}
use Rattle.shared_desk.specs.Sharing.{Caller, calls_of}
use Rattle.batch_crew.specs.declared.cut.LaneEnd.{LaneEnd}
use Rattle.batch_crew.specs.declared.cut.LaneEnd.TheVariants as end
use Rattle.batch_crew.specs.Journals.{RunsStand, none}
use Rattle.batch_crew.specs.Lanes.{RanFor}
use Rattle.batch_crew.specs.Timers.{RunsTimer}
use Rattle.batch_crew.proofs.FirstTicks.{timer_ticks}
use Rattle.batch_crew.proofs.GivenRuns.{lane_stands}
use Rattle.batch_serve.specs.declared.status.ServeStatus.{ServeStatus}
use Rattle.batch_serve.specs.declared.status.ServeStatus.TheVariants.{Done, Memory, ListenFault, SinkFault, JournalFull}
use Rattle.batch_serve.specs.declared.worker.Worker.{Worker}
use Rattle.batch_serve.specs.declared.worker.WorkerKind.{WorkerKind}
use Rattle.batch_serve.specs.declared.worker.WorkerKind.TheVariants as kind
use Rattle.batch_serve.specs.Ends.{is_memory, is_full, kind_failed, kind_memory, kind_full, has_failed, met_memory, met_full_journal, status_of}
use Rattle.batch_serve.specs.Works.{Parts, Works}
use Rattle.batch_serve.specs.Passes.{AllServe}
use Rattle.batch_serve.specs.Promises.{KeepsRuns, HasEnded, HasTicked, KeepsPromises}
use Rattle.batch_serve.proofs.Journals.{stands_in}
use Rattle.batch_serve.specs.Serving.{IsServed, unopened, unshared, served}

-- the tests that the status is made of, if it is `Done`
done_from : (failed memory full : Bool) → (if failed then ListenFault else (if memory then Memory else (if full then JournalFull else Done))) ≡ Done
    → (failed ≡ false) × ((memory ≡ false) × (full ≡ false))
done_from true memory full is = absurd (cc is)
done_from false true full is = absurd (cc is)
done_from false false true is = absurd (cc is)
done_from false false false is = (refl, (refl, refl))

not_done : (status : ServeStatus) → (status ≡ Memory) ⊎ (status ≡ SinkFault) → status ≡ Done → ⊥
not_done status (inl why) is = cc (why, is)
not_done status (inr why) is = cc (why, is)

-- no element passes a test that none passes
pub none_passes : {A : Type 0} (test : A → Bool) (xs : List A) → list_any test xs ≡ false → All (λ x. test x ≡ false) xs
none_passes test xs fails k d lt = by_case (test (get_or xs k d)) refl
  where
    by_case : (b : Bool) → test (get_or xs k d) ≡ b → test (get_or xs k d) ≡ false
    by_case true is = absurd (cc (list_any_at test xs k d lt is, fails))
    by_case false is = is

-- an end without a cause is one that was to come
end_is : (why : LaneEnd) (told : Option LaneEnd) → told ≡ Some why → option_map_or is_memory told false ≡ false
    → option_map_or is_full told false ≡ false → why ≡ end.Ended
end_is end.Ended told is memory full = refl
end_is end.JournalFull told is memory full = absurd (cc (sym (ap (λ e. option_map_or is_full e false) is) ∙ full))
end_is end.Memory told is memory full = absurd (cc (sym (ap (λ e. option_map_or is_memory e false) is) ∙ memory))

module _ {S P N L C : Type 0} (t : Parts S P N L C) (entries : List Entry) where
  -- a worker that did not work gave nothing to its spawner
  runs_same : (worker : WorkerKind S P N C L) → KeepsRuns t entries worker worker
  runs_same (kind.Lane lane) = record {
    whole = [];
    last = [];
    few = omega arith;
    given = none lane.spawner;
    each = All-nil _;
    in_order = none entries;
    taken = All-nil _;
    ended = λ _. refl;
  }
  runs_same (kind.Timer timer) = tt
  runs_same (kind.Door door) = tt

  module _ (desk : LockIdentity Opening) (p q : Caller) where
    runs_kept : (old new : WorkerKind S P N C L) → Works desk t p old q new → IsPrefix (calls_of q.seen) entries → KeepsRuns t entries old new
    runs_kept (kind.Lane old) (kind.Lane new) work stands = subst (λ e. RunsStand (RanFor t.spawner.ran t.spawner.faults) entries old.spawner new.spawner e) (sym work.told)
        (lane_stands desk.origin (RanFor t.spawner.ran t.spawner.faults) t.clock.gives old.seat t.clock.pauses entries (record { pass = p; clock = old.clock })
        old.spawner (record { pass = q; clock = new.clock }) new.spawner work.why work.turns stands)
    runs_kept (kind.Lane old) (kind.Timer new) work stands = absurd work
    runs_kept (kind.Lane old) (kind.Door new) work stands = absurd work
    runs_kept (kind.Timer old) (kind.Lane new) work stands = absurd work
    runs_kept (kind.Timer old) (kind.Timer new) work stands = tt
    runs_kept (kind.Timer old) (kind.Door new) work stands = absurd work
    runs_kept (kind.Door old) (kind.Lane new) work stands = absurd work
    runs_kept (kind.Door old) (kind.Timer new) work stands = absurd work
    runs_kept (kind.Door old) (kind.Door new) work stands = tt

    ends_kept : (old new : WorkerKind S P N C L) → Works desk t p old q new → kind_failed new ≡ false → kind_memory new ≡ false
        → kind_full new ≡ false → HasEnded t new
    ends_kept (kind.Lane old) (kind.Lane new) work failed memory full =
        let is = end_is work.why new.end work.told memory full in record { told = work.told ∙ ap Some is; said = work.cause.ended is }
    ends_kept (kind.Lane old) (kind.Timer new) work failed memory full = absurd work
    ends_kept (kind.Lane old) (kind.Door new) work failed memory full = absurd work
    ends_kept (kind.Timer old) (kind.Lane new) work failed memory full = absurd work
    ends_kept (kind.Timer old) (kind.Timer new) work failed memory full =
        let is = end_is work.why new.end work.told memory full in record { told = work.told ∙ ap Some is; said = work.cause.ended is }
    ends_kept (kind.Timer old) (kind.Door new) work failed memory full = absurd work
    ends_kept (kind.Door old) (kind.Lane new) work failed memory full = absurd work
    ends_kept (kind.Door old) (kind.Timer new) work failed memory full = absurd work
    ends_kept (kind.Door old) (kind.Door new) work failed memory full = record {
      end = work.end;
      told = work.told;
      said = work.ended (sym (ap (λ e. option_map_or (λ (d : DoorEnd). d.failed) e false) work.told) ∙ failed);
      no_memory = sym (ap (λ e. option_map_or (λ (d : DoorEnd). d.met_memory) e false) work.told) ∙ memory;
    }

    time_kept : (old new : WorkerKind S P N C L) → Works desk t p old q new → IsPrefix (calls_of q.seen) entries → kind_memory new ≡ false
        → kind_full new ≡ false → HasTicked t entries old
    time_kept (kind.Lane old) new work stands memory full = tt
    time_kept (kind.Door old) new work stands memory full = tt
    time_kept (kind.Timer old) (kind.Lane new) work stands memory full = absurd work
    time_kept (kind.Timer old) (kind.Door new) work stands memory full = absurd work
    time_kept (kind.Timer old) (kind.Timer new) work stands memory full =
        let is = end_is work.why new.end work.told memory full in
        timer_ticks desk.origin t.stopper.stopped t.stopper.faults t.clock.gives t.clock.pauses entries p old.stopper old.clock q new.stopper new.clock
        (subst (λ w. RunsTimer desk.origin t.stopper.stopped t.stopper.faults t.clock.gives t.clock.pauses p old.stopper old.clock q new.stopper new.clock w) is work.turns) stands

module _ {S P N L C : Type 0} (t : Parts S P N L C) (old new : List (Worker (WorkerKind S P N C L))) where
  -- no worker began
  none_began : (status : ServeStatus) (journal : Journal) → new ≡ old → (status ≡ Memory) ⊎ (status ≡ SinkFault) → KeepsPromises t old new status journal
  none_began status journal same why = subst (λ ws. KeepsPromises t old ws status journal) (sym same) (record {
    runs = record { count = refl; each = λ k d lt. runs_same t journal.entries (get_or old k d).kind };
    ended = λ is. absurd (not_done status why is);
    ticked = λ is. absurd (not_done status why is);
  })

  -- each worker worked
  pub all_worked : (desk : LockIdentity Opening) (journal : Journal) → AllServe (λ l p w q v. Works l t p w q v) desk journal.entries old new
      → KeepsPromises t old new (status_of new) journal
  all_worked desk journal works = record {
    runs = record {
      count = works.count;
      each = λ k d lt. let one = works.each k d lt in
          let stands = stands_in one.after.seen works.history journal.entries works.journal one.stands in
          runs_kept t journal.entries desk one.before one.after (get_or old k d).kind (get_or new k d).kind one.work stands;
    };
    ended = λ is k d lt.
        let tests = done_from (list_any has_failed new) (list_any met_memory new) (list_any met_full_journal new) is in
        let count = works.count in let inside : k < length old = omega arith in let one = works.each k d inside in
        ends_kept t journal.entries desk one.before one.after (get_or old k d).kind (get_or new k d).kind one.work
        (none_passes has_failed new tests.0 k d lt) (none_passes met_memory new tests.1.0 k d lt) (none_passes met_full_journal new tests.1.1 k d lt);
    ticked = λ is k d lt.
        let tests = done_from (list_any has_failed new) (list_any met_memory new) (list_any met_full_journal new) is in
        let count = works.count in let within : k < length new = omega arith in let one = works.each k d lt in
        let stands = stands_in one.after.seen works.history journal.entries works.journal one.stands in
        time_kept t journal.entries desk one.before one.after (get_or old k d).kind (get_or new k d).kind one.work stands
        (none_passes met_memory new tests.1.0 k d within) (none_passes met_full_journal new tests.1.1 k d within);
  }

  pub promises : (before now : Option (List ℕ)) {status : ServeStatus} {left : Option Journal} → IsServed t old new before now status left
      → IfSome left (λ journal. KeepsPromises t old new status journal)
  promises before now (unopened status same unwritten why) = tt
  promises before now (unshared status journal same empty front why) = none_began status journal same why
  promises before now (served journal desk opened gains works) = all_worked desk journal works
