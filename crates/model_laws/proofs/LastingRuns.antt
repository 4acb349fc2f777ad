-- Tests of runs that no change makes a run pass that did not: after a step that makes no run, no more runs pass them.
use Rattle.std.proofs.Common.{◌≡◌, ℕ, suc, ◌+◌, ◌≤◌, Bool, true, false, not, ◌&&◌, nat_eq, nat_le, List, [], ◌∷◌, Option, Some, None, cond, count_by, filter}
use Rattle.std.proofs.Common.{find, refl, ap, subst, arith}
use Rattle.std.specs.List.{list_any}
use Rattle.std.proofs.lemmas.List.Sums.{sum_by-cons}
use Rattle.bt_rows.specs.declared.event.DisableTasks.{DisableTasks}
use Rattle.bt_rows.specs.declared.event.DisableTasks.TheVariants.{Requeue, Terminate, Wait}
use Rattle.batch_model.specs.Events.{taken_run, ended_run}
use Rattle.batch_model.specs.Finding.{Each}
use Rattle.batch_model.specs.Laws.{is_release_of}
use Rattle.batch_model.specs.Leaving.{is_on, is_start_run, has_run_where, clear_runs, clear_for, leaving_by, with_leaving, leave}
use Rattle.batch_model.specs.Preparing.{queued}
use Rattle.batch_model.specs.Rows.{is_run, run_of, put_job, change_nodes, change_runs, add_run_row}
use Rattle.batch_model.specs.Runs.{is_waiting, is_ended, is_unended, is_start, is_preparation, is_open_preparation, prepares, asked_to_stop, withdrawn, halted_in, halted}
use Rattle.batch_model.specs.Stops.{is_run_of_stopped, stop, halt_preparations, disable, job_for, close}
use Rattle.batch_model.specs.Tasks.{is_in_job}
use Rattle.batch_model.specs.Variants.{State, NodeRow, Dealloc, ByRequeue, ByTerminate, TaskCompletion, RetainedData, JobRow, JobState, TaskRow}
use Rattle.batch_model.specs.Variants.{Want, WantRequeue, WantTerminate, Ending, RunRow, RunState, Waiting, Queued, Taken, Ended, Withdrawn}
use Rattle.model_lists.proofs.KeptRows.{sum_kept}
use Rattle.model_lists.proofs.RowLists.{each_any, any_none, find_none}
use Rattle.model_lists.proofs.RowSums.{count_append, count_none, count_change_at_most}
use Rattle.model_lists.proofs.Tests.{or_false, or_false_first, or_false_second}
use Rattle.model_laws.specs.Runs.{is_open}

-- a run that passes after a change did before; only a waiting run is queued, and only an unended one is taken
pub record IsLasting (test : RunRow → Bool) : Type 0 where
  pub if_halted : (now : ℕ) (run : RunRow) → test (halted now run) ≡ true → test run ≡ true
  pub if_asked : (run : RunRow) → test (asked_to_stop run) ≡ true → test run ≡ true
  pub if_queued : (run : RunRow) → is_waiting run.state ≡ true → test (queued run) ≡ true → test run ≡ true
  pub if_taken : (now : ℕ) (run : RunRow) → is_unended run.state ≡ true → test (taken_run now run) ≡ true → test run ≡ true
  pub if_ended : (now : ℕ) (ending : Ending) (run : RunRow) → test (ended_run now ending run) ≡ true → test run ≡ true

-- tests that last

-- a halted run passes: it is withdrawn and did not end, is asked to stop, or stays
halted_before : (test : RunRow → Bool) (now : ℕ) (run : RunRow) → (is_ended run.state ≡ false → test (withdrawn now run) ≡ true → test run ≡ true)
    → (test (asked_to_stop run) ≡ true → test run ≡ true) → test (halted now run) ≡ true → test run ≡ true
halted_before test now run gone asked = by_state run.state refl
  where
    by_state : (state : RunState) → run.state ≡ state → test (halted_in state now run) ≡ true → test run ≡ true
    by_state Waiting e = gone (ap is_ended e)
    by_state Queued e = gone (ap is_ended e)
    by_state Taken e = asked
    by_state (Ended ending) e = λ h. h
    by_state Withdrawn e = λ h. h

-- a test that does not depend on whether the run has ended, nor on what else becomes of it
pub lasting_if_fixed : (test : RunRow → Bool)
    → ((run : RunRow) (next : RunState) (stop : Bool) (from to : Option ℕ)
    → test (record run { state = next; asked = stop; taken = from; ended = to }) ≡ test run) → IsLasting test
lasting_if_fixed test fixed = record {
  if_halted =
      λ now run. halted_before test now run
      (λ e h. before run (withdrawn now run) (fixed run Withdrawn run.asked run.taken (Some now)) h)
      (λ h. before run (asked_to_stop run) (fixed run run.state true run.taken run.ended) h);
  if_asked = λ run h. before run (asked_to_stop run) (fixed run run.state true run.taken run.ended) h;
  if_queued = λ run w h. before run (queued run) (fixed run Queued run.asked run.taken run.ended) h;
  if_taken = λ now run e h. before run (taken_run now run) (fixed run Taken run.asked (Some now) run.ended) h;
  if_ended = λ now ending run h. before run (ended_run now ending run) (fixed run (Ended ending) run.asked run.taken (Some now)) h;
}
  where
    before : (run later : RunRow) → test later ≡ test run → test later ≡ true → test run ≡ true
    before run later e h = subst (λ b. b ≡ true) e h

-- the run has the number
pub number_lasts : (number : ℕ) → IsLasting (is_run number)
number_lasts number = lasting_if_fixed (is_run number) (λ run next stop from to. refl)

-- the run has the number, and has not ended
abbrev pub is_open_run : ℕ → RunRow → Bool
is_open_run number run = nat_eq run.number number && not (is_ended run.state)

-- one that has not ended did not before
unended_before : (same before after : Bool) → before ≡ false → (same && not after) ≡ true → (same && not before) ≡ true
unended_before true before after e h = rw e refl
unended_before false before after e h = cc

-- an ended one is not such
ended_not : {P : Type 0} (same : Bool) → (same && false) ≡ true → P
ended_not true h = cc
ended_not false h = cc

pub open_lasts : (number : ℕ) → IsLasting (is_open_run number)
open_lasts number = record {
  if_halted =
      λ now run. halted_before (is_open_run number) now run
      (λ e h. unended_before (nat_eq run.number number) (is_ended run.state) false e h) (λ h. h);
  if_asked = λ run h. h;
  if_queued = λ run w h. unended_before (nat_eq run.number number) (is_ended run.state) false (waiting_unended run.state w) h;
  if_taken = λ now run e h. unended_before (nat_eq run.number number) (is_ended run.state) false (not_ended run.state e) h;
  if_ended = λ now ending run h. ended_not (nat_eq run.number number) h;
}
  where
    not_ended : (state : RunState) → is_unended state ≡ true → is_ended state ≡ false
    not_ended Waiting h = refl
    not_ended Queued h = refl
    not_ended Taken h = refl
    not_ended (Ended ending) h = cc
    not_ended Withdrawn h = cc

    waiting_unended : (state : RunState) → is_waiting state ≡ true → is_ended state ≡ false
    waiting_unended Waiting h = refl
    waiting_unended Queued h = cc
    waiting_unended Taken h = cc
    waiting_unended (Ended ending) h = cc
    waiting_unended Withdrawn h = cc

-- the run has the number, and is unended
abbrev pub is_unended_run : ℕ → RunRow → Bool
is_unended_run number run = nat_eq run.number number && is_unended run.state

-- one that is unended
still_unended : (same before : Bool) → before ≡ true → (same && true) ≡ true → (same && before) ≡ true
still_unended same before e h = rw e h

pub unended_lasts : (number : ℕ) → IsLasting (is_unended_run number)
unended_lasts number = record {
  if_halted =
      λ now run. halted_before (is_unended_run number) now run
      (λ e h. ended_not (nat_eq run.number number) h) (λ h. h);
  if_asked = λ run h. h;
  if_queued = λ run w h. still_unended (nat_eq run.number number) (is_unended run.state) (waiting_unended run.state w) h;
  if_taken = λ now run e h. still_unended (nat_eq run.number number) (is_unended run.state) e h;
  if_ended = λ now ending run h. ended_not (nat_eq run.number number) h;
}
  where
    waiting_unended : (state : RunState) → is_waiting state ≡ true → is_unended state ≡ true
    waiting_unended Waiting h = refl
    waiting_unended Queued h = cc
    waiting_unended Taken h = cc
    waiting_unended (Ended ending) h = cc
    waiting_unended Withdrawn h = cc

-- a start run with at least the number
abbrev pub is_new_start : ℕ → RunRow → Bool
is_new_start least run = is_start run.kind && nat_le least run.number

pub starts_last : (least : ℕ) → IsLasting (is_new_start least)
starts_last least = lasting_if_fixed (is_new_start least) (λ run next stop from to. refl)

-- a preparation run with at least the number
abbrev pub is_new_preparation : ℕ → RunRow → Bool
is_new_preparation least run = is_preparation run.kind && nat_le least run.number

pub preparations_last : (least : ℕ) → IsLasting (is_new_preparation least)
preparations_last least = lasting_if_fixed (is_new_preparation least) (λ run next stop from to. refl)

-- a release run of the job on the node
pub releases_last : (job : List ℕ) (node : ℕ) → IsLasting (is_release_of job node)
releases_last job node = lasting_if_fixed (is_release_of job node) (λ run next stop from to. refl)

-- how many runs pass

-- one and more are not none
some_counted : {P : Type 0} (others : ℕ) → suc others ≡ 0 → P
some_counted others h = cc

module _ (test : RunRow → Bool) where
  -- of these tables
  abbrev pub passing : State → ℕ
  passing s = count_by test s.runs

  -- after a step no more runs pass than before
  abbrev pub HasNoMore : State → State → Type 0
  HasNoMore s t = passing t ≤ passing s

  pub no_change : (s : State) → HasNoMore s s
  no_change s = omega arith

  -- one step after another
  pub both_steps : (s t u : State) → HasNoMore s t → HasNoMore t u → HasNoMore s u
  both_steps s t u h k = omega (arith, h, k)

  -- runs change, each of which did pass if it does, where each run is such
  pub changed_where : (a of : RunRow → Bool) (change : RunRow → RunRow) (s : State)
      → ((run : RunRow) → a run ≡ true → of run ≡ true → test (change run) ≡ true → test run ≡ true) → Each a s.runs → HasNoMore s (change_runs of change s)
  changed_where a of change s keep each = count_change_at_most of change a test keep s.runs each

  -- whatever the runs are
  pub changed : (of : RunRow → Bool) (change : RunRow → RunRow) (s : State)
      → ((run : RunRow) → of run ≡ true → test (change run) ≡ true → test run ≡ true) → HasNoMore s (change_runs of change s)
  changed of change s keep = changed_where (λ run. true) of change s (λ run t. keep run) (each_any (λ run. true) (λ run. refl) s.runs)

  -- runs are dropped
  pub dropped : (keep : RunRow → Bool) (runs : List RunRow) → count_by test (filter keep runs) ≤ count_by test runs
  dropped keep runs = sum_kept keep (λ run. cond {A = ℕ} (test run) 1 0) runs

  -- a run is added that does not pass
  pub added : (run : RunRow) (s : State) → test run ≡ false → HasNoMore s (add_run_row run s)
  added run s other =
      let more : passing (add_run_row run s) ≡ passing s + cond {A = ℕ} (test run) 1 0 = count_append test s.runs run in
      let none : cond {A = ℕ} (test run) 1 0 ≡ 0 = ap (λ b. cond {A = ℕ} b 1 0) other in
      omega (arith, more, none)

  -- no run passes just if none is counted

  pub none_counted : (runs : List RunRow) → list_any test runs ≡ false → count_by test runs ≡ 0
  none_counted runs h = count_none test runs (any_none test runs h)

  pub counted_none : (runs : List RunRow) → count_by test runs ≡ 0 → list_any test runs ≡ false
  counted_none [] h = refl
  counted_none (run ∷ runs) h = by_first (test run) refl (counted_none runs)
    where
      split : count_by test (run ∷ runs) ≡ cond {A = ℕ} (test run) 1 0 + count_by test runs
      split = sum_by-cons (λ other. cond {A = ℕ} (test other) 1 0) run runs

      by_first : (b : Bool) → test run ≡ b → (count_by test runs ≡ 0 → list_any test runs ≡ false) → list_any test (run ∷ runs) ≡ false
      by_first true e others =
          let one : cond {A = ℕ} (test run) 1 0 ≡ 1 = ap (λ b. cond {A = ℕ} b 1 0) e in
          some_counted (count_by test runs) (omega (arith, h, split, one))
      by_first false e others =
          let none : cond {A = ℕ} (test run) 1 0 ≡ 0 = ap (λ b. cond {A = ℕ} b 1 0) e in
          or_false e (others (omega (arith, h, split, none)))

  -- if no run passes, none does after a step that leaves no more
  pub none_after : (s t : State) → HasNoMore s t → list_any test s.runs ≡ false → list_any test t.runs ≡ false
  none_after s t h none =
      let before : passing s ≡ 0 = none_counted s.runs none in
      counted_none t.runs (omega (arith, h, before))

  module _ (lasts : IsLasting test) where
    -- tasks are stopped
    pub stopped : (of : TaskRow → Bool) (want : Want) (s : State) → HasNoMore s (stop of want s)
    stopped of want s = changed (is_run_of_stopped of s) (halted s.moment) s (λ run t. lasts.if_halted s.moment run)

    -- preparation runs are halted
    pub preparations_halted : (of : RunRow → Bool) (s : State) → HasNoMore s (halt_preparations of s)
    preparations_halted of s = changed (λ run. of run && is_open_preparation run) (halted s.moment) s (λ run t. lasts.if_halted s.moment run)

    -- a job is closed
    pub closed : (next : JobState) (why : List ℕ) (row : JobRow) (s : State) → HasNoMore s (close next why row s)
    closed next why row s =
        let put : State = put_job (job_for next why row) s in
        let ended : State = stop (is_in_job row.id) WantTerminate put in
        both_steps s ended (close next why row s) (stopped (is_in_job row.id) WantTerminate put) (preparations_halted (prepares row.id) ended)

    -- a job is disabled
    pub disabled : (option : DisableTasks) (row : JobRow) (s : State) → HasNoMore s (disable row option s)
    disabled Requeue row s = stopped (is_in_job row.id) WantRequeue (disable row Wait s)
    disabled Terminate row s = stopped (is_in_job row.id) WantTerminate (disable row Wait s)
    disabled Wait row s = no_change s

    -- runs that pass a test are cleared
    runs_cleared : (want : Want) (of : RunRow → Bool) (s : State) → HasNoMore s (clear_runs want of s)
    runs_cleared want of s =
        let ended : State = stop (has_run_where of s) want s in
        both_steps s ended (clear_runs want of s) (stopped (has_run_where of s) want s) (preparations_halted of ended)

    cleared_for : (option : Dealloc) (of : RunRow → Bool) (s : State) → HasNoMore s (clear_for option of s)
    cleared_for ByRequeue of s = runs_cleared WantRequeue of s
    cleared_for ByTerminate of s = runs_cleared WantTerminate of s
    cleared_for TaskCompletion of s = no_change s
    cleared_for RetainedData of s = no_change s

    -- nodes leave
    pub left : (option : Dealloc) (of : NodeRow → Bool) (s : State) → HasNoMore s (leave option of s)
    left option of s =
        let leaving : State = with_leaving option of s in
        both_steps s leaving (leave option of s)
        (changed (is_start_run (is_on of s)) (halted s.moment) (change_nodes of (leaving_by option) s) (λ run t. lasts.if_halted s.moment run))
        (cleared_for option (is_on of s) leaving)

    -- a run is asked to stop
    pub run_asked : (of : RunRow → Bool) (s : State) → HasNoMore s (change_runs of asked_to_stop s)
    run_asked of s = changed of asked_to_stop s (λ run t. lasts.if_asked run)

-- runs by their numbers

-- a search finds no row just if none passes
pub nothing_found : {R : Type 0} (test : R → Bool) (rows : List R) → list_any test rows ≡ false → find test rows ≡ None
nothing_found test [] h = refl
nothing_found test (row ∷ rows) h =
    rw (or_false_first (test row) (list_any test rows) h) (nothing_found test rows (or_false_second (test row) (list_any test rows) h))

-- a number that no run has is still that of none
pub still_gone : (number : ℕ) (s t : State) → HasNoMore (is_run number) s t → run_of s number ≡ None → run_of t number ≡ None
still_gone number s t h gone = nothing_found (is_run number) t.runs (none_after (is_run number) s t h (find_none (is_run number) s.runs gone))

-- a run that has ended is not one that has not
pub still_closed : (number : ℕ) (s t : State) → HasNoMore (is_open_run number) s t → is_open s number ≡ false → is_open t number ≡ false
still_closed number s t h closed_before = none_after (is_open_run number) s t h closed_before
