-- A run that is taken leaves consistent tables.
use Rattle.std.proofs.Common.{◌≡◌, ℕ, Bool, true, false, not, ◌&&◌, ◌||◌, List, [], ◌∷◌, map, Option, Some, None, cond, is_none, inl, inr, refl, sym, ◌∙◌, ap}
use Rattle.std.proofs.Common.{subst}
use Rattle.std.specs.List.{list_any, find}
use Rattle.std.specs.Option.{unwrap_or}
use Rattle.bt_base.specs.Ids.{same}
use Rattle.bt_base.proofs.SameIds.{same_equiv}
use Rattle.bt_rows.specs.Keys.{same_run, same_run_equiv, same_task, same_task_equiv}
use Rattle.bt_rows.specs.Lists.{AreDistinct}
use Rattle.bt_rows.proofs.DistinctRows.{find-passes}
use Rattle.batch_model.specs.Finding.{names, change_where}
use Rattle.batch_model.specs.Rows.{is_run, change_tasks, change_runs}
use Rattle.batch_model.specs.Runs.{is_queued, is_unended, is_waiting, is_start, is_preparation, is_release, is_work}
use Rattle.batch_model.specs.Tasks.{is_placed, is_undisturbed}
use Rattle.batch_model.specs.Slots.{owns}
use Rattle.batch_model.specs.Events.{taken_run, started_task, is_task_of_run}
use Rattle.batch_model.specs.Sound.{IsConsistent, PreparationsAreSound, CompletedJobsRest, has_node_while_unended, belongs, can_be_settled, fits_nodes, names_no_task}
use Rattle.batch_model.specs.WellFormed.{has_fitting_marks, is_closed_if_completed}
use Rattle.batch_model.specs.Variants.{State, TaskRow, RunKind, StartRun, PrepRun, TaskRun, CoordinationRun, ReleaseRun, RunRow, RunState, Waiting, Queued}
use Rattle.batch_model.specs.Variants.{Taken, Ended, Withdrawn}
use Rattle.model_lists.proofs.Tests.{passes_or_not, and_true, and_first, and_second, or_false, asked}
use Rattle.model_lists.proofs.RowLists.{each_found, each_weaker, find_any}
use Rattle.model_lists.proofs.MappedRows.{each_map, any_map, map_found}
use Rattle.model_lists.proofs.ChangedRows.{change_none}
use Rattle.model_tables.proofs.RunsMove.{Moves, moves_same, moves_if, moved, consistent_moved}
use Rattle.model_tables.proofs.StartRuns.{start_names_none}
use Rattle.model_tables.proofs.PrepsKept.{KeepsRun, preps_with_runs, rest_with_runs}
use Rattle.model_tables.proofs.TasksKept.{Marks, marked, consistent_marked}

-- a queued run is taken, and others stay
abbrev taken_if_queued : RunState → RunState
taken_if_queued Waiting = Waiting
taken_if_queued Queued = Taken
taken_if_queued Taken = Taken
taken_if_queued (Ended ending) = Ended ending
taken_if_queued Withdrawn = Withdrawn

-- so each state moves on
moves_taken : (state : RunState) → Moves state (taken_if_queued state)
moves_taken Waiting = moves_same Waiting
moves_taken Queued = record { unended = λ h. refl; ends = λ h. refl; stays = λ h. h }
moves_taken Taken = moves_same Taken
moves_taken (Ended ending) = moves_same (Ended ending)
moves_taken Withdrawn = moves_same Withdrawn

-- a queued run is taken
queued_taken : (state : RunState) → is_queued state ≡ true → taken_if_queued state ≡ Taken
queued_taken Waiting h = cc
queued_taken Queued h = refl
queued_taken Taken h = cc
queued_taken (Ended ending) h = cc
queued_taken Withdrawn h = cc

-- it has not ended
queued_unended : (state : RunState) → is_queued state ≡ true → is_unended state ≡ true
queued_unended Waiting h = refl
queued_unended Queued h = refl
queued_unended Taken h = refl
queued_unended (Ended ending) h = cc
queued_unended Withdrawn h = cc

module _ (now : ℕ) (run : RunRow) where
  -- the states after the event
  abbrev into : RunRow → RunState
  into row = cond (is_run run.number row) (taken_if_queued row.state) row.state

  -- the moments at which runs were taken
  abbrev taken_at : RunRow → Option ℕ
  taken_at row = cond (is_run run.number row) (Some now) row.taken

  -- the run itself
  alike_here : (row : RunRow) (b : Bool) → taken_if_queued row.state ≡ Taken
      → cond b (taken_run now row) row ≡ record row { state = cond b (taken_if_queued row.state) row.state; taken = cond b (Some now) row.taken }
  alike_here row true h = ap (λ (state : RunState). record row { state = state; taken = Some now }) (sym h)
  alike_here row false h = refl

  -- the other runs
  alike_elsewhere : (row : RunRow) (b : Bool) → b ≡ false
      → cond b (taken_run now row) row ≡ record row { state = cond b (taken_if_queued row.state) row.state; taken = cond b (Some now) row.taken }
  alike_elsewhere row true h = cc
  alike_elsewhere row false h = refl

-- the runs after the event, each moved on
taken_runs : (s : State) (run : RunRow) → AreDistinct same_run s.runs → find (is_run run.number) s.runs ≡ Some run → is_queued run.state ≡ true
    → map (λ row. cond (is_run run.number row) (taken_run s.moment row) row) s.runs
    ≡ map (moved (into s.moment run) (taken_at s.moment run) (λ row. row.ended)) s.runs
taken_runs s run keys found queued =
    map_found same_run same_run_equiv (λ row. cond (is_run run.number row) (taken_run s.moment row) row)
    (moved (into s.moment run) (taken_at s.moment run) (λ row. row.ended)) (is_run run.number)
    (is_run run.number) run s.runs
    (λ row k. k)
    (alike_here s.moment run run (is_run run.number run) (queued_taken run.state queued))
    (λ row. alike_elsewhere s.moment run row (is_run run.number row))
    keys found

-- each run keeps what it is of
taken_keeps : (now : ℕ) (run row : RunRow) → KeepsRun row (moved (into now run) (taken_at now run) (λ each. each.ended) row)
taken_keeps now run row = record {
  kind = refl;
  node = refl;
  job = refl;
  unended = let m : Moves row.state (into now run row) = moves_if (is_run run.number row) row.state (taken_if_queued row.state) (moves_taken row.state) in m.unended;
  waiting = λ u. waits (is_run run.number row) row.state;
}
  where
    waits : (b : Bool) (state : RunState) → is_waiting state ≡ true → is_waiting (cond b (taken_if_queued state) state) ≡ true
    waits true Waiting h = refl
    waits true Queued h = cc
    waits true Taken h = cc
    waits true (Ended ending) h = cc
    waits true Withdrawn h = cc
    waits false state h = h

module _ (s : State) (run : RunRow) (keys : AreDistinct same_run s.runs) (found : find (is_run run.number) s.runs ≡ Some run) (queued : is_queued run.state ≡ true) where
  -- preparations stay sound
  pub preps_taken : PreparationsAreSound s → PreparationsAreSound (change_runs (is_run run.number) (taken_run s.moment) s)
  preps_taken h =
      subst (λ (rows : List RunRow). PreparationsAreSound (record s { runs = rows })) (sym (taken_runs s run keys found queued))
      (preps_with_runs (moved (into s.moment run) (taken_at s.moment run) (λ row. row.ended)) (taken_keeps s.moment run) s h)

  -- completed jobs rest
  pub rest_taken : CompletedJobsRest s → CompletedJobsRest (change_runs (is_run run.number) (taken_run s.moment) s)
  rest_taken h =
      subst (λ (rows : List RunRow). CompletedJobsRest (record s { runs = rows })) (sym (taken_runs s run keys found queued))
      (rest_with_runs (moved (into s.moment run) (taken_at s.moment run) (λ row. row.ended)) (taken_keeps s.moment run) s h)

-- the run is taken, and its task has not started yet
consistent_queued : (seats : ℕ) (s : State) (run : RunRow) → IsConsistent seats s → find (is_run run.number) s.runs ≡ Some run → is_queued run.state ≡ true
    → IsConsistent seats (change_runs (is_run run.number) (taken_run s.moment) s)
consistent_queued seats s run h found queued =
    subst (λ (rows : List RunRow). IsConsistent seats (record s { runs = rows })) (sym (taken_runs s run h.keys.runs found queued))
    (consistent_moved (into s.moment run) (taken_at s.moment run) (λ row. row.ended)
    (λ row. moves_if (is_run run.number row) row.state (taken_if_queued row.state) (moves_taken row.state)) seats s h)

-- the task of the run starts

-- both ids are those that an option names
same_named : (a : Option (List ℕ)) (one other : List ℕ) → names a one ≡ true → names a other ≡ true → same one other ≡ true
same_named None one other h k = cc
same_named (Some a) one other h k = sym (same_equiv.congr a one other h) ∙ k

-- tasks that a run names have one key
same_of_run : (run : RunRow) (task other : TaskRow) → is_task_of_run run task ≡ true → is_task_of_run run other ≡ true → same_task task other ≡ true
same_of_run run task other h k =
    and_true
    (same_named run.job task.job other.job (and_first _ (names run.task task.id) h) (and_first _ (names run.task other.id) k))
    (same_named run.task task.id other.id (and_second (names run.job task.job) _ h) (and_second (names run.job other.job) _ k))

-- a task that owns the run is one that it names
named_by_owner : (run : RunRow) (task : TaskRow) → owns run task ≡ true → is_task_of_run run task ≡ true
named_by_owner run task h = and_first _ _ (and_second (is_placed task.stage) _ h)

module _ (now : ℕ) (run : RunRow) where
  -- a placed task that the run names gets a start
  abbrev started_at : TaskRow → Option ℕ
  started_at task = cond (is_task_of_run run task && is_placed task.stage) (Some (unwrap_or task.started now)) task.started

  -- the other marks stay
  abbrev with_start : TaskRow → Marks
  with_start task =
      record { stage = task.stage; failures = task.failures; wanted = task.wanted; fail = task.fail; started = started_at task; closed = task.closed }

  -- the placed task itself
  start_here : (task : TaskRow) (b p : Bool) → p ≡ true
      → cond b (started_task now task) task ≡ record task { started = cond (b && p) (Some (unwrap_or task.started now)) task.started }
  start_here task b false h = cc
  start_here task true true h = refl
  start_here task false true h = refl

  -- the other tasks
  start_elsewhere : (task : TaskRow) (b p : Bool) → b ≡ false
      → cond b (started_task now task) task ≡ record task { started = cond (b && p) (Some (unwrap_or task.started now)) task.started }
  start_elsewhere task true p h = cc
  start_elsewhere task false p h = refl

  -- only a placed task has a start
  marks_after : (b p u : Bool) (start : ℕ) (started : Option ℕ) → (p || (u && is_none started)) ≡ true
      → (p || (u && is_none (cond (b && p) (Some start) started))) ≡ true
  marks_after b true u start started h = refl
  marks_after true false u start started h = h
  marks_after false false u start started h = h

-- the task of a queued run starts
consistent_started : (seats : ℕ) (s : State) (now : ℕ) (run : RunRow) (owner : TaskRow) → IsConsistent seats s → find (owns run) s.tasks ≡ Some owner
    → IsConsistent seats (record s { tasks = map (λ task. cond (is_task_of_run run task) (started_task now task) task) s.tasks })
consistent_started seats s now run owner h found =
    let owned : owns run owner ≡ true = find-passes (owns run) owner s.tasks found in
    let tasks : map (λ task. cond (is_task_of_run run task) (started_task now task) task) s.tasks ≡ map after s.tasks =
    map_found same_task same_task_equiv (λ task. cond (is_task_of_run run task) (started_task now task) task) after (is_task_of_run run)
    (owns run) owner s.tasks
    (λ task k. same_of_run run task owner k (named_by_owner run owner owned))
    (start_here now run owner (is_task_of_run run owner) (is_placed owner.stage) (and_first _ _ owned))
    (λ task. start_elsewhere now run task (is_task_of_run run task) (is_placed task.stage))
    h.keys.tasks found
    in
    subst (λ (rows : List TaskRow). IsConsistent seats (record s { tasks = rows })) (sym tasks)
    (consistent_marked (with_start now run) (λ task k. k) seats s h
    (each_map after has_fitting_marks has_fitting_marks
    (λ task e. marks_after now run (is_task_of_run run task) (is_placed task.stage) (is_undisturbed task)
    (unwrap_or task.started now) task.started e) s.tasks h.fitting.marks)
    (each_map after is_closed_if_completed is_closed_if_completed (λ task e. e) s.tasks h.fitting.closing)
    (each_weaker (belongs s) (belongs (record s { tasks = map after s.tasks })) (λ row e. belongs_after row e) s.runs h.belonging)
    (each_map after (can_be_settled s) (can_be_settled (record s { tasks = map after s.tasks })) (λ task e. e) s.tasks h.ending))
  where
    after : TaskRow → TaskRow
    after = marked (with_start now run)

    belongs_after : (row : RunRow) → belongs s row ≡ true → belongs (record s { tasks = map after s.tasks }) row ≡ true
    belongs_after row e = ap (λ b. not (is_work row.kind && is_unended row.state) || b) (any_map after (owns row) s.tasks) ∙ e

-- a placed task owns a queued run of a task
owned_while_queued : (seats : ℕ) (s : State) (run : RunRow) → IsConsistent seats s → find (is_run run.number) s.runs ≡ Some run → is_queued run.state ≡ true
    → is_work run.kind ≡ true → list_any (owns run) s.tasks ≡ true
owned_while_queued seats s run h found queued works =
    asked (is_work run.kind && is_unended run.state) (list_any (owns run) s.tasks)
    (each_found (belongs s) (is_run run.number) run s.runs found h.belonging)
    (and_true works (queued_unended run.state queued))

-- no task is a run's that names no task
no_task_of_run : (run : RunRow) → is_none run.task ≡ true → (tasks : List TaskRow) → list_any (is_task_of_run run) tasks ≡ false
no_task_of_run run h [] = refl
no_task_of_run run h (task ∷ tasks) = or_false (unnamed run.task task.id (names run.job task.job) h) (no_task_of_run run h tasks)
  where
    unnamed : (name : Option (List ℕ)) (id : List ℕ) (b : Bool) → is_none name ≡ true → (b && names name id) ≡ false
    unnamed None id true k = refl
    unnamed None id false k = refl
    unnamed (Some other) id b k = cc

-- a run that is no task's is a start run, or of a job
idle_kinds : (kind : RunKind) → is_work kind ≡ false → is_start kind ≡ false → (is_preparation kind || is_release kind) ≡ true
idle_kinds StartRun w s = cc
idle_kinds PrepRun w s = refl
idle_kinds TaskRun w s = cc
idle_kinds CoordinationRun w s = cc
idle_kinds ReleaseRun w s = refl

-- a queued run that is no task's names none
names_none : (seats : ℕ) (s : State) (run : RunRow) → IsConsistent seats s → find (is_run run.number) s.runs ≡ Some run → is_queued run.state ≡ true
    → is_work run.kind ≡ false → is_none run.task ≡ true
names_none seats s run h found queued idle = elim (passes_or_not (is_start run.kind)) [
  | inl start ↦
      and_second (is_none run.job) (is_none run.task)
      (start_names_none s run start (queued_unended run.state queued)
      (each_found (has_node_while_unended s) (is_run run.number) run s.runs found h.seated.nodes_of_runs)
      (each_found (fits_nodes s) (is_run run.number) run s.runs found h.naming.on_nodes))
  | inr other ↦
      asked ((is_preparation run.kind || is_release run.kind) && is_unended run.state) (is_none run.task)
      (each_found names_no_task (is_run run.number) run s.runs found h.naming.of_jobs)
      (and_true (idle_kinds run.kind idle other) (queued_unended run.state queued))
]

-- no task starts with it
no_task_starts : (seats : ℕ) (s : State) (run : RunRow) → IsConsistent seats s → find (is_run run.number) s.runs ≡ Some run → is_queued run.state ≡ true
    → is_work run.kind ≡ false → change_where (is_task_of_run run) (started_task s.moment) s.tasks ≡ s.tasks
no_task_starts seats s run h found queued idle =
    change_none (is_task_of_run run) (started_task s.moment) s.tasks (no_task_of_run run (names_none seats s run h found queued idle) s.tasks)

-- the tables in which the run is taken and its task has started, before its preparation is marked
abbrev pub run_started : State → RunRow → State
run_started s run = change_tasks (is_task_of_run run) (started_task s.moment) (change_runs (is_run run.number) (taken_run s.moment) s)

-- a queued run is taken, and its task starts, if it is a task's
pub consistent_taken : (seats : ℕ) (s : State) (run : RunRow) → IsConsistent seats s → find (is_run run.number) s.runs ≡ Some run → is_queued run.state ≡ true
    → IsConsistent seats (run_started s run)
consistent_taken seats s run h found queued = elim (passes_or_not (is_work run.kind)) [
  | inr idle ↦
      subst (λ (rows : List TaskRow). IsConsistent seats (record (change_runs (is_run run.number) (taken_run s.moment) s) { tasks = rows }))
      (sym (no_task_starts seats s run h found queued idle)) (consistent_queued seats s run h found queued)
  | inl works ↦
      let owner : (task : TaskRow) × (find (owns run) s.tasks ≡ Some task) =
      find_any (owns run) s.tasks (owned_while_queued seats s run h found queued works)
      in
      consistent_started seats (change_runs (is_run run.number) (taken_run s.moment) s) s.moment run owner.0
      (consistent_queued seats s run h found queued) owner.1
]
