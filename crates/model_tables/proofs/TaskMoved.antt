-- A task goes to a stage other than that of placed tasks: the tables stay sound.
use Rattle.std.proofs.Common.{◌≡◌, ℕ, Bool, true, false, not, ◌&&◌, ◌||◌, nat_eq, List, map, find, Option, Some, None, is_some, is_none, cond, refl, sym, ap}
use Rattle.std.proofs.Common.{◌∙◌, subst}
use Rattle.std.specs.List.{list_any, find}
use Rattle.std.specs.Cmp.{nat_eq_equiv}
use Rattle.bt_base.specs.Ids.{same}
use Rattle.bt_base.proofs.SameIds.{same_equiv}
use Rattle.bt_rows.specs.Keys.{same_task, same_task_equiv}
use Rattle.batch_model.specs.Finding.{Each, names}
use Rattle.batch_model.specs.Rows.{is_task, put_task}
use Rattle.batch_model.specs.Runs.{is_unended, is_work, is_run_of_task, is_present, is_busy_for}
use Rattle.batch_model.specs.Tasks.{is_placed, is_completed, is_placed_in, is_busy}
use Rattle.batch_model.specs.Jobs.{is_quiet}
use Rattle.batch_model.specs.Limits.{task_limit}
use Rattle.batch_model.specs.Slots.{owns}
use Rattle.batch_model.specs.Sound.{IsConsistent, IsWithinLimits, IsSound, belongs, can_be_settled}
use Rattle.batch_model.specs.WellFormed.{has_fitting_marks, is_closed_if_completed, is_task_valid, has_no_placed_if_quiet}
use Rattle.batch_model.specs.Variants.{State, TaskRow, TaskStage, Closed, RunRow}
use Rattle.model_lists.proofs.Tests.{and_true, and_first, and_second, not_true, asked, under}
use Rattle.model_lists.proofs.RowLists.{each_of_two, each_any, each_weaker, any_none, none_any, any_weaker}
use Rattle.model_lists.proofs.MappedRows.{each_map, any_map, map_found}
use Rattle.model_lists.proofs.ChangedRows.{each_change_same}
use Rattle.model_lists.proofs.Lengths.{change_keeps_length}
use Rattle.model_tables.proofs.PrepsKept.{preps_with_tasks}
use Rattle.model_tables.proofs.TasksKept.{Marks, marked, consistent_marked}

-- a job that is quiet under which less is placed places nothing still
pub less_placed : (quiet before after : Bool) → (before ≡ false → after ≡ false) → not (quiet && before) ≡ true → not (quiet && after) ≡ true
less_placed true true after give k = cc
less_placed true false after give k = rw (give refl) refl
less_placed false before after give k = refl

-- the task with these marks
abbrev pub moved_to : Marks → TaskRow → TaskRow
moved_to to task = marked (λ other. to) task

-- no end is wanted, no ending counts in place of the main command's, and nothing has started
abbrev pub is_unmarked : Marks → Bool
is_unmarked to = (is_none to.wanted && is_none to.fail) && is_none to.started

-- a task at this stage with such a closing is closed if it is completed
abbrev pub fits_closing : TaskStage → Option Closed → Bool
fits_closing at closing = (is_completed at && is_some closing) || (not (is_completed at) && is_none closing)

-- a run of the present attempt of a task with the same key and attempt
present_alike : (task other : TaskRow) (run : RunRow) → is_task task.job task.id other ≡ true → nat_eq other.attempt task.attempt ≡ true
    → is_present other run ≡ true → is_present task run ≡ true
present_alike task other run key attempt h =
    let of_task : is_run_of_task other.job other.id run ≡ true = and_first _ (nat_eq run.attempt other.attempt) h in
    let jobs : names run.job task.job ≡ true =
    renamed run.job other.job task.job (and_first _ (names run.task other.id) of_task) (and_first _ (same other.id task.id) key)
    in
    let tasks : names run.task task.id ≡ true =
    renamed run.task other.id task.id (and_second (names run.job other.job) _ of_task) (and_second (same other.job task.job) _ key)
    in
    let attempts : nat_eq run.attempt task.attempt ≡ true =
    nat_eq_equiv.symm run.attempt task.attempt
    ∙ (sym (nat_eq_equiv.congr other.attempt task.attempt run.attempt attempt)
    ∙ (nat_eq_equiv.symm other.attempt run.attempt ∙ and_second (is_run_of_task other.job other.id run) _ h))
    in
    rw (jobs, tasks, attempts) refl
  where
    renamed : (a : Option (List ℕ)) (one another : List ℕ) → names a one ≡ true → same one another ≡ true → names a another ≡ true
    renamed None one another h k = cc
    renamed (Some a) one another h k = same_equiv.congr a one another h ∙ k

-- the stage isn't that of placed tasks, no marks are set, and the closing fits it
module _ (to : Marks) (off : is_placed to.stage ≡ false) (unmarked : is_unmarked to ≡ true) (fits : fits_closing to.stage to.closed ≡ true) where
  -- the marks of a task that moves, if it does
  abbrev marks_if : Bool → TaskRow → Marks
  marks_if b task = record {
    stage = cond b to.stage task.stage;
    failures = cond b to.failures task.failures;
    wanted = cond b to.wanted task.wanted;
    fail = cond b to.fail task.fail;
    started = cond b to.started task.started;
    closed = cond b to.closed task.closed;
  }

  -- no task is placed that wasn't
  no_placing : (b : Bool) (task : TaskRow) → is_placed (marks_if b task).stage ≡ true → is_placed task.stage ≡ true
  no_placing true task h = cc
  no_placing false task h = h

  -- its marks fit
  marks_fit : (b : Bool) (task : TaskRow) → has_fitting_marks task ≡ true → has_fitting_marks (marked (marks_if b) task) ≡ true
  marks_fit true task h = rw off unmarked
  marks_fit false task h = h

  -- its closing fits
  closing_fits : (b : Bool) (task : TaskRow) → is_closed_if_completed task ≡ true → is_closed_if_completed (marked (marks_if b) task) ≡ true
  closing_fits true task h = fits
  closing_fits false task h = h

  -- it can be settled as before, or is not placed
  settled_fits : (s : State) (b : Bool) (task : TaskRow) → can_be_settled s task ≡ true → can_be_settled s (marked (marks_if b) task) ≡ true
  settled_fits s true task h = rw off refl
  settled_fits s false task h = h

  -- rows with the task's key move if they pass a test that it passes; none of these owns an unended run that is free
  module _ (task : TaskRow) (extra : TaskRow → Bool) (own : extra task ≡ true) (free : RunRow → Bool)
      (lone : (other : TaskRow) (run : RunRow) → is_task task.job task.id other ≡ true → extra other ≡ true → is_unended run.state ≡ true
      → free run ≡ true → owns run other ≡ true → false ≡ true) where
    -- the row moves
    abbrev is_it : TaskRow → Bool
    is_it other = is_task task.job task.id other && extra other

    -- it moves, and others stay
    abbrev marks_after : TaskRow → Marks
    marks_after other = marks_if (is_it other) other

    -- the task itself changes alike
    alike_here : (b c : Bool) → c ≡ true → cond b (moved_to to task) task ≡ marked (marks_if (b && c)) task
    alike_here true true h = refl
    alike_here true false h = cc
    alike_here false c h = refl

    -- the other tasks stay alike
    alike_elsewhere : (other : TaskRow) (b c : Bool) → b ≡ false → cond b (moved_to to task) other ≡ marked (marks_if (b && c)) other
    alike_elsewhere other true c h = cc
    alike_elsewhere other false c h = refl

    -- a free run that has not ended has its owner still
    owned_after : (other : TaskRow) (run : RunRow) (b : Bool) → is_it other ≡ b → is_unended run.state ≡ true → free run ≡ true → owns run other ≡ true
        → owns run (marked (marks_if b) other) ≡ true
    owned_after other run true it unended is_free owned =
        let none : false ≡ true =
        lone other run (and_first _ (extra other) it) (and_second (is_task task.job task.id other) _ it) unended is_free owned
        in
        cc
    owned_after other run false it unended is_free owned = owned

    -- runs belong to tasks as before
    belongs_after : (s : State) (run : RunRow) → free run ≡ true → belongs s run ≡ true
        → belongs (record s { tasks = map (marked marks_after) s.tasks }) run ≡ true
    belongs_after s run is_free h =
        under (is_work run.kind && is_unended run.state) (list_any (owns run) (map (marked marks_after) s.tasks))
        (λ e. any_map (marked marks_after) (owns run) s.tasks
        ∙ any_weaker (owns run) (λ other. owns run (marked marks_after other))
        (λ other owned. owned_after other run (is_it other) refl (and_second (is_work run.kind) _ e) is_free owned)
        s.tasks (asked (is_work run.kind && is_unended run.state) (list_any (owns run) s.tasks) h e))

    -- a task that is found moves
    consistent_moved : (seats : ℕ) (s : State) (test : TaskRow → Bool) → IsConsistent seats s → find test s.tasks ≡ Some task → Each free s.runs
        → IsConsistent seats (put_task (moved_to to task) s)
    consistent_moved seats s test h found all_free =
        let tasks : map (λ old. cond (is_task task.job task.id old) (moved_to to task) old) s.tasks ≡ map after s.tasks =
        map_found same_task same_task_equiv (λ old. cond (is_task task.job task.id old) (moved_to to task) old) after (is_task task.job task.id)
        test task s.tasks
        (λ other k. k)
        (alike_here (is_task task.job task.id task) (extra task) own)
        (λ other. alike_elsewhere other (is_task task.job task.id other) (extra other))
        h.keys.tasks found
        in
        subst (λ (rows : List TaskRow). IsConsistent seats (record s { tasks = rows })) (sym tasks)
        (consistent_marked marks_after (λ other. no_placing (is_it other) other) seats s h
        (each_map after has_fitting_marks has_fitting_marks (λ other. marks_fit (is_it other) other) s.tasks h.fitting.marks)
        (each_map after is_closed_if_completed is_closed_if_completed (λ other. closing_fits (is_it other) other) s.tasks h.fitting.closing)
        (each_of_two free (belongs s) (belongs (record s { tasks = map after s.tasks })) (belongs_after s) s.runs all_free h.belonging)
        (each_map after (can_be_settled s) (can_be_settled (record s { tasks = map after s.tasks }))
        (λ other. settled_fits s (is_it other) other) s.tasks h.ending))
      where
        after : TaskRow → TaskRow
        after = marked marks_after

  -- a task of whose present attempt no run is unended
  pub consistent_over : (seats : ℕ) (s : State) (task : TaskRow) (test : TaskRow → Bool) → IsConsistent seats s → find test s.tasks ≡ Some task
      → is_busy s task ≡ false → IsConsistent seats (put_task (moved_to to task) s)
  consistent_over seats s task test h found over =
      consistent_moved task (λ other. nat_eq other.attempt task.attempt) (nat_eq_equiv.refl task.attempt) (λ run. not (is_busy_for task run)) lone
      seats s test h found (any_none (is_busy_for task) s.runs over)
    where
      lone : (other : TaskRow) (run : RunRow) → is_task task.job task.id other ≡ true → nat_eq other.attempt task.attempt ≡ true
          → is_unended run.state ≡ true → not (is_busy_for task run) ≡ true → owns run other ≡ true → false ≡ true
      lone other run key attempt unended free owned =
          let present : is_present task run ≡ true =
          present_alike task other run key attempt (and_second (is_placed other.stage) _ owned)
          in
          sym (not_true (is_busy_for task run) free) ∙ and_true present unended

  -- a task that is not placed
  pub consistent_unplaced : (seats : ℕ) (s : State) (task : TaskRow) (test : TaskRow → Bool) → IsConsistent seats s → find test s.tasks ≡ Some task
      → is_placed task.stage ≡ false → IsConsistent seats (put_task (moved_to to task) s)
  consistent_unplaced seats s task test h found unplaced =
      consistent_moved task (λ other. not (is_placed other.stage)) (ap not unplaced) (λ run. true) lone
      seats s test h found (each_any (λ run. true) (λ run. refl) s.runs)
    where
      lone : (other : TaskRow) (run : RunRow) → is_task task.job task.id other ≡ true → not (is_placed other.stage) ≡ true
          → is_unended run.state ≡ true → true ≡ true → owns run other ≡ true → false ≡ true
      lone other run key out unended free owned =
          sym (not_true (is_placed other.stage) out) ∙ and_first (is_placed other.stage) (is_present other run) owned

module _ (s : State) (task : TaskRow) where
  -- no task of the job is placed after the step, if none was before it
  none_placed : not (is_placed task.stage) ≡ true → (id : List ℕ) → list_any (is_placed_in id) s.tasks ≡ false
      → list_any (is_placed_in id) (put_task task s).tasks ≡ false
  none_placed out id k =
      none_any (is_placed_in id) (put_task task s).tasks
      (each_change_same (is_task task.job task.id) (λ (old : TaskRow). task) (λ other. not (is_placed_in id other))
      (λ x t p. not_both (is_placed task.stage) _ out) s.tasks (any_none (is_placed_in id) s.tasks k))
    where
      not_both : (a b : Bool) → not a ≡ true → not (a && b) ≡ true
      not_both true b m = cc
      not_both false b m = refl

  -- a valid task that is not placed, in the place of the one with its key
  limited_task_put : IsWithinLimits s → is_task_valid s.moment task ≡ true → not (is_placed task.stage) ≡ true → IsWithinLimits (put_task task s)
  limited_task_put h valid out = record {
    rows = record {
      moment = h.rows.moment;
      pools = h.rows.pools;
      nodes = h.rows.nodes;
      jobs = h.rows.jobs;
      tasks = each_change_same (is_task task.job task.id) (λ (old : TaskRow). task) (is_task_valid s.moment) (λ x t p. valid) s.tasks h.rows.tasks;
      runs = h.rows.runs;
      samples = h.rows.samples;
      scales = h.rows.scales;
    };
    counts = record {
      pools = h.counts.pools;
      jobs = h.counts.jobs;
      tasks = change_keeps_length (is_task task.job task.id) (λ (old : TaskRow). task) task_limit s.tasks h.counts.tasks;
      first_node = h.counts.first_node;
      next_node = h.counts.next_node;
      first_run = h.counts.first_run;
      next_run = h.counts.next_run;
    };
    quiet =
        each_weaker (has_no_placed_if_quiet s) (has_no_placed_if_quiet (put_task task s))
        (λ job. less_placed (is_quiet job.state) (list_any (is_placed_in job.id) s.tasks) (list_any (is_placed_in job.id) (put_task task s).tasks)
        (none_placed out job.id))
        s.jobs h.quiet;
    pools = record {
      deleting = h.pools.deleting;
      pools_of_scales = h.pools.pools_of_scales;
      pools_of_samples = h.pools.pools_of_samples;
      labels = h.pools.labels;
      order = h.pools.order;
      covered = h.pools.covered;
      kept = h.pools.kept;
    };
  }

  -- such a row, with which the rows fit each other
  pub sound_task_put : (seats : ℕ) → IsSound seats s → IsConsistent seats (put_task task s) → is_task_valid s.moment task ≡ true
      → not (is_placed task.stage) ≡ true → IsSound seats (put_task task s)
  sound_task_put seats h consistent valid out = record {
    consistent = consistent;
    limited = limited_task_put h.limited valid out;
    unended = h.unended;
    starts = record { usable = h.starts.usable; tries = h.starts.tries };
    preparing = preps_with_tasks s (put_task task s).tasks h.preparing;
    resting = h.resting;
  }
