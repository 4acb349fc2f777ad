-- Tasks that keep their names and attempts, and of which none is placed that wasn't: tables with them are sound as far as
-- marks, closing, runs that belong and placed tasks that end allow.
use Rattle.std.proofs.Common.{◌≡◌, ℕ, ◌≤◌, Bool, true, false, ◌&&◌, ◌||◌, nat_eq, nat_lt, map, Option, is_none, refl, sym, ◌∙◌, ap}
use Rattle.std.specs.List.{list_any}
use Rattle.bt_rows.specs.Keys.{same_task}
use Rattle.batch_model.specs.Finding.{Each}
use Rattle.batch_model.specs.Runs.{is_present}
use Rattle.batch_model.specs.Tasks.{is_placed}
use Rattle.batch_model.specs.Slots.{owns, held_slots, holds_on}
use Rattle.batch_model.specs.Sound.{IsConsistent, RunsBelong, PlacedTasksEnd}
use Rattle.batch_model.specs.WellFormed.{has_fitting_marks, is_closed_if_completed, has_job_row, has_named_task, is_task_of_attempt}
use Rattle.batch_model.specs.Variants.{State, TaskRow, TaskStage, Want, Closed, Ending, RunRow}
use Rattle.model_lists.proofs.RowLists.{each_weaker, any_weaker}
use Rattle.model_lists.proofs.MappedRows.{each_map, any_map, distinct_map, sum_fewer}
use Rattle.model_tables.proofs.RunsMove.{slots_suffice}

-- the task at a stage, with its failures, marks and a closing
pub record Marks : Type 0 where
  pub stage : TaskStage
  pub failures : ℕ
  pub wanted : Option Want
  pub fail : Option Ending
  pub started : Option ℕ
  pub closed : Option Closed

-- the task with these marks
abbrev pub marked : (TaskRow → Marks) → TaskRow → TaskRow
marked marks task =
    record task {
      stage = (marks task).stage;
      failures = (marks task).failures;
      wanted = (marks task).wanted;
      fail = (marks task).fail;
      started = (marks task).started;
      closed = (marks task).closed;
    }

-- one of two under which the other stands
both_under : (a b c : Bool) → (b ≡ true → c ≡ true) → (a && b) ≡ true → (a && c) ≡ true
both_under true b c h k = h k
both_under false b c h k = k

-- the same beside
first_under : (a b c : Bool) → (a ≡ true → b ≡ true) → (a && c) ≡ true → (b && c) ≡ true
first_under true b c h k = rw (h refl) k
first_under false b c h k = cc

module _ (marks : TaskRow → Marks) where
  -- the tables after tasks have changed
  abbrev pub after : State → State
  after s = record s { tasks = map (marked marks) s.tasks }

  -- runs name the same tasks
  named_after : (s : State) (run : RunRow) → has_named_task (after s) run ≡ has_named_task s run
  named_after s run = ap (λ b. is_none run.task || b) (any_map (marked marks) (is_task_of_attempt run) s.tasks)

  module _ (falls : (task : TaskRow) → is_placed (marks task).stage ≡ true → is_placed task.stage ≡ true) where
    -- a run that a task owns after the change it has owned before
    owned_before : (s : State) (run : RunRow) → list_any (owns run) (map (marked marks) s.tasks) ≡ true → list_any (owns run) s.tasks ≡ true
    owned_before s run h =
        any_weaker (λ task. owns run (marked marks task)) (owns run)
        (λ task k. first_under (is_placed (marks task).stage) (is_placed task.stage) (is_present task run) (falls task) k)
        s.tasks (sym (any_map (marked marks) (owns run) s.tasks) ∙ h)

    -- nodes hold no more slots
    slots_after : (s : State) (node : ℕ) → held_slots (after s) node ≤ held_slots s node
    slots_after s node =
        sum_fewer (λ (run : RunRow). run.slots) (holds_on s node) (holds_on (after s) node)
        (λ run k. both_under (nat_eq run.node node) (list_any (owns run) (map (marked marks) s.tasks)) (list_any (owns run) s.tasks)
        (owned_before s run) k) s.runs

    -- tables whose tasks keep what they are
    pub consistent_marked : (seats : ℕ) (s : State) → IsConsistent seats s → Each has_fitting_marks (map (marked marks) s.tasks)
        → Each is_closed_if_completed (map (marked marks) s.tasks) → RunsBelong (record s { tasks = map (marked marks) s.tasks })
        → PlacedTasksEnd (record s { tasks = map (marked marks) s.tasks }) → IsConsistent seats (record s { tasks = map (marked marks) s.tasks })
    consistent_marked seats s h marks_fit closing_fits belong end = record {
      keys = record {
        pools = h.keys.pools;
        nodes = h.keys.nodes;
        jobs = h.keys.jobs;
        tasks = distinct_map (marked marks) same_task same_task (λ task other e. e) s.tasks h.keys.tasks;
        runs = h.keys.runs;
        preps = h.keys.preps;
        samples = h.keys.samples;
        scales = h.keys.scales;
      };
      numbers = record {
        begun = h.numbers.begun;
        runs = h.numbers.runs;
        nodes = h.numbers.nodes;
        nodes_of_runs = h.numbers.nodes_of_runs;
        order = h.numbers.order;
      };
      fitting = record {
        marks = marks_fit;
        closing = closing_fits;
        attempts =
            each_map (marked marks) (λ (task : TaskRow). nat_lt task.attempt s.next_run) (λ (task : TaskRow). nat_lt task.attempt s.next_run)
            (λ task e. e) s.tasks h.fitting.attempts;
      };
      named = record {
        jobs_of_tasks =
            each_map (marked marks) (λ (task : TaskRow). has_job_row s task.job) (λ (task : TaskRow). has_job_row s task.job)
            (λ task e. e) s.tasks h.named.jobs_of_tasks;
        jobs_of_runs = h.named.jobs_of_runs;
        tasks_of_runs = each_weaker (has_named_task s) (has_named_task (after s)) (λ run e. named_after s run ∙ e) s.runs h.named.tasks_of_runs;
        main_runs = h.named.main_runs;
      };
      seated = record {
        distinct = h.seated.distinct;
        in_range = h.seated.in_range;
        few = h.seated.few;
        pools_of_nodes = h.seated.pools_of_nodes;
        nodes_of_runs = h.seated.nodes_of_runs;
      };
      belonging = belong;
      ending = end;
      naming = record { on_nodes = h.naming.on_nodes; of_jobs = h.naming.of_jobs };
      slots = slots_suffice (held_slots (after s)) (held_slots s) s.pools (slots_after s) s.nodes h.slots;
      built = record { runs = h.built.runs };
    }
