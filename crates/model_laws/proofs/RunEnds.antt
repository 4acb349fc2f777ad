-- What the ending of a run makes: a start or preparation run again after a failure that leaves a retry.
use Rattle.std.proofs.Common.{◌≡◌, ℕ, ◌+◌, Bool, true, false, Option, Some, None, cond, refl, ap}
use Rattle.bt_rows.specs.declared.event.EventKind.TheVariants.{End}
use Rattle.batch_model.specs.Endings.{is_success}
use Rattle.batch_model.specs.Events.{ended_run, ended_by, run_ended}
use Rattle.batch_model.specs.Finding.{at_row, is_within_limit, has_number_left}
use Rattle.batch_model.specs.Preparing.{prepared, counted_preparation, spent_preparation, waits_on, queued, preparation_done, is_waiting_on, prepare_again}
use Rattle.batch_model.specs.Preparing.{give_up, preparation_failed, preparation_of, preparation_ended_at, prep_of_run, released}
use Rattle.batch_model.specs.Preps.{change_prep, failed_preparation}
use Rattle.batch_model.specs.Rows.{is_run, run_of, node_of, change_runs}
use Rattle.batch_model.specs.Runs.{is_waiting, is_start, is_preparation, is_at_prep, start_run, job_run}
use Rattle.batch_model.specs.Starts.{is_tried_again, started_node, counted_node, failed_node, change_node, start_again, start_failed, start_of, start_ended_in}
use Rattle.batch_model.specs.Stops.{stop}
use Rattle.batch_model.specs.Variants.{State, NodeRow, NodeStage, Starting, Usable, StartFailed, Leaving, StartTask, WantRequeue, Ending, PrepRow, RunRow}
use Rattle.batch_model.specs.Variants.{RunKind, StartRun, PrepRun, TaskRun, CoordinationRun, ReleaseRun}
use Rattle.model_lists.proofs.Tests.{and_first}
use Rattle.model_laws.proofs.LastingRuns.{changed}
use Rattle.model_laws.proofs.StayingRuns.{queue_stays}
use Rattle.model_laws.proofs.MadeRuns.{same_runs, lasts_on, EventRuns, makes_none, makes_start, makes_preparation, runs_on}
use Rattle.model_laws.proofs.RunsKept.{stop_lasts, ended_lasts}

module _ (s : State) (number : ℕ) (ending : Ending) (run : RunRow) (found : run_of s number ≡ Some run) where
  -- the tables in which the run has ended
  abbrev pub with_ended : State
  with_ended = change_runs (is_run run.number) (ended_run s.moment ending) s

  -- what the event does then
  abbrev pub Does : State → Type 0
  Does t = EventRuns s (End number ending) with_ended t

  -- nothing is made
  none : (t : State) → t.runs ≡ with_ended.runs → t.next_run ≡ s.next_run → Does t
  none t e n = makes_none t (same_runs with_ended t e n)

  -- start runs

  module _ (start_kind : is_start run.kind ≡ true) where
    start_tried : (node : NodeRow) (start : StartTask) (b : Bool) → is_tried_again s (node.tries + 1) start ≡ b → node_of s run.node ≡ Some node
        → start_of s node ≡ Some start → is_success ending ≡ false
        → Does (cond b (start_again node start with_ended) (change_node node failed_node with_ended))
    start_tried node start true left there with_start failed =
        makes_start (change_node node counted_node with_ended) (start_run with_ended node start)
        (same_runs with_ended (change_node node counted_node with_ended) refl refl) refl refl
        (record {
          number = number;
          ending = ending;
          run = run;
          node = node;
          start = start;
          ended = refl;
          run_there = found;
          of_start = start_kind;
          failed = failed;
          node_there = there;
          start_there = with_start;
          left = and_first (is_within_limit (node.tries + 1) start.retries) (has_number_left s.next_run) left;
          next = refl;
          on_node = refl;
        })
    start_tried node start false left there with_start failed = none (change_node node failed_node with_ended) refl refl

    start_of_pool : (node : NodeRow) (start : Option StartTask) → start_of s node ≡ start → node_of s run.node ≡ Some node → is_success ending ≡ false
        → Does (at_row (start_failed node) start with_ended)
    start_of_pool node None with_start there failed = none with_ended refl refl
    start_of_pool node (Some start) with_start there failed =
        start_tried node start (is_tried_again s (node.tries + 1) start) refl there with_start failed

    start_by : (node : NodeRow) (b : Bool) → is_success ending ≡ b → node_of s run.node ≡ Some node
        → Does (cond b (change_node node started_node with_ended) (at_row (start_failed node) (start_of s node) with_ended))
    start_by node true e there = none (change_node node started_node with_ended) refl refl
    start_by node false e there = start_of_pool node (start_of s node) refl there e

    start_in_stage : (node : NodeRow) (stage : NodeStage) → node_of s run.node ≡ Some node → Does (start_ended_in stage node ending with_ended)
    start_in_stage node Starting = start_by node (is_success ending) refl
    start_in_stage node Usable = start_by node (is_success ending) refl
    start_in_stage node StartFailed = start_by node (is_success ending) refl
    start_in_stage node (Leaving option) = λ there. none with_ended refl refl

    start_on : (node : Option NodeRow) → node_of s run.node ≡ node
        → Does (at_row (λ (row : NodeRow). start_ended_in row.stage row ending) node with_ended)
    start_on None there = none with_ended refl refl
    start_on (Some node) there = start_in_stage node node.stage there

  -- preparation runs

  -- tasks that wait for it are requeued
  given_up : (prep : PrepRow) (b : Bool)
      → Does
      (cond b (stop (is_waiting_on with_ended prep) WantRequeue (change_prep prep spent_preparation with_ended))
      (change_prep prep spent_preparation with_ended))
  given_up prep true =
      let spent : State = change_prep prep spent_preparation with_ended in
      makes_none (stop (is_waiting_on with_ended prep) WantRequeue spent)
      (lasts_on with_ended spent (stop (is_waiting_on with_ended prep) WantRequeue spent) (same_runs with_ended spent refl refl)
      (stop_lasts (is_waiting_on with_ended prep) WantRequeue spent))
  given_up prep false = none (change_prep prep spent_preparation with_ended) refl refl

  -- runs that waited for it are queued
  done : (prep : PrepRow) → Does (preparation_done prep with_ended)
  done prep =
      let ready : State = change_prep prep prepared with_ended in
      makes_none (preparation_done prep with_ended)
      (record {
        runs =
            λ test lasts. changed test (waits_on prep) queued ready
            (λ row t. lasts.if_queued row (and_first (is_waiting row.state) (is_at_prep prep row) t));
        stay = λ test staying. queue_stays test staying (waits_on prep) ready;
        next = refl;
      })

  module _ (prep_kind : is_preparation run.kind ≡ true) where
    prep_tried : (prep : PrepRow) (preparation : StartTask) (b : Bool) → is_tried_again s (prep.tries + 1) preparation ≡ b → prep_of_run s run ≡ Some prep
        → preparation_of s prep ≡ Some preparation → is_success ending ≡ false
        → Does (cond b (prepare_again prep run preparation with_ended) (give_up prep preparation with_ended))
    prep_tried prep preparation true left there of_job failed =
        makes_preparation (change_prep prep counted_preparation with_ended)
        (job_run with_ended prep.node run.pool PrepRun preparation.line prep.job)
        (same_runs with_ended (change_prep prep counted_preparation with_ended) refl refl) refl refl
        (record {
          number = number;
          ending = ending;
          run = run;
          prep = prep;
          preparation = preparation;
          ended = refl;
          run_there = found;
          of_preparation = prep_kind;
          failed = failed;
          prep_there = there;
          preparation_there = of_job;
          left = and_first (is_within_limit (prep.tries + 1) preparation.retries) (has_number_left s.next_run) left;
          next = refl;
          on_node = refl;
          of_job = refl;
        })
    prep_tried prep preparation false left there of_job failed = given_up prep preparation.wait

    prep_of_job : (prep : PrepRow) (preparation : Option StartTask) → preparation_of s prep ≡ preparation → prep_of_run s run ≡ Some prep
        → is_success ending ≡ false → Does (at_row (preparation_failed prep run) preparation with_ended)
    prep_of_job prep None of_job there failed = none with_ended refl refl
    prep_of_job prep (Some preparation) of_job there failed =
        prep_tried prep preparation (is_tried_again s (prep.tries + 1) preparation) refl there of_job failed

    prep_by : (prep : PrepRow) (asked_to good : Bool) → is_success ending ≡ good → prep_of_run s run ≡ Some prep
        → Does
        (cond asked_to (change_prep prep failed_preparation with_ended)
        (cond good (preparation_done prep with_ended) (at_row (preparation_failed prep run) (preparation_of s prep) with_ended)))
    prep_by prep true good e there = none (change_prep prep failed_preparation with_ended) refl refl
    prep_by prep false true e there = done prep
    prep_by prep false false e there = prep_of_job prep (preparation_of s prep) refl there e

    prep_on : (prep : Option PrepRow) → prep_of_run s run ≡ prep
        → Does (at_row (λ (row : PrepRow). preparation_ended_at row run ending) prep with_ended)
    prep_on None there = none with_ended refl refl
    prep_on (Some prep) there = prep_by prep run.asked (is_success ending) refl there

  -- release runs

  release_on : (prep : Option PrepRow) → Does (at_row (λ (row : PrepRow). change_prep row released) prep with_ended)
  release_on None = none with_ended refl refl
  release_on (Some prep) = none (change_prep prep released with_ended) refl refl

  -- the kind of the run decides
  by_kind : (kind : RunKind) → run.kind ≡ kind → Does (ended_by kind run ending with_ended)
  by_kind StartRun e = start_on (ap is_start e) (node_of s run.node) refl
  by_kind PrepRun e = prep_on (ap is_preparation e) (prep_of_run s run) refl
  by_kind TaskRun e = none with_ended refl refl
  by_kind CoordinationRun e = none with_ended refl refl
  by_kind ReleaseRun e = release_on (prep_of_run s run)

  -- after the run has ended
  pub then_does : Does (run_ended s ending run)
  then_does = by_kind run.kind refl

  -- from the tables before
  pub ended_does : EventRuns s (End number ending) s (run_ended s ending run)
  ended_does = runs_on s with_ended (End number ending) (run_ended s ending run) (ended_lasts run.number ending s) then_does
