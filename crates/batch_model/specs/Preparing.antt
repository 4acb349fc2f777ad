-- Preparation and release tasks: what the ending of a run of such a task does.
-- Source: Azure Batch documentation of job preparation and release; the form is this project's own.
use Rattle.std.specs.Prelude.{◌+◌, Bool, ◌&&◌, Option, if◌then◌else◌}
use Rattle.std.specs.Option.{option_and_then}
use Rattle.std.specs.List.{list_any}
use Rattle.batch_model.specs.Finding.{at_row}
use Rattle.batch_model.specs.Rows.{job_of, prep_of, change_runs, add_run_row}
use Rattle.batch_model.specs.Runs.{is_waiting, is_present, is_at_prep, job_run}
use Rattle.batch_model.specs.Tasks.{is_in_job}
use Rattle.batch_model.specs.Preps.{change_prep, failed_preparation}
use Rattle.batch_model.specs.Endings.{is_success}
use Rattle.batch_model.specs.Starts.{is_tried_again}
use Rattle.batch_model.specs.Stops.{stop}
use Rattle.batch_model.specs.Variants.{State, StartTask, TaskRow, WantRequeue, Ending, RunRow, PrepRun, Queued, PrepRow, PrepCompleted, ReleaseDone}

-- the preparation succeeded
abbrev pub prepared : PrepRow → PrepRow
prepared prep = record prep { state = PrepCompleted }

-- the preparation after one more failure
abbrev pub counted_preparation : PrepRow → PrepRow
counted_preparation prep = record prep { tries = prep.tries + 1 }

-- the preparation after its last failure
abbrev pub spent_preparation : PrepRow → PrepRow
spent_preparation prep = failed_preparation (counted_preparation prep)

-- the run waits for the preparation
abbrev pub waits_on : PrepRow → RunRow → Bool
waits_on prep run = is_waiting run.state && is_at_prep prep run

-- the run may be taken
abbrev pub queued : RunRow → RunRow
queued run = record run { state = Queued }

-- the preparation is completed, and the runs that waited for it are queued
abbrev pub preparation_done : PrepRow → State → State
preparation_done prep s = change_runs (waits_on prep) queued (change_prep prep prepared s)

-- a task of the preparation's job of which a run of the present attempt waits for it
abbrev pub is_waiting_on : State → PrepRow → TaskRow → Bool
is_waiting_on s prep task = is_in_job prep.job task && list_any (λ run. is_present task run && waits_on prep run) s.runs

-- the failure is counted, and the preparation is run again
abbrev pub prepare_again : PrepRow → RunRow → StartTask → State → State
prepare_again prep run preparation s =
    add_run_row (job_run s prep.node run.pool PrepRun preparation.line prep.job) (change_prep prep counted_preparation s)

-- the preparation has failed, and if it is waited for, the tasks that wait for it are requeued
abbrev pub give_up : PrepRow → StartTask → State → State
give_up prep preparation s =
    if preparation.wait then stop (is_waiting_on s prep) WantRequeue (change_prep prep spent_preparation s)
    else change_prep prep spent_preparation s

-- one more failure: the preparation is run again, or it has failed
abbrev pub preparation_failed : PrepRow → RunRow → StartTask → State → State
preparation_failed prep run preparation s =
    if is_tried_again s (prep.tries + 1) preparation then prepare_again prep run preparation s else give_up prep preparation s

-- the preparation task of the row's job
abbrev pub preparation_of : State → PrepRow → Option StartTask
preparation_of s prep = option_and_then (λ job. job.prep) (job_of s prep.job)

-- a preparation that was asked to stop has failed; else code 0 completes it, and another ending is a failure
abbrev pub preparation_ended_at : PrepRow → RunRow → Ending → State → State
preparation_ended_at prep run ending s =
    if run.asked then change_prep prep failed_preparation s
    else if is_success ending then preparation_done prep s
    else at_row (preparation_failed prep run) (preparation_of s prep) s

-- the preparation of the run's job on its node
abbrev pub prep_of_run : State → RunRow → Option PrepRow
prep_of_run s run = option_and_then (λ job. prep_of s job run.node) run.job

-- at that preparation
abbrev pub preparation_ended : RunRow → Ending → State → State
preparation_ended run ending s = at_row (λ prep. preparation_ended_at prep run ending) (prep_of_run s run) s

-- the release task has ended
abbrev pub released : PrepRow → PrepRow
released prep = record prep { release = ReleaseDone }

-- at the preparation of the run's job on its node
abbrev pub release_ended : RunRow → State → State
release_ended run s = at_row (λ prep. change_prep prep released) (prep_of_run s run) s
