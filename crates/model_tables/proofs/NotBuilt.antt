-- What follows from what is not built: it goes with the definitions of NotBuilt.
use Rattle.std.proofs.Common.{◌≡◌, ℕ, Bool, true, false, not, ◌&&◌, ◌||◌}
use Rattle.std.proofs.Common.{is_none, refl}
use Rattle.batch_model.specs.Finding.{Each}
use Rattle.batch_model.specs.Runs.{is_unended, is_start, is_main, is_preparation, is_release, is_coordination}
use Rattle.batch_model.specs.Sound.{IsConsistent, has_node_while_unended, fits_nodes, names_no_task}
use Rattle.batch_model.specs.Variants.{State, RunRow, RunKind, StartRun, PrepRun, TaskRun, CoordinationRun, ReleaseRun}
use Rattle.model_lists.proofs.Tests.{and_second, and_first}
use Rattle.model_lists.proofs.RowLists.{each_of_three, each_and}
use Rattle.model_tables.proofs.StartRuns.{start_names_none}

-- what is built: the run is no coordination run, or has ended
abbrev pub is_built : RunRow → Bool
is_built run = not (is_coordination run.kind && is_unended run.state)

-- a run that names a task is a main run, or has ended
abbrev pub is_main_or_over : RunRow → Bool
is_main_or_over run = is_none run.task || (is_main run.kind || not (is_unended run.state))

-- the runs of consistent tables are such
pub runs_of_tasks : (seats : ℕ) (s : State) → IsConsistent seats s → Each is_main_or_over s.runs
runs_of_tasks seats s h =
    each_of_three (λ run. is_built run && names_no_task run) (has_node_while_unended s) (fits_nodes s) is_main_or_over
    (λ run both there fits. by_kind run.kind (is_unended run.state) (is_none run.task)
    (λ start unended. and_second (is_none run.job) _ (start_names_none s run start unended there fits)) (and_first (is_built run) _ both)
    (and_second (is_built run) (names_no_task run) both))
    s.runs (each_and is_built names_no_task s.runs h.built.runs h.naming.of_jobs) h.seated.nodes_of_runs h.naming.on_nodes
  where
    by_kind : (kind : RunKind) (unended none : Bool) → (is_start kind ≡ true → unended ≡ true → none ≡ true) → not (is_coordination kind && unended) ≡ true
        → (not ((is_preparation kind || is_release kind) && unended) || none) ≡ true → (none || (is_main kind || not unended)) ≡ true
    by_kind kind unended true start built named = refl
    by_kind TaskRun unended false start built named = refl
    by_kind StartRun false false start built named = refl
    by_kind StartRun true false start built named = let n : false ≡ true = start refl refl in cc
    by_kind PrepRun false false start built named = refl
    by_kind PrepRun true false start built named = cc
    by_kind CoordinationRun false false start built named = refl
    by_kind CoordinationRun true false start built named = cc
    by_kind ReleaseRun false false start built named = refl
    by_kind ReleaseRun true false start built named = cc
