-- A node that is prepared before a task is placed on it: the tables are sound, and as little is left to do.
use Rattle.std.proofs.Common.{◌≡◌, ℕ, ◌+◌, ◌<◌, Bool, true, false, not, ◌&&◌, ◌||◌, nat_eq, nat_lt, List, Option, Some, None, cond, count_by, find, refl, sym, ◌∙◌, arith}
use Rattle.std.specs.List.{list_any}
use Rattle.std.specs.Cmp.{nat_eq_equiv}
use Rattle.std.proofs.lemmas.Bool.Decides.{nat_tests}
use Rattle.bt_base.specs.Ids.{same}
use Rattle.bt_base.proofs.SameIds.{same_equiv}
use Rattle.bt_rows.specs.Lists.{AreDistinct}
use Rattle.bt_rows.specs.Keys.{same_job, same_job_equiv, same_prep}
use Rattle.batch_model.specs.Finding.{Each, names, has_number_left}
use Rattle.batch_model.specs.Rows.{is_node, is_job, is_prep, put_task, add_prep_row}
use Rattle.batch_model.specs.Runs.{is_open_preparation, is_at_prep, is_release, is_unended, is_preparation, job_run}
use Rattle.batch_model.specs.Jobs.{is_job_active, is_job_completed}
use Rattle.batch_model.specs.JobRules.{is_unended_of}
use Rattle.batch_model.specs.Preps.{new_prep, has_preparation}
use Rattle.batch_model.specs.Placing.{begin_preparation, prepare_with, prepare, first_state, placed_run, place, placed}
use Rattle.batch_model.specs.Sound.{IsSound, PreparationsAreSound, has_node_row, has_prep_where, runs_yet, is_completed_prep, is_released, has_running_prep}
use Rattle.batch_model.specs.Sound.{prepare_the_same, waits_in, is_work_begun, is_prepared_run, has_known_release}
use Rattle.batch_model.specs.WellFormed.{is_preparing, has_few_preparations, has_job_row}
use Rattle.batch_model.specs.Variants.{State, NodeRow, JobRow, JobState, JobActive, Disabling, Disabled, Enabling, Terminating, JobCompleted, Deleting, StartTask}
use Rattle.batch_model.specs.Variants.{TaskRow, RunRow, PrepRun, PrepRow}
use Rattle.model_lists.proofs.Tests.{and_true, and_first, and_second, asked, true_not}
use Rattle.model_lists.proofs.RowLists.{each_append, each_weaker, any_found, any_append_old, any_append_new, any_weaker, none_any, none_found}
use Rattle.model_lists.proofs.DistinctLists.{distinct_append, each_with_key}
use Rattle.model_lists.proofs.NextNumbers.{is_itself}
use Rattle.model_lists.proofs.RowSums.{count_none}
use Rattle.model_tables.proofs.PrepsKept.{preps_run_added, rest_run_added}
use Rattle.model_tables.proofs.JobRunAdded.{sound_job_run_added}
use Rattle.model_rules.proofs.place.Consistent.{placed_with}

-- an active job is not completed
active_goes_on : (state : JobState) → is_job_active state ≡ true → not (is_job_completed state) ≡ true
active_goes_on JobActive h = refl
active_goes_on Disabling h = cc
active_goes_on Disabled h = cc
active_goes_on Enabling h = cc
active_goes_on Terminating h = cc
active_goes_on JobCompleted h = cc
active_goes_on Deleting h = cc

-- no run of a job that is there and not completed keeps a completed one busy
pub goes_on : (jobs : List JobRow) (job : JobRow) (run : RunRow) → AreDistinct same_job jobs → find (λ (other : JobRow). same_job other job) jobs ≡ Some job
    → is_job_active job.state ≡ true → ((id : List ℕ) → names run.job id ≡ true → same id job.id ≡ true)
    → Each (λ (other : JobRow). not (is_job_completed other.state && is_unended_of other.id run)) jobs
goes_on jobs job run keys found active name =
    each_weaker (λ (other : JobRow). not (same_job other job) || not (is_job_completed other.state))
    (λ (other : JobRow). not (is_job_completed other.state && is_unended_of other.id run))
    (λ other k. apart (same_job other job) (is_job_completed other.state) (names run.job other.id) (is_unended run.state) (name other.id) k) jobs
    (each_with_key same_job same_job_equiv (λ (other : JobRow). not (is_job_completed other.state)) job job jobs keys found (active_goes_on job.state active))
  where
    apart : (a b c d : Bool) → (c ≡ true → a ≡ true) → (not a || not b) ≡ true → not (b && (c && d)) ≡ true
    apart a b false d e k = off b
      where
        off : (x : Bool) → not (x && false) ≡ true
        off true = refl
        off false = refl
    apart true true true d e k = cc
    apart true false true d e k = refl
    apart false b true d e k = let n : false ≡ true = e refl in cc

module _ (seats : ℕ) (s : State) (h : IsSound seats s) (job : JobRow) (found : find (λ (other : JobRow). same_job other job) s.jobs ≡ Some job)
    (active : is_job_active job.state ≡ true) (node : NodeRow) (there : has_node_row s node.number ≡ true)
    (in_pool : Each (λ (other : NodeRow). not (is_node node.number other) || same other.pool node.pool) s.nodes)
    (left : has_number_left s.next_run ≡ true) where
  -- the job has a row
  job_there : has_job_row s job.id ≡ true
  job_there = any_found (is_job job.id) (λ (other : JobRow). same_job other job) job s.jobs found (same_equiv.refl job.id)

  module _ (fresh : has_preparation s job.id node.number ≡ false) (preparation : StartTask) where
    -- the new preparation, and the tables with it
    abbrev prep : PrepRow
    prep = new_prep job.id node.number

    abbrev begun : State
    begun = add_prep_row prep s

    -- it is the first of its job there
    none_there : list_any (is_prep job.id node.number) s.preps ≡ false
    none_there = none_found (is_prep job.id node.number) s.preps fresh

    -- no unended run prepares the node for the job
    none_open : (run : RunRow) → has_running_prep s run ≡ true → (is_open_preparation run && is_at_prep prep run) ≡ false
    none_open run k = either (is_open_preparation run && is_at_prep prep run) refl
      where
        at_key : (name : Option (List ℕ)) (other : PrepRow) → names name job.id ≡ true → names name other.job ≡ true → same other.job job.id ≡ true
        at_key None other n m = cc
        at_key (Some id) other n m = same_equiv.symm other.job job.id ∙ (sym (same_equiv.congr id job.id other.job n) ∙ m)

        either : (b : Bool) → (is_open_preparation run && is_at_prep prep run) ≡ b → b ≡ false
        either false e = refl
        either true e =
            let at : is_at_prep prep run ≡ true = and_second (is_open_preparation run) (is_at_prep prep run) e in
            let some : list_any (is_prep job.id node.number) s.preps ≡ true =
            any_weaker (λ (other : PrepRow). is_at_prep other run && runs_yet other) (is_prep job.id node.number)
            (λ other m. let other_at : is_at_prep other run ≡ true = and_first (is_at_prep other run) (runs_yet other) m in
            and_true (at_key run.job other (and_first (names run.job job.id) _ at) (and_first (names run.job other.job) _ other_at))
            (nat_eq_equiv.symm other.node node.number ∙ (sym (nat_eq_equiv.congr run.node node.number other.node (and_second (names run.job job.id) _ at))
            ∙ and_second (names run.job other.job) _ other_at)))
            s.preps (asked (is_open_preparation run) (has_prep_where runs_yet s run) k (and_first (is_open_preparation run) (is_at_prep prep run) e))
            in
            let none : list_any (is_prep job.id node.number) s.preps ≡ false = none_there in
            cc

    -- few runs were made for it
    few : has_few_preparations s prep ≡ true
    few =
        none_is_few (count_by (is_preparing prep) s.runs) s.next_run
        (count_none (is_preparing prep) s.runs
        (each_weaker (has_running_prep s) (λ run. not (is_preparing prep run))
        (λ run k. true_not (regroup (is_preparation run.kind) (is_unended run.state) (names run.job job.id) (nat_eq run.node node.number) (none_open run k)))
        s.runs h.preparing.running))
        h.consistent.numbers.begun
      where
        none_is_few : (count next : ℕ) → count ≡ 0 → 0 < next → nat_lt (0 + count) next ≡ true
        none_is_few count next e k = rw e (grind (arith, nat_tests))

        regroup : (a b c d : Bool) → ((a && b) && (c && d)) ≡ false → (((a && b) && c) && d) ≡ false
        regroup true true true d k = k
        regroup true true false d k = refl
        regroup true false c d k = refl
        regroup false b c d k = refl

    -- a test that is asked for stays
    later : (a b c : Bool) → (b ≡ true → c ≡ true) → (not a || b) ≡ true → (not a || c) ≡ true
    later true b c e k = e k
    later false b c e k = refl

    -- preparations are sound
    preps_begun : PreparationsAreSound begun
    preps_begun = record {
      jobs_of_preps = each_append (λ (other : PrepRow). has_job_row s other.job) s.preps prep h.preparing.jobs_of_preps job_there;
      nodes_of_preps = each_append (λ (other : PrepRow). has_node_row s other.node) s.preps prep h.preparing.nodes_of_preps there;
      running =
          each_weaker (has_running_prep s) (has_running_prep begun)
          (λ run. later (is_open_preparation run) (has_prep_where runs_yet s run) (has_prep_where runs_yet begun run)
          (any_append_old (λ other. is_at_prep other run && runs_yet other) s.preps prep)) s.runs h.preparing.running;
      single = h.preparing.single;
      prepared =
          each_weaker (is_prepared_run s) (is_prepared_run begun)
          (λ run. later (is_work_begun run && waits_in s run) (has_prep_where is_completed_prep s run) (has_prep_where is_completed_prep begun run)
          (any_append_old (λ other. is_at_prep other run && is_completed_prep other) s.preps prep)) s.runs h.preparing.prepared;
      released =
          each_weaker (has_known_release s) (has_known_release begun)
          (λ run. later (is_release run.kind && has_node_row s run.node) (has_prep_where is_released s run) (has_prep_where is_released begun run)
          (any_append_old (λ other. is_at_prep other run && is_released other) s.preps prep)) s.runs h.preparing.released;
      tries = each_append (has_few_preparations s) s.preps prep h.preparing.tries few;
    }

    -- the tables with the preparation are sound
    sound_begun : IsSound seats begun
    sound_begun = record {
      consistent = record {
        keys = record {
          pools = h.consistent.keys.pools;
          nodes = h.consistent.keys.nodes;
          jobs = h.consistent.keys.jobs;
          tasks = h.consistent.keys.tasks;
          runs = h.consistent.keys.runs;
          preps = distinct_append same_prep s.preps prep h.consistent.keys.preps none_there;
          samples = h.consistent.keys.samples;
          scales = h.consistent.keys.scales;
        };
        numbers = record {
          begun = h.consistent.numbers.begun;
          runs = h.consistent.numbers.runs;
          nodes = h.consistent.numbers.nodes;
          nodes_of_runs = h.consistent.numbers.nodes_of_runs;
          order = h.consistent.numbers.order;
        };
        fitting = record {
          marks = h.consistent.fitting.marks;
          closing = h.consistent.fitting.closing;
          attempts = h.consistent.fitting.attempts;
        };
        named = record {
          jobs_of_tasks = h.consistent.named.jobs_of_tasks;
          jobs_of_runs = h.consistent.named.jobs_of_runs;
          tasks_of_runs = h.consistent.named.tasks_of_runs;
          main_runs = h.consistent.named.main_runs;
        };
        seated = record {
          distinct = h.consistent.seated.distinct;
          in_range = h.consistent.seated.in_range;
          few = h.consistent.seated.few;
          pools_of_nodes = h.consistent.seated.pools_of_nodes;
          nodes_of_runs = h.consistent.seated.nodes_of_runs;
        };
        belonging = h.consistent.belonging;
        ending = h.consistent.ending;
        naming = record { on_nodes = h.consistent.naming.on_nodes; of_jobs = h.consistent.naming.of_jobs };
        slots = h.consistent.slots;
        built = record { runs = h.consistent.built.runs };
      };
      limited = record {
        rows = record {
          moment = h.limited.rows.moment;
          pools = h.limited.rows.pools;
          nodes = h.limited.rows.nodes;
          jobs = h.limited.rows.jobs;
          tasks = h.limited.rows.tasks;
          runs = h.limited.rows.runs;
          samples = h.limited.rows.samples;
          scales = h.limited.rows.scales;
        };
        counts = record {
          pools = h.limited.counts.pools;
          jobs = h.limited.counts.jobs;
          tasks = h.limited.counts.tasks;
          first_node = h.limited.counts.first_node;
          next_node = h.limited.counts.next_node;
          first_run = h.limited.counts.first_run;
          next_run = h.limited.counts.next_run;
        };
        quiet = h.limited.quiet;
        pools = record {
          deleting = h.limited.pools.deleting;
          pools_of_scales = h.limited.pools.pools_of_scales;
          pools_of_samples = h.limited.pools.pools_of_samples;
          labels = h.limited.pools.labels;
          order = h.limited.pools.order;
          covered = h.limited.pools.covered;
          kept = h.limited.pools.kept;
        };
      };
      unended = h.unended;
      starts = record { usable = h.starts.usable; tries = h.starts.tries };
      preparing = preps_begun;
      resting = h.resting;
    }

    -- the new run
    abbrev run : RunRow
    run = job_run s node.number node.pool PrepRun preparation.line job.id

    sound_prepared : IsSound seats (begin_preparation job node preparation s)
    sound_prepared =
        let sound : IsSound seats begun = sound_begun in
        sound_job_run_added begun node.number node.pool PrepRun preparation.line job.id refl refl there in_pool job_there seats sound left
        (preps_run_added begun run
        (any_append_new (λ other. is_at_prep other run && runs_yet other) s.preps prep
        (and_true (and_true (same_equiv.refl job.id) (is_itself node.number)) refl))
        (none_any (λ other. prepare_the_same other run) s.runs
        (each_weaker (has_running_prep s) (λ other. not (prepare_the_same other run))
        (λ other k. true_not (regroup (is_open_preparation other) (names other.job job.id) (nat_eq other.node node.number) (none_open other k)))
        s.runs h.preparing.running))
        refl refl sound.preparing)
        (rest_run_added begun run
        (goes_on s.jobs job run h.consistent.keys.jobs found active (λ id e. same_equiv.symm id job.id ∙ e)) sound.resting)
      where
        regroup : (a b c : Bool) → (a && (b && c)) ≡ false → (((a && true) && c) && b) ≡ false
        regroup true true c k = both c k
          where
            both : (x : Bool) → x ≡ false → (x && true) ≡ false
            both true m = cc
            both false m = refl
        regroup true false c k = off c
          where
            off : (x : Bool) → (x && false) ≡ false
            off true = refl
            off false = refl
        regroup false b c k = refl

  -- the node is prepared, if it is to be
  pub sound_prepare : IsSound seats (prepare job node s)
  sound_prepare = by_prep job.prep
    where
      by_new : (preparation : StartTask) (b : Bool) → has_preparation s job.id node.number ≡ b → IsSound seats (cond b s (begin_preparation job node preparation s))
      by_new preparation true e = h
      by_new preparation false e = sound_prepared e preparation

      by_prep : (o : Option StartTask) → IsSound seats (prepare_with o job node s)
      by_prep None = h
      by_prep (Some preparation) = by_new preparation (has_preparation s job.id node.number) refl

-- placing is to prepare the node, and then to place the task there
pub place_is : (s : State) (job : JobRow) (task : TaskRow) (node : NodeRow)
    → (place s job task node).state ≡ placed_with (prepare job node s) node task (first_state (prepare job node s) job node)
place_is s job task node = by_prep job.prep
  where
    by_new : (preparation : StartTask) (b : Bool)
        → placed_run (cond b (put_task (placed task) s) (begin_preparation job node preparation (put_task (placed task) s))) job node (placed task)
        ≡ placed_with (cond b s (begin_preparation job node preparation s)) node task (first_state (cond b s (begin_preparation job node preparation s)) job node)
    by_new preparation true = refl
    by_new preparation false = refl

    by_prep : (o : Option StartTask)
        → placed_run (prepare_with o job node (put_task (placed task) s)) job node (placed task)
        ≡ placed_with (prepare_with o job node s) node task (first_state (prepare_with o job node s) job node)
    by_prep None = refl
    by_prep (Some preparation) = by_new preparation (has_preparation s job.id node.number)
