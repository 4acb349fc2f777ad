-- Preparations that change in place, and keep their jobs and nodes: tables with them are sound.
use Rattle.std.proofs.Common.{◌≡◌, ℕ, Bool, true, false, not, ◌&&◌, ◌||◌, List, Option, Some, None, refl, sym, ◌∙◌}
use Rattle.std.specs.List.{list_all}
use Rattle.std.specs.Cmp.{nat_eq_equiv}
use Rattle.bt_base.specs.Ids.{same}
use Rattle.bt_base.proofs.SameIds.{same_equiv}
use Rattle.bt_rows.specs.Lists.{AreDistinct}
use Rattle.bt_rows.specs.Keys.{same_prep}
use Rattle.batch_model.specs.Finding.{Each, names}
use Rattle.batch_model.specs.Rows.{change_preps}
use Rattle.batch_model.specs.Runs.{is_open_preparation, is_release, is_at_prep}
use Rattle.batch_model.specs.Preps.{is_prepared, is_prep_running, is_unreleased}
use Rattle.batch_model.specs.Sound.{IsSound, PreparationsAreSound, has_node_row, has_prep_where, runs_yet, is_completed_prep, is_released, has_running_prep}
use Rattle.batch_model.specs.Sound.{waits_in, is_work_begun, is_prepared_run, has_known_release}
use Rattle.batch_model.specs.WellFormed.{has_few_preparations, has_job_row}
use Rattle.batch_model.specs.Variants.{State, PrepRow, PrepState, ReleaseState, RunRow}
use Rattle.model_lists.proofs.Tests.{and_true, and_first, and_second, asked, under}
use Rattle.model_lists.proofs.RowLists.{each_any, each_weaker, each_of_two}
use Rattle.model_lists.proofs.ChangedRows.{each_change_same, any_change, any_change_where}
use Rattle.model_lists.proofs.DistinctLists.{distinct_change}
use Rattle.model_lists.proofs.KeyedLists.{only_one}
use Rattle.model_lists.proofs.KeptRows.{each_swap}

-- the preparation in a state, with failures, marks and a release
abbrev pub reformed : (PrepRow → PrepState) → (PrepRow → ℕ) → (PrepRow → Bool) → (PrepRow → ReleaseState) → PrepRow → PrepRow
reformed state_of tries_of ran_of release_of prep =
    record prep { state = state_of prep; tries = tries_of prep; ran = ran_of prep; release = release_of prep }

-- two preparations of a run's job on its node have one key
pub one_key : (run : RunRow) (one other : PrepRow) → is_at_prep one run ≡ true → is_at_prep other run ≡ true → same_prep one other ≡ true
one_key run one other h k =
    and_true
    (one_name run.job one.job other.job (and_first (names run.job one.job) _ h) (and_first (names run.job other.job) _ k))
    (sym (nat_eq_equiv.congr run.node one.node other.node (and_second (names run.job one.job) _ h)) ∙ and_second (names run.job other.job) _ k)
  where
    one_name : (name : Option (List ℕ)) (a b : List ℕ) → names name a ≡ true → names name b ≡ true → same a b ≡ true
    one_name None a b n m = cc
    one_name (Some id) a b n m = sym (same_equiv.congr id a b n) ∙ m

-- what asks less
asked_more : (a b c : Bool) → (b ≡ true → c ≡ true) → (not a || b) ≡ true → (not a || c) ≡ true
asked_more true b c h k = h k
asked_more false b c h k = refl

-- a preparation that has an unended run is running
pub open_preps_run : (s : State) → AreDistinct same_prep s.preps → Each (has_running_prep s) s.runs
    → Each (λ (prep : PrepRow). list_all (λ run. not (is_open_preparation run && is_at_prep prep run) || runs_yet prep) s.runs) s.preps
open_preps_run s keys h =
    each_swap (λ (run : RunRow) (prep : PrepRow). not (is_open_preparation run && is_at_prep prep run) || runs_yet prep) s.runs s.preps
    (each_weaker (has_running_prep s) (λ run. list_all (λ prep. not (is_open_preparation run && is_at_prep prep run) || runs_yet prep) s.preps)
    (λ run k. of_run run (is_open_preparation run) refl k) s.runs h)
  where
    of_run : (run : RunRow) (b : Bool) → is_open_preparation run ≡ b → has_running_prep s run ≡ true
        → Each (λ (prep : PrepRow). not (is_open_preparation run && is_at_prep prep run) || runs_yet prep) s.preps
    of_run run true e k =
        each_weaker (λ (prep : PrepRow). not (is_at_prep prep run) || runs_yet prep)
        (λ (prep : PrepRow). not (is_open_preparation run && is_at_prep prep run) || runs_yet prep) (λ prep m. rw e m) s.preps
        (only_one same_prep (λ (prep : PrepRow). is_at_prep prep run) runs_yet (one_key run) s.preps keys
        (asked (is_open_preparation run) (has_prep_where runs_yet s run) k e))
    of_run run false e k =
        each_any (λ (prep : PrepRow). not (is_open_preparation run && is_at_prep prep run) || runs_yet prep) (λ prep. rw e refl) s.preps

module _ (test : PrepRow → Bool) (state_of : PrepRow → PrepState) (tries_of : PrepRow → ℕ) (ran_of : PrepRow → Bool) (release_of : PrepRow → ReleaseState)
    (s : State) where
  -- the change, and the tables after it
  abbrev change : PrepRow → PrepRow
  change = reformed state_of tries_of ran_of release_of

  abbrev after : State
  after = change_preps test change s

  -- no changed preparation has an unended run: those that run still do
  pub running_apart : Each (λ run. list_all (λ prep. not (test prep && (is_open_preparation run && is_at_prep prep run))) s.preps) s.runs
      → Each (has_running_prep s) s.runs → Each (has_running_prep (change_preps test (reformed state_of tries_of ran_of release_of) s)) s.runs
  running_apart apart h =
      each_of_two (λ run. list_all (λ prep. not (test prep && (is_open_preparation run && is_at_prep prep run))) s.preps) (has_running_prep s)
      (has_running_prep after)
      (λ run a k. under (is_open_preparation run) (has_prep_where runs_yet after run)
      (λ e. any_change_where test change (λ prep. not (test prep && (is_open_preparation run && is_at_prep prep run)))
      (λ prep. is_at_prep prep run && runs_yet prep)
      (λ prep n t p. never (test prep) (is_open_preparation run) (is_at_prep prep run) t e (and_first (is_at_prep prep run) (runs_yet prep) p) n)
      s.preps a (asked (is_open_preparation run) (has_prep_where runs_yet s run) k e)))
      s.runs apart h
    where
      never : {P : Type 0} (a b c : Bool) → a ≡ true → b ≡ true → c ≡ true → not (a && (b && c)) ≡ true → P
      never true true true h k m n = cc
      never true true false h k m n = cc
      never true false c h k m n = cc
      never false b c h k m n = cc

  -- changed preparations that run still do
  pub running_still : ((prep : PrepRow) → test prep ≡ true → is_prep_running prep.state ≡ true → is_prep_running (state_of prep) ≡ true)
      → Each (has_running_prep s) s.runs → Each (has_running_prep (change_preps test (reformed state_of tries_of ran_of release_of) s)) s.runs
  running_still keeps h =
      each_weaker (has_running_prep s) (has_running_prep after)
      (λ run. asked_more (is_open_preparation run) (has_prep_where runs_yet s run) (has_prep_where runs_yet after run)
      (any_change test change (λ prep. is_at_prep prep run && runs_yet prep) (λ prep. is_at_prep prep run && runs_yet prep)
      (λ prep t p. and_true (and_first (is_at_prep prep run) _ p) (keeps prep t (and_second (is_at_prep prep run) _ p))) (λ prep t p. p) s.preps))
      s.runs h

  -- completed preparations stay such, releases that were made stay made, and few runs were made
  pub preps_changed : Each (has_running_prep (change_preps test (reformed state_of tries_of ran_of release_of) s)) s.runs
      → Each (λ (prep : PrepRow). not (test prep && is_prepared prep.state) || is_prepared (state_of prep)) s.preps
      → ((prep : PrepRow) → test prep ≡ true → not (is_unreleased prep.release) ≡ true → not (is_unreleased (release_of prep)) ≡ true)
      → Each (has_few_preparations s) (change_preps test (reformed state_of tries_of ran_of release_of) s).preps → PreparationsAreSound s
      → PreparationsAreSound (change_preps test (reformed state_of tries_of ran_of release_of) s)
  preps_changed running completed made few h = record {
    jobs_of_preps = each_change_same test change (λ (prep : PrepRow). has_job_row s prep.job) (λ prep t k. k) s.preps h.jobs_of_preps;
    nodes_of_preps = each_change_same test change (λ (prep : PrepRow). has_node_row s prep.node) (λ prep t k. k) s.preps h.nodes_of_preps;
    running = running;
    single = h.single;
    prepared =
        each_weaker (is_prepared_run s) (is_prepared_run after)
        (λ run. asked_more (is_work_begun run && waits_in s run) (has_prep_where is_completed_prep s run) (has_prep_where is_completed_prep after run)
        (any_change_where test change (λ prep. not (test prep && is_prepared prep.state) || is_prepared (state_of prep))
        (λ prep. is_at_prep prep run && is_completed_prep prep)
        (λ prep a t p. and_true (and_first (is_at_prep prep run) _ p)
        (asked (test prep && is_prepared prep.state) (is_prepared (state_of prep)) a (and_true t (and_second (is_at_prep prep run) (is_prepared prep.state) p))))
        s.preps completed))
        s.runs h.prepared;
    released =
        each_weaker (has_known_release s) (has_known_release after)
        (λ run. asked_more (is_release run.kind && has_node_row s run.node) (has_prep_where is_released s run) (has_prep_where is_released after run)
        (any_change test change (λ prep. is_at_prep prep run && is_released prep) (λ prep. is_at_prep prep run && is_released prep)
        (λ prep t p. and_true (and_first (is_at_prep prep run) _ p) (made prep t (and_second (is_at_prep prep run) _ p))) (λ prep t p. p) s.preps))
        s.runs h.released;
    tries = few;
  }

  -- tables with sound preparations are sound
  pub sound_preps_changed : (seats : ℕ) → IsSound seats s → PreparationsAreSound (change_preps test (reformed state_of tries_of ran_of release_of) s)
      → IsSound seats (change_preps test (reformed state_of tries_of ran_of release_of) s)
  sound_preps_changed seats h preparing = record {
    consistent = record {
      keys = record {
        pools = h.consistent.keys.pools;
        nodes = h.consistent.keys.nodes;
        jobs = h.consistent.keys.jobs;
        tasks = h.consistent.keys.tasks;
        runs = h.consistent.keys.runs;
        preps = distinct_change test change same_prep (λ x y t. refl) (λ x y t. refl) s.preps h.consistent.keys.preps;
        samples = h.consistent.keys.samples;
        scales = h.consistent.keys.scales;
      };
      numbers = record {
        begun = h.consistent.numbers.begun;
        runs = h.consistent.numbers.runs;
        nodes = h.consistent.numbers.nodes;
        nodes_of_runs = h.consistent.numbers.nodes_of_runs;
        order = h.consistent.numbers.order;
      };
      fitting = record {
        marks = h.consistent.fitting.marks;
        closing = h.consistent.fitting.closing;
        attempts = h.consistent.fitting.attempts;
      };
      named = record {
        jobs_of_tasks = h.consistent.named.jobs_of_tasks;
        jobs_of_runs = h.consistent.named.jobs_of_runs;
        tasks_of_runs = h.consistent.named.tasks_of_runs;
        main_runs = h.consistent.named.main_runs;
      };
      seated = record {
        distinct = h.consistent.seated.distinct;
        in_range = h.consistent.seated.in_range;
        few = h.consistent.seated.few;
        pools_of_nodes = h.consistent.seated.pools_of_nodes;
        nodes_of_runs = h.consistent.seated.nodes_of_runs;
      };
      belonging = h.consistent.belonging;
      ending = h.consistent.ending;
      naming = record { on_nodes = h.consistent.naming.on_nodes; of_jobs = h.consistent.naming.of_jobs };
      slots = h.consistent.slots;
      built = record { runs = h.consistent.built.runs };
    };
    limited = record {
      rows = record {
        moment = h.limited.rows.moment;
        pools = h.limited.rows.pools;
        nodes = h.limited.rows.nodes;
        jobs = h.limited.rows.jobs;
        tasks = h.limited.rows.tasks;
        runs = h.limited.rows.runs;
        samples = h.limited.rows.samples;
        scales = h.limited.rows.scales;
      };
      counts = record {
        pools = h.limited.counts.pools;
        jobs = h.limited.counts.jobs;
        tasks = h.limited.counts.tasks;
        first_node = h.limited.counts.first_node;
        next_node = h.limited.counts.next_node;
        first_run = h.limited.counts.first_run;
        next_run = h.limited.counts.next_run;
      };
      quiet = h.limited.quiet;
      pools = record {
        deleting = h.limited.pools.deleting;
        pools_of_scales = h.limited.pools.pools_of_scales;
        pools_of_samples = h.limited.pools.pools_of_samples;
        labels = h.limited.pools.labels;
        order = h.limited.pools.order;
        covered = h.limited.pools.covered;
        kept = h.limited.pools.kept;
      };
    };
    unended = h.unended;
    starts = record { usable = h.starts.usable; tries = h.starts.tries };
    preparing = preparing;
    resting = h.resting;
  }
