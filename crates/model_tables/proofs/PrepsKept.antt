-- What is said of preparations and of completed jobs stays so when rows change that keep what they are of.
use Rattle.std.proofs.Common.{◌≡◌, ℕ, ◌≤◌, Bool, true, false, not, ◌&&◌, ◌||◌, nat_eq, List, [], ◌∷◌, ◌++◌, map, cond, count_by, refl, sym, ◌∙◌, ap}
use Rattle.std.specs.List.{list_any}
use Rattle.std.specs.Option.{option_map_or}
use Rattle.batch_model.specs.Finding.{Each, names}
use Rattle.batch_model.specs.Rows.{add_run_row}
use Rattle.batch_model.specs.Runs.{is_unended, is_waiting, is_preparation, is_release, is_work, is_open_preparation}
use Rattle.batch_model.specs.Jobs.{is_job_completed}
use Rattle.batch_model.specs.JobRules.{is_unended_of, has_unended_run}
use Rattle.batch_model.specs.Sound.{PreparationsAreSound, CompletedJobsRest, is_at_rest, has_node_row, has_prep_where, runs_yet, is_completed_prep, is_released}
use Rattle.batch_model.specs.Sound.{has_running_prep, prepare_the_same, waits_in, is_work_begun, is_prepared_run, has_known_release}
use Rattle.batch_model.specs.WellFormed.{is_preparing, has_few_preparations, has_job_row}
use Rattle.batch_model.specs.Variants.{State, PoolRow, JobRow, NodeRow, TaskRow, RunRow, PrepRow}
use Rattle.model_lists.proofs.Tests.{and_true, and_first, and_second}
use Rattle.model_lists.proofs.RowLists.{each_any, each_append, each_weaker, each_of_two, any_weaker, any_append}
use Rattle.model_lists.proofs.ChangedRows.{changed}
use Rattle.model_lists.proofs.MappedRows.{each_map, any_map, distinct_map}
use Rattle.model_lists.proofs.DistinctLists.{distinct_append}
use Rattle.model_lists.proofs.RowSums.{count_change_at_most, count_append}
use Rattle.model_tables.proofs.StartsKept.{few_still, few_next}

-- the run keeps what it is of, and doesn't begin again
pub record KeepsKind (old new : RunRow) : Type 0 where
  pub kind : new.kind ≡ old.kind
  pub node : new.node ≡ old.node
  pub job : new.job ≡ old.job
  pub unended : is_unended new.state ≡ true → is_unended old.state ≡ true

-- besides it waits as long as it did
pub record KeepsRun (old new : RunRow) : Type 0 where
  pub kind : new.kind ≡ old.kind
  pub node : new.node ≡ old.node
  pub job : new.job ≡ old.job
  pub unended : is_unended new.state ≡ true → is_unended old.state ≡ true
  pub waiting : is_unended new.state ≡ true → is_waiting old.state ≡ true → is_waiting new.state ≡ true

-- the first of these
pub kind_kept : (old new : RunRow) → KeepsRun old new → KeepsKind old new
kind_kept old new k = record { kind = k.kind; node = k.node; job = k.job; unended = k.unended }

-- a run keeps itself
pub keeps_itself : (run : RunRow) → KeepsRun run run
keeps_itself run = record { kind = refl; node = refl; job = refl; unended = λ h. h; waiting = λ h k. k }

-- a run that changes if it passes a test
pub keeps_changed : (test : RunRow → Bool) (change : RunRow → RunRow) (run : RunRow) → (test run ≡ true → KeepsRun run (change run))
    → KeepsRun run (changed test change run)
keeps_changed test change run keeps = either (test run) keeps
  where
    either : (b : Bool) → (b ≡ true → KeepsRun run (change run)) → KeepsRun run (cond b (change run) run)
    either true k = k refl
    either false k = keeps_itself run

-- a test that is asked for under a stronger condition
unless_more : (a b c : Bool) → (a ≡ true → b ≡ true) → (not b || c) ≡ true → (not a || c) ≡ true
unless_more true b c h k = rw (h refl) at k
unless_more false b c h k = refl

-- the same where the test is alike
unless_alike : (a b c d : Bool) → (a ≡ true → b ≡ true) → d ≡ c → (not b || c) ≡ true → (not a || d) ≡ true
unless_alike a b c d h e k = ap (λ t. not a || t) e ∙ unless_more a b c h k

-- two tests that fail together
fails_too : (a b : Bool) → (b ≡ true → a ≡ true) → a ≡ false → b ≡ false
fails_too a true h k = let e : a ≡ true = h refl in cc
fails_too a false h k = refl

-- what is not asked for of less
not_both : (a b c : Bool) → (c ≡ true → b ≡ true) → not (a && b) ≡ true → not (a && c) ≡ true
not_both true b true h k = rw (h refl) at k
not_both true b false h k = refl
not_both false b c h k = refl

-- a run that begins has begun before
begins : (w u q u' q' : Bool) → (u' ≡ true → u ≡ true) → (u' ≡ true → q ≡ true → q' ≡ true) → (w && u' && not q') ≡ true → (w && u && not q) ≡ true
begins true u true true true up still h = cc
begins true u true true false up still h = let n : false ≡ true = still refl refl in cc
begins true u false true q' up still h = rw (up refl) refl
begins true u q false q' up still h = cc
begins false u q u' q' up still h = cc

module _ (old new : RunRow) (keeps : KeepsKind old new) where
  -- an unended preparation run was one
  open_before : is_open_preparation new ≡ true → is_open_preparation old ≡ true
  open_before h =
      let kind : new.kind ≡ old.kind = keeps.kind in
      and_true (ap is_preparation (sym kind) ∙ and_first (is_preparation new.kind) (is_unended new.state) h)
      (keeps.unended (and_second (is_preparation new.kind) (is_unended new.state) h))

  -- it has the same preparations
  prep_kept : (test : PrepRow → Bool) (s : State) → has_prep_where test s new ≡ has_prep_where test s old
  prep_kept test s =
      let node : new.node ≡ old.node = keeps.node in
      let job : new.job ≡ old.job = keeps.job in
      rw (node, job) refl

  -- an unended run of a job was one
  unended_before : (job : List ℕ) → is_unended_of job new ≡ true → is_unended_of job old ≡ true
  unended_before job h =
      let name : new.job ≡ old.job = keeps.job in
      and_true (ap (λ o. names o job) (sym name) ∙ and_first (names new.job job) (is_unended new.state) h)
      (keeps.unended (and_second (names new.job job) (is_unended new.state) h))

  -- so was one that prepares
  preparing_before : (prep : PrepRow) → is_preparing prep new ≡ true → is_preparing prep old ≡ true
  preparing_before prep h =
      let kind : new.kind ≡ old.kind = keeps.kind in
      let node : new.node ≡ old.node = keeps.node in
      let job : new.job ≡ old.job = keeps.job in
      let same : (is_preparation old.kind && is_unended new.state && names old.job prep.job && nat_eq old.node prep.node) ≡ true = rw (kind, node, job) at h in
      and_true
      (and_true (and_true (and_first _ _ (and_first _ _ (and_first _ _ same))) (keeps.unended (and_second _ _ (and_first _ _ (and_first _ _ same)))))
      (and_second _ _ (and_first _ _ same)))
      (and_second _ _ same)

-- a run of a task that has begun had begun
begun_before : (old new : RunRow) → KeepsRun old new → is_work_begun new ≡ true → is_work_begun old ≡ true
begun_before old new keeps h =
    let kind : new.kind ≡ old.kind = keeps.kind in
    begins (is_work old.kind) (is_unended old.state) (is_waiting old.state) (is_unended new.state) (is_waiting new.state) keeps.unended keeps.waiting
    (rw kind at h)

-- two unended preparation runs of one job and node were so
same_before : (old new other later : RunRow) → KeepsKind old new → KeepsKind other later → prepare_the_same old other ≡ false
    → prepare_the_same new later ≡ false
same_before old new other later one two h =
    fails_too (prepare_the_same old other) (prepare_the_same new later) back h
  where
    back : prepare_the_same new later ≡ true → prepare_the_same old other ≡ true
    back k =
        let node : new.node ≡ old.node = one.node in
        let job : new.job ≡ old.job = one.job in
        let other_node : later.node ≡ other.node = two.node in
        let other_job : later.job ≡ other.job = two.job in
        let on_node : nat_eq old.node other.node ≡ true =
        rw (← node, ← other_node)
        (and_second (is_open_preparation new && is_open_preparation later) (nat_eq new.node later.node)
        (and_first _ (option_map_or (names new.job) later.job false) k))
        in
        let of_job : option_map_or (names old.job) other.job false ≡ true = rw (← job, ← other_job)
        (and_second (is_open_preparation new && is_open_preparation later && nat_eq new.node later.node) (option_map_or (names new.job) later.job false) k)
        in
        let first : is_open_preparation old ≡ true = open_before old new one
        (and_first (is_open_preparation new) (is_open_preparation later)
        (and_first _ (nat_eq new.node later.node) (and_first _ (option_map_or (names new.job) later.job false) k)))
        in
        let second : is_open_preparation other ≡ true = open_before other later two
        (and_second (is_open_preparation new) (is_open_preparation later)
        (and_first _ (nat_eq new.node later.node) (and_first _ (option_map_or (names new.job) later.job false) k)))
        in
        and_true (and_true (and_true first second) on_node) of_job

module _ (g : RunRow → RunRow) (keeps : (run : RunRow) → KeepsKind run (g run)) (s : State) where
  -- the tables after runs have changed
  abbrev after : State
  after = record s { runs = map g s.runs }

  -- preparations stay sound if runs of tasks stay prepared
  pub preps_with_runs_by : ((run : RunRow) → is_prepared_run s run ≡ true → is_prepared_run (record s { runs = map g s.runs }) (g run) ≡ true)
      → PreparationsAreSound s → PreparationsAreSound (record s { runs = map g s.runs })
  preps_with_runs_by prepared h = record {
    jobs_of_preps = h.jobs_of_preps;
    nodes_of_preps = h.nodes_of_preps;
    running =
        each_map g (has_running_prep s) (has_running_prep after)
        (λ run. unless_alike (is_open_preparation (g run)) (is_open_preparation run) (has_prep_where runs_yet s run) (has_prep_where runs_yet s (g run))
        (open_before run (g run) (keeps run)) (prep_kept run (g run) (keeps run) runs_yet s))
        s.runs h.running;
    single = distinct_map g prepare_the_same prepare_the_same (λ run other. same_before run (g run) other (g other) (keeps run) (keeps other)) s.runs h.single;
    prepared = each_map g (is_prepared_run s) (is_prepared_run after) prepared s.runs h.prepared;
    released =
        each_map g (has_known_release s) (has_known_release after)
        (λ run. unless_alike (is_release (g run).kind && has_node_row s (g run).node) (is_release run.kind && has_node_row s run.node)
        (has_prep_where is_released s run) (has_prep_where is_released s (g run)) (released_before run) (prep_kept run (g run) (keeps run) is_released s))
        s.runs h.released;
    tries =
        each_weaker (has_few_preparations s) (has_few_preparations after)
        (λ prep. few_still prep.tries (count_by (is_preparing prep) s.runs) (count_by (is_preparing prep) after.runs) s.next_run (fewer prep))
        s.preps h.tries;
  }
    where
      released_before : (run : RunRow) → (is_release (g run).kind && has_node_row s (g run).node) ≡ true → (is_release run.kind && has_node_row s run.node) ≡ true
      released_before run k =
          let one : KeepsKind run (g run) = keeps run in
          let kind : (g run).kind ≡ run.kind = one.kind in
          let node : (g run).node ≡ run.node = one.node in
          rw (kind, node) at k

      fewer : (prep : PrepRow) → count_by (is_preparing prep) after.runs ≤ count_by (is_preparing prep) s.runs
      fewer prep =
          count_change_at_most (λ run. true) g (λ run. true) (is_preparing prep) (λ run a t. preparing_before run (g run) (keeps run) prep) s.runs
          (each_any (λ run. true) (λ run. refl) s.runs)

  -- completed jobs rest still
  pub rest_with_runs_by : CompletedJobsRest s → CompletedJobsRest (record s { runs = map g s.runs })
  rest_with_runs_by h =
      each_weaker (is_at_rest s) (is_at_rest after)
      (λ job. not_both (is_job_completed job.state) (has_unended_run s job.id) (has_unended_run after job.id) (unended job.id)) s.jobs h
    where
      unended : (job : List ℕ) → has_unended_run after job ≡ true → has_unended_run s job ≡ true
      unended job k =
          any_weaker (λ run. is_unended_of job (g run)) (is_unended_of job) (λ run. unended_before run (g run) (keeps run) job) s.runs
          (sym (any_map g (is_unended_of job) s.runs) ∙ k)

module _ (g : RunRow → RunRow) (keeps : (run : RunRow) → KeepsRun run (g run)) (s : State) where
  -- runs of tasks that wait as long as they did stay prepared
  prepared_still : (run : RunRow) → is_prepared_run s run ≡ true → is_prepared_run (record s { runs = map g s.runs }) (g run) ≡ true
  prepared_still run =
      unless_alike (is_work_begun (g run) && waits_in s (g run)) (is_work_begun run && waits_in s run) (has_prep_where is_completed_prep s run)
      (has_prep_where is_completed_prep s (g run)) waits_before (prep_kept run (g run) (kind_kept run (g run) (keeps run)) is_completed_prep s)
    where
      waits_before : (is_work_begun (g run) && waits_in s (g run)) ≡ true → (is_work_begun run && waits_in s run) ≡ true
      waits_before k =
          let one : KeepsRun run (g run) = keeps run in
          let job : (g run).job ≡ run.job = one.job in
          let waits : waits_in s run ≡ waits_in s (g run) = rw job refl in
          and_true (begun_before run (g run) one (and_first _ _ k)) (waits ∙ and_second (is_work_begun (g run)) (waits_in s (g run)) k)

  -- preparations stay sound
  pub preps_with_runs : PreparationsAreSound s → PreparationsAreSound (record s { runs = map g s.runs })
  preps_with_runs = preps_with_runs_by g (λ run. kind_kept run (g run) (keeps run)) s prepared_still

  -- completed jobs rest still
  pub rest_with_runs : CompletedJobsRest s → CompletedJobsRest (record s { runs = map g s.runs })
  rest_with_runs = rest_with_runs_by g (λ run. kind_kept run (g run) (keeps run)) s

-- a run is added

module _ (s : State) (run : RunRow) where
  -- it has a preparation that runs if it is of one, is the only one, is prepared, and its release is known
  pub preps_run_added : has_running_prep s run ≡ true → list_any (λ other. prepare_the_same other run) s.runs ≡ false → is_prepared_run s run ≡ true
      → has_known_release s run ≡ true → PreparationsAreSound s → PreparationsAreSound (add_run_row run s)
  preps_run_added runs alone prepared known h = record {
    jobs_of_preps = h.jobs_of_preps;
    nodes_of_preps = h.nodes_of_preps;
    running = each_append (has_running_prep s) s.runs run h.running runs;
    single = distinct_append prepare_the_same s.runs run h.single alone;
    prepared = each_append (is_prepared_run s) s.runs run h.prepared prepared;
    released = each_append (has_known_release s) s.runs run h.released known;
    tries =
        each_weaker (has_few_preparations s) (has_few_preparations (add_run_row run s))
        (λ prep. few_next prep.tries (count_by (is_preparing prep) s.runs) (count_by (is_preparing prep) (s.runs ++ run ∷ [])) s.next_run (is_preparing prep run)
        (count_append (is_preparing prep) s.runs run))
        s.preps h.tries;
  }

  -- no completed job has it as an unended run
  pub rest_run_added : Each (λ (job : JobRow). not (is_job_completed job.state && is_unended_of job.id run)) s.jobs → CompletedJobsRest s
      → CompletedJobsRest (add_run_row run s)
  rest_run_added others h =
      each_of_two (λ (job : JobRow). not (is_job_completed job.state && is_unended_of job.id run)) (is_at_rest s) (is_at_rest (add_run_row run s))
      (λ job k m. neither (is_job_completed job.state) (is_unended_of job.id run) (has_unended_run s job.id) (has_unended_run (add_run_row run s) job.id)
      (any_append (is_unended_of job.id) s.runs run) k m)
      s.jobs others h
    where
      neither : (a b c d : Bool) → d ≡ (c || b) → not (a && b) ≡ true → not (a && c) ≡ true → not (a && d) ≡ true
      neither false b c d e k m = refl
      neither true true c d e k m = cc
      neither true false true d e k m = cc
      neither true false false d e k m = rw e refl

-- jobs change

module _ (s : State) (jobs : List JobRow) where
  -- jobs that had rows have them, and no run waits for a preparation that it didn't wait for
  pub preps_with_jobs : (a : RunRow → Bool) → ((id : List ℕ) → has_job_row s id ≡ true → has_job_row (record s { jobs = jobs }) id ≡ true)
      → ((run : RunRow) → a run ≡ true → waits_in (record s { jobs = jobs }) run ≡ true → waits_in s run ≡ true) → Each a s.runs → PreparationsAreSound s
      → PreparationsAreSound (record s { jobs = jobs })
  preps_with_jobs a there waits all h = record {
    jobs_of_preps =
        each_weaker (λ (prep : PrepRow). has_job_row s prep.job) (λ (prep : PrepRow). has_job_row (record s { jobs = jobs }) prep.job)
        (λ prep. there prep.job) s.preps h.jobs_of_preps;
    nodes_of_preps = h.nodes_of_preps;
    running = h.running;
    single = h.single;
    prepared =
        each_of_two a (is_prepared_run s) (is_prepared_run (record s { jobs = jobs }))
        (λ run e. unless_more (is_work_begun run && waits_in (record s { jobs = jobs }) run) (is_work_begun run && waits_in s run)
        (has_prep_where is_completed_prep s run)
        (λ k. and_true (and_first (is_work_begun run) _ k) (waits run e (and_second (is_work_begun run) _ k))))
        s.runs all h.prepared;
    released = h.released;
    tries = h.tries;
  }

-- nodes change

module _ (s : State) (nodes : List NodeRow) where
  -- nodes that had rows have them, and no other node has a run
  pub preps_with_nodes : (a : RunRow → Bool) → ((number : ℕ) → has_node_row s number ≡ true → has_node_row (record s { nodes = nodes }) number ≡ true)
      → ((run : RunRow) → a run ≡ true → has_node_row (record s { nodes = nodes }) run.node ≡ true → has_node_row s run.node ≡ true) → Each a s.runs
      → PreparationsAreSound s → PreparationsAreSound (record s { nodes = nodes })
  preps_with_nodes a there back all h = record {
    jobs_of_preps = h.jobs_of_preps;
    nodes_of_preps =
        each_weaker (λ (prep : PrepRow). has_node_row s prep.node) (λ (prep : PrepRow). has_node_row (record s { nodes = nodes }) prep.node)
        (λ prep. there prep.node) s.preps h.nodes_of_preps;
    running = h.running;
    single = h.single;
    prepared = h.prepared;
    released =
        each_of_two a (has_known_release s) (has_known_release (record s { nodes = nodes }))
        (λ run e. unless_more (is_release run.kind && has_node_row (record s { nodes = nodes }) run.node) (is_release run.kind && has_node_row s run.node)
        (has_prep_where is_released s run)
        (λ k. and_true (and_first (is_release run.kind) _ k) (back run e (and_second (is_release run.kind) _ k))))
        s.runs all h.released;
    tries = h.tries;
  }

-- pools and tasks change, and the last moment
pub preps_with_others : (s : State) (pools : List PoolRow) (tasks : List TaskRow) (moment : ℕ) → PreparationsAreSound s
    → PreparationsAreSound (record s { pools = pools; tasks = tasks; moment = moment })
preps_with_others s pools tasks moment h = record {
  jobs_of_preps = h.jobs_of_preps;
  nodes_of_preps = h.nodes_of_preps;
  running = h.running;
  single = h.single;
  prepared = h.prepared;
  released = h.released;
  tries = h.tries;
}

-- tasks change
pub preps_with_tasks : (s : State) (tasks : List TaskRow) → PreparationsAreSound s → PreparationsAreSound (record s { tasks = tasks })
preps_with_tasks s tasks h = preps_with_others s s.pools tasks s.moment h
