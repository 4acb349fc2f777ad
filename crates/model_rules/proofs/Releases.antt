-- The rules of release runs keep sound tables, and lower the rank: one is asked to stop, and one is made.
use Rattle.std.proofs.Common.{◌≡◌, ℕ, ◌+◌, ◌<◌, Bool, true, false, not, ◌&&◌, ◌||◌, nat_eq, List, [], ◌∷◌, ◌++◌, Option, Some, None, cond, count_by, find, is_none, is_some, option_map, option_and_then, refl, sym, ◌∙◌, subst, arith}
use Rattle.std.specs.List.{list_any}
use Rattle.std.specs.Cmp.{nat_eq_equiv}
use Rattle.bt_base.specs.Ids.{same}
use Rattle.bt_base.proofs.SameIds.{same_equiv}
use Rattle.bt_base.proofs.Turns.{lex_first, lex_next}
use Rattle.bt_rows.specs.Keys.{same_run, same_run_equiv, same_node, same_node_equiv, same_job, same_job_equiv, same_prep, same_prep_equiv}
use Rattle.bt_rows.proofs.DistinctRows.{found_first}
use Rattle.batch_model.specs.Finding.{Each, names, find_map, change_where, has_number_left}
use Rattle.batch_model.specs.Rows.{is_run, is_node, is_job, is_prep, node_of, job_of, prep_of}
use Rattle.batch_model.specs.Runs.{is_unended, is_taken, is_preparation, is_release, is_open_preparation, is_at_prep, asked_to_stop, halted_in, halted, job_run}
use Rattle.batch_model.specs.Jobs.{is_closing, is_job_completed}
use Rattle.batch_model.specs.Preps.{is_prepared, is_unreleased, change_prep}
use Rattle.batch_model.specs.JobRules.{wants_release, is_being_prepared, is_releasing, releasing, release_made, release_for, release_on, release_first, is_unended_of}
use Rattle.batch_model.specs.WallTimes.{can_be_asked, is_release_over, is_release_timed_out, release_timed_out, time_out_release_first}
use Rattle.batch_model.specs.Sound.{IsSound, has_node_row, names_no_task, prepare_the_same, is_released, has_prep_where, has_known_release}
use Rattle.batch_model.specs.WellFormed.{has_few_preparations}
use Rattle.batch_model.specs.Laws.{is_release_of}
use Rattle.batch_model.specs.Steps.{DueStep}
use Rattle.batch_model.specs.Variants.{State, NodeRow, JobRow, JobState, JobActive, Disabling, Disabled, Enabling, Terminating, JobCompleted, Deleting, ReleaseTask}
use Rattle.batch_model.specs.Variants.{RunRow, RunState, Waiting, Queued, Taken, Ended, Withdrawn, ReleaseRun, PrepRow, ReleaseRunning}
use Rattle.model_lists.proofs.Tests.{and_true, and_first, and_second, asked, true_not}
use Rattle.model_lists.proofs.RowLists.{each_any, each_weaker, each_found, any_found, find_test, find_agree, none_any}
use Rattle.model_lists.proofs.KeyedLists.{only_one}
use Rattle.model_lists.proofs.ChangedRows.{each_change_same, any_change}
use Rattle.model_lists.proofs.MappedRows.{map_found}
use Rattle.model_lists.proofs.DistinctLists.{each_with_key}
use Rattle.model_lists.proofs.NextNumbers.{is_itself}
use Rattle.model_lists.proofs.RowSums.{count_change_less, count_append}
use Rattle.model_tables.proofs.RunsHalted.{sound_runs_halted}
use Rattle.model_tables.proofs.PrepsChanged.{one_key, running_still, preps_changed, sound_preps_changed}
use Rattle.model_tables.proofs.PrepsKept.{preps_run_added, rest_run_added}
use Rattle.model_tables.proofs.JobRunAdded.{sound_job_run_added}
use Rattle.model_rules.proofs.Rules.{IsDueKept, from_map, from_then, from_only_if, from_first}

-- what is not beside a test
off : (a : Bool) → (a && false) ≡ false
off true = refl
off false = refl

-- a taken run is asked to stop if it is halted
taken_halts : (now : ℕ) (run : RunRow) → is_taken run.state ≡ true → asked_to_stop run ≡ halted now run
taken_halts now run h = by_state run.state h
  where
    by_state : (state : RunState) → is_taken state ≡ true → asked_to_stop run ≡ halted_in state now run
    by_state Waiting k = cc
    by_state Queued k = cc
    by_state Taken k = refl
    by_state (Ended ending) k = cc
    by_state Withdrawn k = cc

-- it has not ended
taken_unended : (state : RunState) → is_taken state ≡ true → is_unended state ≡ true
taken_unended Waiting h = cc
taken_unended Queued h = cc
taken_unended Taken h = refl
taken_unended (Ended ending) h = cc
taken_unended Withdrawn h = cc

-- one of two kinds
either_kind : (a b : Bool) → b ≡ true → (a || b) ≡ true
either_kind true b h = refl
either_kind false b h = h

module _ (seats : ℕ) (s : State) (h : IsSound seats s) where
  module _ (run : RunRow) (found : find (is_release_timed_out s) s.runs ≡ Some run) where
    -- it can be asked to stop
    could : can_be_asked run ≡ true
    could = and_first (can_be_asked run) (is_release_over s run) (find_test (is_release_timed_out s) run s.runs found)

    -- it was taken
    taken : is_taken run.state ≡ true
    taken = and_second (is_release run.kind) (is_taken run.state) (and_first _ (not run.asked) could)

    -- it is found by its number
    own : find (is_run run.number) s.runs ≡ Some run
    own = found_first same_run same_run_equiv (is_release_timed_out s) run s.runs h.consistent.keys.runs found

    -- it names no task
    free : is_none run.task ≡ true
    free =
        asked ((is_preparation run.kind || is_release run.kind) && is_unended run.state) (is_none run.task)
        (each_found names_no_task (is_release_timed_out s) run s.runs found h.consistent.naming.of_jobs)
        (and_true (either_kind (is_preparation run.kind) (is_release run.kind) (and_first (is_release run.kind) (is_taken run.state) (and_first _ (not run.asked) could)))
        (taken_unended run.state taken))

    -- the run with its number, which names no task
    abbrev is_it : RunRow → Bool
    is_it row = is_run run.number row && is_none row.task

    -- it is halted
    alike : change_where (is_run run.number) asked_to_stop s.runs ≡ change_where is_it (halted s.moment) s.runs
    alike =
        map_found same_run same_run_equiv (λ row. cond (is_run run.number row) (asked_to_stop row) row) (λ row. cond (is_it row) (halted s.moment row) row)
        (is_run run.number) (is_run run.number) run s.runs (λ row k. k) here (λ row k. rw k refl) h.consistent.keys.runs own
      where
        both : (a b : Bool) → a ≡ true → b ≡ true → cond a (asked_to_stop run) run ≡ cond (a && b) (halted s.moment run) run
        both true true e k = taken_halts s.moment run taken
        both true false e k = cc
        both false b e k = cc

        here : cond (is_run run.number run) (asked_to_stop run) run ≡ cond (is_it run) (halted s.moment run) run
        here = both (is_run run.number run) (is_none run.task) (is_itself run.number) free

    -- fewer runs can be asked
    fewer : count_by can_be_asked (change_where (is_run run.number) asked_to_stop s.runs) < count_by can_be_asked s.runs
    fewer =
        count_change_less (is_run run.number) asked_to_stop can_be_asked
        (λ row t k. let n : can_be_asked (asked_to_stop row) ≡ false = off (is_release row.kind && is_taken row.state) in cc)
        run s.runs own (is_itself run.number) could (off (is_release run.kind && is_taken run.state))

    -- it is asked to stop
    asked_kept : IsDueKept seats s (release_timed_out s run)
    asked_kept =
        let less = fewer in
        record {
          sound =
              subst (λ (runs : List RunRow). IsSound seats (record s { runs = runs })) (sym alike)
              (sound_runs_halted is_it s (λ row t. and_second (is_run run.number row) (is_none row.task) t) seats h);
          falls = lex_next _ _ _ _ (omega arith) (lex_next _ _ _ _ (omega arith) (lex_next _ _ _ _ (omega arith) (lex_first _ _ _ _ (omega (arith, less)) refl)));
          places = tt;
          ends = tt;
          releases = tt;
        }

  -- U3
  pub time_out_release_kept : (step : DueStep) → time_out_release_first s ≡ Some step → IsDueKept seats s step
  time_out_release_kept step e =
      let made = from_map (release_timed_out s) (find (is_release_timed_out s) s.runs) step e in
      subst (IsDueKept seats s) made.1 (asked_kept made.0 made.2)

-- a closing job is not completed
closing_goes_on : (state : JobState) → is_closing state ≡ true → not (is_job_completed state) ≡ true
closing_goes_on JobActive h = cc
closing_goes_on Disabling h = cc
closing_goes_on Disabled h = cc
closing_goes_on Enabling h = cc
closing_goes_on Terminating h = refl
closing_goes_on JobCompleted h = cc
closing_goes_on Deleting h = refl

-- what a test keeps
keeps_test : (a b : Bool) → (not (a && b) || b) ≡ true
keeps_test true true = refl
keeps_test true false = refl
keeps_test false true = refl
keeps_test false false = refl

module _ (seats : ℕ) (s : State) (h : IsSound seats s) (left : has_number_left s.next_run ≡ true) (prep : PrepRow) (test : PrepRow → Bool)
    (found : find test s.preps ≡ Some prep) (wants : wants_release prep ≡ true) (node : NodeRow) (node_there : node_of s prep.node ≡ Some node)
    (job : JobRow) (job_there : job_of s prep.job ≡ Some job) (over : is_releasing s job ≡ true) (release : ReleaseTask) where
  -- the preparation
  abbrev is_marked : PrepRow → Bool
  is_marked = is_prep prep.job prep.node

  -- the tables in which its release is marked
  abbrev marked : State
  marked = change_prep prep releasing s

  sound_marked : IsSound seats marked
  sound_marked =
      sound_preps_changed is_marked (λ other. other.state) (λ other. other.tries) (λ other. other.ran) (λ other. ReleaseRunning) s seats h
      (preps_changed is_marked (λ other. other.state) (λ other. other.tries) (λ other. other.ran) (λ other. ReleaseRunning) s
      (running_still is_marked (λ other. other.state) (λ other. other.tries) (λ other. other.ran) (λ other. ReleaseRunning) s (λ other t k. k) h.preparing.running)
      (each_any (λ (other : PrepRow). not (is_marked other && is_prepared other.state) || is_prepared other.state)
      (λ other. keeps_test (is_marked other) (is_prepared other.state)) s.preps)
      (λ other t k. refl)
      (each_change_same is_marked releasing (has_few_preparations s) (λ other t k. k) s.preps h.preparing.tries)
      h.preparing)

  -- the new run
  abbrev run : RunRow
  run = job_run s node.number node.pool ReleaseRun release.line job.id

  -- the keys
  same_job_id : same job.id prep.job ≡ true
  same_job_id = find_test (is_job prep.job) job s.jobs job_there

  same_number : nat_eq node.number prep.node ≡ true
  same_number = find_test (is_node prep.node) node s.nodes node_there

  -- its release was made
  known : has_prep_where is_released marked run ≡ true
  known =
      any_change is_marked releasing is_marked (λ (other : PrepRow). is_at_prep other run && is_released other)
      (λ other t p. and_true
      (and_true (same_equiv.congr job.id prep.job other.job same_job_id ∙ (same_equiv.symm prep.job other.job ∙ and_first (same other.job prep.job) _ t))
      (nat_eq_equiv.congr node.number prep.node other.node same_number ∙ (nat_eq_equiv.symm prep.node other.node ∙ and_second (same other.job prep.job) _ t)))
      refl)
      (λ other t p. cc) s.preps
      (any_found is_marked test prep s.preps found (and_true (same_equiv.refl prep.job) (is_itself prep.node)))

  -- its job is not completed
  goes_on : Each (λ (other : JobRow). not (is_job_completed other.state && is_unended_of other.id run)) s.jobs
  goes_on =
      each_weaker (λ (other : JobRow). not (same_job other job) || not (is_job_completed other.state))
      (λ (other : JobRow). not (is_job_completed other.state && is_unended_of other.id run))
      (λ other k. apart (same_job other job) (is_job_completed other.state) (same job.id other.id) (same_equiv.symm other.id job.id) k) s.jobs
      (each_with_key same_job same_job_equiv (λ (other : JobRow). not (is_job_completed other.state)) job job s.jobs h.consistent.keys.jobs
      (found_first same_job same_job_equiv (is_job prep.job) job s.jobs h.consistent.keys.jobs job_there)
      (closing_goes_on job.state (and_first (is_closing job.state) _ (and_first _ (not (is_being_prepared s job.id)) over))))
    where
      apart : (a b c : Bool) → a ≡ c → (not a || not b) ≡ true → not (b && (c && true)) ≡ true
      apart true true c e k = cc
      apart true false c e k = refl
      apart false b true e k = cc
      apart false true false e k = refl
      apart false false false e k = refl

  -- the node is there
  in_pool : Each (λ (other : NodeRow). not (is_node node.number other) || same other.pool node.pool) s.nodes
  in_pool =
      each_with_key same_node same_node_equiv (λ (other : NodeRow). same other.pool node.pool) node node s.nodes h.consistent.keys.nodes
      (found_first same_node same_node_equiv (is_node prep.node) node s.nodes h.consistent.keys.nodes node_there)
      (same_equiv.refl node.pool)

  sound_made : IsSound seats (release_made s prep node job release).state
  sound_made =
      let sound : IsSound seats marked = sound_marked in
      sound_job_run_added marked node.number node.pool ReleaseRun release.line job.id refl refl
      (any_found (is_node node.number) (is_node prep.node) node s.nodes node_there (is_itself node.number)) in_pool
      (any_found (is_job job.id) (is_job prep.job) job s.jobs job_there (same_equiv.refl job.id))
      seats sound left
      (preps_run_added marked run refl
      (none_any (λ other. prepare_the_same other run) s.runs
      (each_any (λ other. not (prepare_the_same other run))
      (λ other. true_not (none_same (is_open_preparation other) (nat_eq other.node node.number) (names other.job job.id))) s.runs))
      refl (or_known (has_node_row marked node.number)) sound.preparing)
      (rest_run_added marked run goes_on sound.resting)
    where
      none_same : (a b c : Bool) → (((a && false) && b) && c) ≡ false
      none_same true b c = refl
      none_same false b c = refl

      or_known : (a : Bool) → (not a || has_prep_where is_released marked run) ≡ true
      or_known true = known
      or_known false = refl

  -- the preparation is the one of the job on the node
  prep_there : prep_of s job.id node.number ≡ Some prep
  prep_there =
      find_agree (is_prep job.id node.number) (λ other. same_prep other prep)
      (λ other. alike (same other.job job.id) (same other.job prep.job) (nat_eq other.node node.number) (nat_eq other.node prep.node)
      (same_equiv.symm other.job job.id ∙ (same_equiv.congr job.id prep.job other.job same_job_id ∙ same_equiv.symm prep.job other.job))
      (nat_eq_equiv.symm other.node node.number ∙ (nat_eq_equiv.congr node.number prep.node other.node same_number ∙ nat_eq_equiv.symm prep.node other.node)))
      s.preps
      ∙ found_first same_prep same_prep_equiv test prep s.preps h.consistent.keys.preps found
    where
      alike : (a b c d : Bool) → a ≡ b → c ≡ d → (a && c) ≡ (b && d)
      alike a b c d e k = rw (e, k) refl

  -- no release run of the job was made there
  is_first : list_any (is_release_of job.id node.number) s.runs ≡ false
  is_first =
      none_any (is_release_of job.id node.number) s.runs
      (each_weaker (has_known_release s) (λ other. not (is_release_of job.id node.number other)) (λ other k. either other (is_release_of job.id node.number other) refl k)
      s.runs h.preparing.released)
    where
      at_prep : (name : Option (List ℕ)) → names name job.id ≡ true → names name prep.job ≡ true
      at_prep None e = cc
      at_prep (Some id) e = same_equiv.congr id job.id prep.job e ∙ same_job_id

      at_node : (number : ℕ) → nat_eq number node.number ≡ true → nat_eq number prep.node ≡ true
      at_node number e = nat_eq_equiv.congr number node.number prep.node e ∙ same_number

      row_there : (number : ℕ) → nat_eq number node.number ≡ true → has_node_row s number ≡ true
      row_there number e =
          any_found (is_node number) (is_node prep.node) node s.nodes node_there (nat_eq_equiv.symm node.number number ∙ e)

      either : (other : RunRow) (b : Bool) → is_release_of job.id node.number other ≡ b → has_known_release s other ≡ true → not b ≡ true
      either other false e k = refl
      either other true e k =
          let on : nat_eq other.node node.number ≡ true = and_second (is_release other.kind && names other.job job.id) _ e in
          let kind : (is_release other.kind && names other.job job.id) ≡ true = and_first _ (nat_eq other.node node.number) e in
          let at : is_at_prep prep other ≡ true = and_true (at_prep other.job (and_second (is_release other.kind) _ kind)) (at_node other.node on) in
          let some : has_prep_where is_released s other ≡ true =
          asked (is_release other.kind && has_node_row s other.node) (has_prep_where is_released s other) k
          (and_true (and_first (is_release other.kind) _ kind) (row_there other.node on))
          in
          let all : Each (λ (one : PrepRow). not (is_at_prep one other) || is_released one) s.preps =
          only_one same_prep (λ (one : PrepRow). is_at_prep one other) is_released (one_key other) s.preps h.consistent.keys.preps some in
          let made : not (is_unreleased prep.release) ≡ true =
          asked (is_at_prep prep other) (is_released prep)
          (each_found (λ (one : PrepRow). not (is_at_prep one other) || is_released one) test prep s.preps found all) at in
          let unmade : is_unreleased prep.release ≡ true = and_second (is_prepared prep.state && prep.ran) (is_unreleased prep.release) wants in
          absurd_both (is_unreleased prep.release) made unmade
        where
          absurd_both : {P : Type 0} (a : Bool) → not a ≡ true → a ≡ true → P
          absurd_both true m n = cc
          absurd_both false m n = cc

  -- fewer releases are to be made
  made_kept : IsDueKept seats s (release_made s prep node job release)
  made_kept =
      let fewer : count_by wants_release (change_where is_marked releasing s.preps) < count_by wants_release s.preps =
      count_change_less is_marked releasing wants_release
      (λ other t k. let n : wants_release (releasing other) ≡ false = off (is_prepared other.state && other.ran) in cc)
      prep s.preps (found_first same_prep same_prep_equiv test prep s.preps h.consistent.keys.preps found)
      (and_true (same_equiv.refl prep.job) (is_itself prep.node)) wants (off (is_prepared prep.state && prep.ran))
      in
      let none : count_by can_be_asked (s.runs ++ run ∷ []) ≡ count_by can_be_asked s.runs + 0 = count_append can_be_asked s.runs run in
      record {
        sound = sound_made;
        falls = lex_next _ _ _ _ (omega arith) (lex_next _ _ _ _ (omega arith) (lex_next _ _ _ _ (omega arith) (lex_first _ _ _ _ (omega (arith, fewer, none)) refl)));
        places = tt;
        ends = tt;
        releases = record { prep = prep; there = prep_there; completed = and_first _ prep.ran (and_first _ (is_unreleased prep.release) wants); first = is_first };
      }

-- U9
pub release_kept : (seats : ℕ) (s : State) → IsSound seats s → (step : DueStep) → release_first s ≡ Some step → IsDueKept seats s step
release_kept seats s h step e =
    let left = from_only_if (has_number_left s.next_run) (find_map (release_on s) s.preps) step e in
    let first = from_first (release_on s) s.preps step left.1 in
    let wanted =
    from_only_if (wants_release first.0) (option_and_then (λ node. option_and_then (release_for s first.0 node) (job_of s first.0.job)) (node_of s first.0.node))
    step first.1
    in
    let at_node = from_then (λ node. option_and_then (release_for s first.0 node) (job_of s first.0.job)) (node_of s first.0.node) step wanted.1 in
    let of_job = from_then (release_for s first.0 at_node.0) (job_of s first.0.job) step at_node.1 in
    let over = from_only_if (is_releasing s of_job.0) (option_map (release_made s first.0 at_node.0 of_job.0) of_job.0.release) step of_job.1 in
    let made = from_map (release_made s first.0 at_node.0 of_job.0) of_job.0.release step over.1 in
    subst (IsDueKept seats s) made.1
    (made_kept seats s h left.0 first.0 (λ row. is_some (release_on s row)) first.2 wanted.0 at_node.0 at_node.2 of_job.0 of_job.2 over.0 made.0)
