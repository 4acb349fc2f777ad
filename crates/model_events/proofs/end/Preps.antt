-- A preparation or release run that ends leaves sound tables.
use Rattle.std.proofs.Common.{is_none, ◌≡◌, ℕ, ◌+◌, ◌<◌, Bool, true, false, not, ◌&&◌, ◌||◌, nat_eq, nat_lt, List, Option, Some, None, cond, count_by, refl, ◌∙◌, arith}
use Rattle.std.specs.List.{list_any, list_all, find}
use Rattle.std.specs.Option.{option_and_then}
use Rattle.std.specs.Cmp.{nat_eq_equiv}
use Rattle.std.proofs.lemmas.Bool.Decides.{nat_tests}
use Rattle.bt_base.specs.Ids.{same}
use Rattle.bt_base.proofs.SameIds.{same_equiv}
use Rattle.batch_model.specs.Finding.{Each, names, at_row, is_within_limit, has_number_left}
use Rattle.batch_model.specs.Rows.{is_run, is_node, is_prep, prep_of, change_runs, change_preps, add_run_row}
use Rattle.batch_model.specs.Runs.{is_taken, is_preparation, is_start, is_open_preparation, is_at_prep, job_run}
use Rattle.batch_model.specs.Preps.{is_prepared, change_prep, failed_preparation}
use Rattle.batch_model.specs.Endings.{is_success}
use Rattle.batch_model.specs.Starts.{is_tried_again}
use Rattle.batch_model.specs.Stops.{stop}
use Rattle.batch_model.specs.Preparing.{prepared, counted_preparation, spent_preparation, preparation_done, is_waiting_on, prepare_again, give_up}
use Rattle.batch_model.specs.Preparing.{preparation_failed, preparation_of, preparation_ended_at, prep_of_run, preparation_ended, released, release_ended}
use Rattle.batch_model.specs.Events.{ended_run}
use Rattle.batch_model.specs.Sound.{IsSound, is_at_rest, runs_yet, prepare_the_same, fits_nodes, is_of_pool, has_node_row}
use Rattle.batch_model.specs.Sound.{has_running_prep, is_completed_prep}
use Rattle.batch_model.specs.WellFormed.{is_preparing, has_few_preparations, has_job_row}
use Rattle.batch_model.specs.Jobs.{is_job_completed}
use Rattle.batch_model.specs.JobRules.{is_unended_of, has_unended_run}
use Rattle.batch_model.specs.Variants.{State, StartTask, JobRow, NodeRow, WantRequeue, Ending, RunRow, PrepRun}
use Rattle.batch_model.specs.Variants.{PrepRow, PrepState, PrepFailed, PrepCompleted, ReleaseDone}
use Rattle.model_lists.proofs.Tests.{and_true, and_first, and_second, asked, under}
use Rattle.model_lists.proofs.RowLists.{each_any, each_weaker, each_and, each_found, any_found, any_weaker_where, none_any}
use Rattle.model_lists.proofs.ChangedRows.{each_change, each_change_same, any_change}
use Rattle.model_lists.proofs.KeyedLists.{only_one}
use Rattle.model_lists.proofs.KeptRows.{each_swap}
use Rattle.model_lists.proofs.RowSums.{count_change_less}
use Rattle.model_tables.proofs.PrepsChanged.{open_preps_run, running_apart, running_still, preps_changed, sound_preps_changed}
use Rattle.model_tables.proofs.PrepsHalted.{one_prep, running_not_done}
use Rattle.model_tables.proofs.PrepsKept.{preps_run_added, rest_run_added}
use Rattle.model_tables.proofs.JobRunAdded.{sound_job_run_added}
use Rattle.model_tables.proofs.TasksStopped.{sound_stopped}
use Rattle.model_events.proofs.end.PrepRuns.{of_run, at_key, taken_unended, off_last, waiting_together, sound_done}

module _ (seats : ℕ) (old : State) (ending : Ending) (run : RunRow) (h : IsSound seats old) (found : find (is_run run.number) old.runs ≡ Some run)
    (taken : is_taken run.state ≡ true) (sound : IsSound seats (change_runs (is_run run.number) (ended_run old.moment ending) old)) where
  -- the tables in which the run has ended
  abbrev s : State
  s = change_runs (is_run run.number) (ended_run old.moment ending) old

  module _ (prepares : is_preparation run.kind ≡ true) (prep : PrepRow) (at : is_at_prep prep run ≡ true) where
    -- the preparation
    abbrev is_it : PrepRow → Bool
    is_it = is_prep prep.job prep.node

    -- the run was an unended preparation run
    opened : is_open_preparation run ≡ true
    opened = and_true prepares (taken_unended run.state taken)

    -- a preparation of the run was running
    was_running : Each (λ (other : PrepRow). not (is_it other) || runs_yet other) old.preps
    was_running =
        each_weaker (λ (other : PrepRow). list_all (λ each. not (is_open_preparation each && is_at_prep other each) || runs_yet other) old.runs)
        (λ (other : PrepRow). not (is_it other) || runs_yet other)
        (λ other k. under (is_it other) (runs_yet other) (λ key. asked (is_open_preparation run && is_at_prep other run) (runs_yet other)
        (each_found (λ each. not (is_open_preparation each && is_at_prep other each) || runs_yet other) (is_run run.number) run old.runs found k)
        (and_true opened (at_key prep other run at key))))
        old.preps (open_preps_run old h.consistent.keys.preps h.preparing.running)

    -- none of its runs is unended
    none_left : (other : PrepRow) → Each (λ each. not (is_it other && (is_open_preparation each && is_at_prep other each))) s.runs
    none_left other = either (is_it other) refl
      where
        open_at : RunRow → Bool
        open_at each = is_open_preparation each && is_at_prep other each

        neither : (a b c : Bool) → b ≡ false → not (a && (b && c)) ≡ true
        neither true b c n = rw n refl
        neither false b c n = refl

        not_it : (a b c d : Bool) → c ≡ false → (not (a && b) || c) ≡ true → not (d && (a && b)) ≡ true
        not_it true true c d n k = cc
        not_it true false c true n k = refl
        not_it true false c false n k = refl
        not_it false b c true n k = refl
        not_it false b c false n k = refl

        either : (b : Bool) → is_it other ≡ b → Each (λ each. not (is_it other && (is_open_preparation each && is_at_prep other each))) s.runs
        either false e = each_any (λ each. not (is_it other && (is_open_preparation each && is_at_prep other each))) (λ each. rw e refl) s.runs
        either true e =
            each_change (is_run run.number) (ended_run old.moment ending)
            (λ each. not (is_open_preparation each && is_at_prep other each) || is_run run.number each)
            (λ each. not (is_it other && (is_open_preparation each && is_at_prep other each)))
            (λ each t k. neither (is_it other) (is_open_preparation (ended_run old.moment ending each)) (is_at_prep other each) (off_last (is_preparation each.kind)))
            (λ each t k. not_it (is_open_preparation each) (is_at_prep other each) (is_run run.number each) (is_it other) t k)
            old.runs
            (only_one prepare_the_same (λ each. is_open_preparation each && is_at_prep other each) (is_run run.number) (one_prep other) old.runs h.preparing.single
            (any_found (λ each. (is_open_preparation each && is_at_prep other each) && is_run run.number each) (is_run run.number) run old.runs found
            (and_true (and_true opened (at_key prep other run at e)) (nat_eq_equiv.refl run.number))))

    -- so none at a preparation that changes
    apart : Each (λ each. list_all (λ other. not (is_it other && (is_open_preparation each && is_at_prep other each))) s.preps) s.runs
    apart =
        each_swap (λ (other : PrepRow) (each : RunRow). not (is_it other && (is_open_preparation each && is_at_prep other each))) s.preps s.runs
        (each_any (λ (other : PrepRow). list_all (λ each. not (is_it other && (is_open_preparation each && is_at_prep other each))) s.runs) none_left s.preps)

    -- its failures and runs are few, with one more of the former
    few_again : (other : PrepRow) → is_it other ≡ true → has_few_preparations old other ≡ true
        → nat_lt ((other.tries + 1) + count_by (is_preparing other) s.runs) s.next_run ≡ true
    few_again other key k =
        let at_run : is_at_prep other run ≡ true = at_key prep other run at key in
        let fewer : count_by (is_preparing other) s.runs < count_by (is_preparing other) old.runs =
        count_change_less (is_run run.number) (ended_run old.moment ending) (is_preparing other) (λ each t m. before each m) run old.runs found
        (nat_eq_equiv.refl run.number)
        (and_true (and_true opened (and_first (names run.job other.job) _ at_run)) (and_second (names run.job other.job) _ at_run))
        (ended_off (is_preparation run.kind) (names run.job other.job) (nat_eq run.node other.node))
        in
        grind (arith, nat_tests)
      where
        ended_off : (a b c : Bool) → (((a && false) && b) && c) ≡ false
        ended_off true b c = refl
        ended_off false b c = refl

        before : (each : RunRow) → is_preparing other (ended_run old.moment ending each) ≡ true → is_preparing other each ≡ true
        before each m =
            let off : is_preparing other (ended_run old.moment ending each) ≡ false =
            ended_off (is_preparation each.kind) (names each.job other.job) (nat_eq each.node other.node) in cc

    -- the preparation in another state, with as many failures or one more
    module _ (state_of : PrepRow → PrepState) (tries_of : PrepRow → ℕ)
        (few : (other : PrepRow) → is_it other ≡ true → has_few_preparations s other ≡ true → has_few_preparations old other ≡ true
        → nat_lt (tries_of other + count_by (is_preparing other) s.runs) s.next_run ≡ true) where
      sound_reformed : IsSound seats (change_preps is_it (λ other. record other { state = state_of other; tries = tries_of other }) s)
      sound_reformed =
          sound_preps_changed is_it state_of tries_of (λ other. other.ran) (λ other. other.release) s seats sound
          (preps_changed is_it state_of tries_of (λ other. other.ran) (λ other. other.release) s
          (running_apart is_it state_of tries_of (λ other. other.ran) (λ other. other.release) s apart sound.preparing.running)
          (each_weaker (λ (other : PrepRow). not (is_it other) || runs_yet other)
          (λ (other : PrepRow). not (is_it other && is_prepared other.state) || is_prepared (state_of other))
          (λ other k. not_done (is_it other) (is_prepared other.state) (is_prepared (state_of other)) (runs_yet other) (running_not_done other.state) k)
          old.preps was_running)
          (λ other t k. k)
          (each_change is_it (λ other. record other { state = state_of other; tries = tries_of other })
          (λ other. has_few_preparations s other && has_few_preparations old other) (has_few_preparations s)
          (λ other t k. few other t (and_first (has_few_preparations s other) _ k) (and_second (has_few_preparations s other) _ k))
          (λ other t k. and_first (has_few_preparations s other) _ k)
          old.preps (each_and (has_few_preparations s) (has_few_preparations old) old.preps sound.preparing.tries h.preparing.tries))
          sound.preparing)
        where
          not_done : (a b c d : Bool) → (d ≡ true → b ≡ false) → (not a || d) ≡ true → (not (a && b) || c) ≡ true
          not_done true b c true n k = rw (n refl) refl
          not_done true b c false n k = cc
          not_done false b c d n k = refl

    -- it has failed, having been asked to stop
    sound_failed : IsSound seats (change_prep prep failed_preparation s)
    sound_failed = sound_reformed (λ other. PrepFailed) (λ other. other.tries) (λ other t k m. k)

    -- it has failed for the last time
    sound_spent : IsSound seats (change_prep prep spent_preparation s)
    sound_spent = sound_reformed (λ other. PrepFailed) (λ other. other.tries + 1) (λ other t k m. few_again other t m)

    -- it is completed
    sound_prepared : IsSound seats (change_prep prep prepared s)
    sound_prepared = sound_reformed (λ other. PrepCompleted) (λ other. other.tries) (λ other t k m. k)

    module _ (job : List ℕ) (named : run.job ≡ Some job) (row : prep_of old job run.node ≡ Some prep) where
      -- the preparation has a row
      there : list_any is_it old.preps ≡ true
      there = any_found is_it (is_prep job run.node) prep old.preps row (and_true (same_equiv.refl prep.job) (nat_eq_equiv.refl prep.node))

      -- the preparation is run again

      -- the tables in which its failure is counted
      abbrev counted : State
      counted = change_prep prep counted_preparation s

      sound_counted : IsSound seats counted
      sound_counted = sound_reformed (λ other. other.state) (λ other. other.tries + 1) (λ other t k m. few_again other t m)

      module _ (text : List ℕ) (left : has_number_left s.next_run ≡ true) where
        -- the new run
        abbrev again : RunRow
        again = job_run s prep.node run.pool PrepRun text prep.job

        -- it has a preparation that runs
        has_running : has_running_prep counted again ≡ true
        has_running =
            any_change is_it counted_preparation (λ (other : PrepRow). is_it other && runs_yet other) (λ (other : PrepRow). is_at_prep other again && runs_yet other)
            (λ other t p. and_true (at_own other t) (and_second (is_it other) (runs_yet other) p))
            (λ other t p. let k : is_it other ≡ true = and_first (is_it other) (runs_yet other) p in cc)
            old.preps
            (any_weaker_where (λ (other : PrepRow). not (is_it other) || runs_yet other) is_it (λ (other : PrepRow). is_it other && runs_yet other)
            (λ other a p. and_true p (asked (is_it other) (runs_yet other) a p)) old.preps was_running there)
          where
            at_own : (other : PrepRow) → is_it other ≡ true → is_at_prep other again ≡ true
            at_own other k =
                and_true (same_equiv.symm prep.job other.job ∙ and_first (same other.job prep.job) _ k)
                (nat_eq_equiv.symm prep.node other.node ∙ and_second (same other.job prep.job) _ k)

        -- no other run of it is unended
        alone : list_any (λ other. prepare_the_same other again) counted.runs ≡ false
        alone =
            none_any (λ other. prepare_the_same other again) s.runs
            (each_weaker (λ each. not (is_it prep && (is_open_preparation each && is_at_prep prep each))) (λ other. not (prepare_the_same other again))
            (λ each. not_same (is_it prep) (is_open_preparation each) (names each.job prep.job) (nat_eq each.node prep.node)
            (and_true (same_equiv.refl prep.job) (nat_eq_equiv.refl prep.node))) s.runs (none_left prep))
          where
            not_same : (a b c d : Bool) → a ≡ true → not (a && (b && (c && d))) ≡ true → not (((b && true) && d) && c) ≡ true
            not_same true true true true e k = cc
            not_same true true true false e k = refl
            not_same true true false true e k = refl
            not_same true true false false e k = refl
            not_same true false c d e k = refl
            not_same false b c d e k = cc

        -- its job is not completed
        goes_on : Each (λ (other : JobRow). not (is_job_completed other.state && is_unended_of other.id again)) old.jobs
        goes_on =
            each_weaker (is_at_rest old) (λ (other : JobRow). not (is_job_completed other.state && is_unended_of other.id again))
            (λ other. not_both (is_job_completed other.state) (has_unended_run old other.id) (is_unended_of other.id again) (unended other)) old.jobs h.resting
          where
            not_both : (a b c : Bool) → (c ≡ true → b ≡ true) → not (a && b) ≡ true → not (a && c) ≡ true
            not_both true b true e k = rw (e refl) at k
            not_both true b false e k = refl
            not_both false b c e k = refl

            renamed : (name : Option (List ℕ)) (id : List ℕ) → names name prep.job ≡ true → same prep.job id ≡ true → names name id ≡ true
            renamed None id n m = cc
            renamed (Some own) id n m = same_equiv.congr own prep.job id n ∙ m

            unended : (other : JobRow) → is_unended_of other.id again ≡ true → has_unended_run old other.id ≡ true
            unended other k =
                any_found (is_unended_of other.id) (is_run run.number) run old.runs found
                (and_true (renamed run.job other.id (and_first (names run.job prep.job) _ at) (and_first (same prep.job other.id) true k))
                (taken_unended run.state taken))

        -- the run stands in the pool of its node
        in_pool : Each (λ (node : NodeRow). not (is_node prep.node node) || same node.pool run.pool) old.nodes
        in_pool =
            each_weaker (is_of_pool run) (λ (node : NodeRow). not (is_node prep.node node) || same node.pool run.pool)
            (λ node k. under (is_node prep.node node) (same node.pool run.pool) (λ e.
            and_first (same node.pool run.pool) _
            (asked (is_node run.node node) (same node.pool run.pool && not (is_start run.kind && not (is_none run.job && is_none run.task))) k
            (nat_eq_equiv.symm node.number run.node ∙ (nat_eq_equiv.congr run.node prep.node node.number (and_second (names run.job prep.job) _ at)
            ∙ (nat_eq_equiv.symm prep.node node.number ∙ e)))))) old.nodes
            (each_found (fits_nodes old) (is_run run.number) run old.runs found h.consistent.naming.on_nodes)

        -- the tables with it
        sound_again : IsSound seats (add_run_row (job_run s prep.node run.pool PrepRun text prep.job) (change_prep prep counted_preparation s))
        sound_again =
            let sound_before : IsSound seats counted = sound_counted in
            sound_job_run_added counted prep.node run.pool PrepRun text prep.job refl refl
            (each_found (λ (other : PrepRow). has_node_row old other.node) (is_prep job run.node) prep old.preps row h.preparing.nodes_of_preps)
            in_pool
            (each_found (λ (other : PrepRow). has_job_row old other.job) (is_prep job run.node) prep old.preps row h.preparing.jobs_of_preps)
            seats sound_before left
            (preps_run_added counted again has_running alone refl refl sound_before.preparing)
            (rest_run_added counted again goes_on sound_before.resting)

      -- the preparation has failed for the last time

      sound_given_up : (preparation : StartTask) → IsSound seats (give_up prep preparation s)
      sound_given_up preparation = by_wait preparation.wait
        where
          by_wait : (b : Bool)
              → IsSound seats (cond b (stop (is_waiting_on s prep) WantRequeue (change_prep prep spent_preparation s)) (change_prep prep spent_preparation s))
          by_wait true = sound_stopped (is_waiting_on s prep) WantRequeue (change_prep prep spent_preparation s) (waiting_together s prep) seats sound_spent
          by_wait false = sound_spent

      -- one more failure
      sound_prep_failed : (preparation : Option StartTask) → IsSound seats (at_row (preparation_failed prep run) preparation s)
      sound_prep_failed None = sound
      sound_prep_failed (Some preparation) = by_limit (is_tried_again s (prep.tries + 1) preparation) refl
        where
          by_limit : (b : Bool) → is_tried_again s (prep.tries + 1) preparation ≡ b
              → IsSound seats (cond b (prepare_again prep run preparation s) (give_up prep preparation s))
          by_limit true e =
              sound_again preparation.line (and_second (is_within_limit (prep.tries + 1) preparation.retries) (has_number_left s.next_run) e)
          by_limit false e = sound_given_up preparation

      -- by whether it was asked to stop, and by its ending
      sound_at : IsSound seats (preparation_ended_at prep run ending s)
      sound_at = by_asked run.asked
        where
          by_success : (b : Bool) → IsSound seats (cond b (preparation_done prep s) (at_row (preparation_failed prep run) (preparation_of s prep) s))
          by_success true = sound_done seats prep (change_prep prep prepared s) sound_prepared completed_there
            where
              completed_there : list_any (λ (other : PrepRow). is_prep prep.job prep.node other && is_completed_prep other) (change_prep prep prepared s).preps ≡ true
              completed_there =
                  any_change is_it prepared is_it (λ (other : PrepRow). is_prep prep.job prep.node other && is_completed_prep other)
                  (λ other t p. and_true t refl) (λ other t p. cc) old.preps there
          by_success false = sound_prep_failed (preparation_of s prep)

          by_asked : (b : Bool)
              → IsSound seats (cond b (change_prep prep failed_preparation s)
              (cond (is_success ending) (preparation_done prep s) (at_row (preparation_failed prep run) (preparation_of s prep) s)))
          by_asked true = sound_failed
          by_asked false = by_success (is_success ending)

  -- a preparation run has ended
  pub sound_preparation_ended : is_preparation run.kind ≡ true → IsSound seats (preparation_ended run ending s)
  sound_preparation_ended prepares = by_name run.job refl
    where
      by_row : (job : List ℕ) → run.job ≡ Some job → (o : Option PrepRow) → prep_of s job run.node ≡ o
          → IsSound seats (at_row (λ prep. preparation_ended_at prep run ending) o s)
      by_row job e None found_row = sound
      by_row job e (Some prep) found_row = sound_at prepares prep (of_run s run prep (rw e found_row)) job e found_row

      by_name : (name : Option (List ℕ)) → run.job ≡ name
          → IsSound seats (at_row (λ prep. preparation_ended_at prep run ending) (option_and_then (λ job. prep_of s job run.node) name) s)
      by_name None e = sound
      by_name (Some job) e = by_row job e (prep_of s job run.node) refl

  -- a release run has ended
  sound_released : (prep : PrepRow) → IsSound seats (change_prep prep released s)
  sound_released prep =
      sound_preps_changed (is_prep prep.job prep.node) (λ other. other.state) (λ other. other.tries) (λ other. other.ran) (λ other. ReleaseDone) s seats sound
      (preps_changed (is_prep prep.job prep.node) (λ other. other.state) (λ other. other.tries) (λ other. other.ran) (λ other. ReleaseDone) s
      (running_still (is_prep prep.job prep.node) (λ other. other.state) (λ other. other.tries) (λ other. other.ran) (λ other. ReleaseDone) s (λ other t k. k)
      sound.preparing.running)
      (each_any (λ (other : PrepRow). not (is_prep prep.job prep.node other && is_prepared other.state) || is_prepared other.state)
      (λ other. keeps_test (is_prep prep.job prep.node other) (is_prepared other.state)) s.preps)
      (λ other t k. refl)
      (each_change_same (is_prep prep.job prep.node) released (has_few_preparations s) (λ other t k. k) s.preps sound.preparing.tries)
      sound.preparing)
    where
      keeps_test : (a b : Bool) → (not (a && b) || b) ≡ true
      keeps_test true true = refl
      keeps_test true false = refl
      keeps_test false true = refl
      keeps_test false false = refl

  -- at whatever preparation it has
  pub sound_release_ended : IsSound seats (release_ended run s)
  sound_release_ended = by_row (prep_of_run s run)
    where
      by_row : (o : Option PrepRow) → IsSound seats (at_row (λ prep. change_prep prep released) o s)
      by_row None = sound
      by_row (Some prep) = sound_released prep
