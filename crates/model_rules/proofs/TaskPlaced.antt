-- The rule that places a task keeps sound tables, lowers the rank, and takes free slots.
use Rattle.std.proofs.Common.{◌≡◌, ℕ, ◌≤◌, Bool, true, false, not, ◌&&◌, ◌||◌, Option, Some, None, is_some, is_none, cond, find, refl, arith}
use Rattle.std.proofs.Common.{option_map, option_and_then, subst, ◌+◌, [], ◌∷◌, ◌++◌, nat_eq, nat_le, count_by, sym, ◌∙◌, ap}
use Rattle.std.specs.Option.{option_map_or}
use Rattle.std.specs.Cmp.{nat_eq_equiv}
use Rattle.bt_base.specs.Ids.{same}
use Rattle.bt_base.proofs.SameIds.{same_equiv}
use Rattle.std.proofs.lemmas.List.Sums.{sum_by-le-sum_by}
use Rattle.std.specs.List.{find}
use Rattle.bt_base.proofs.Turns.{lex_lt, lex_first, lex_next}
use Rattle.bt_rows.specs.Keys.{same_job, same_job_equiv, same_node, same_node_equiv, same_task, same_task_equiv}
use Rattle.bt_rows.proofs.DistinctRows.{found_first}
use Rattle.batch_model.specs.Rows.{is_node, is_prep, put_task, pool_of, prep_of, add_prep_row}
use Rattle.batch_model.specs.Runs.{is_unended, is_open_preparation, is_at_prep, is_present, is_busy_for, job_run, work_run}
use Rattle.batch_model.specs.Tasks.{is_active, is_placed, is_completed, is_busy, is_undisturbed, is_in_job}
use Rattle.batch_model.specs.Jobs.{is_job_active}
use Rattle.batch_model.specs.JobRules.{wants_release}
use Rattle.batch_model.specs.WallTimes.{can_be_asked}
use Rattle.batch_model.specs.Nodes.{is_usable, is_in_pool}
use Rattle.batch_model.specs.Slots.{held_slots, has_free}
use Rattle.batch_model.specs.Preps.{is_prepared, new_prep, waits_for_preparation, has_preparation, has_completed_preparation, is_prepared_on}
use Rattle.batch_model.specs.Placing.{is_placeable, placed, begin_preparation, prepare_with, prepare, first_state, place, places_tasks, has_turn, choice, place_task, place_in}
use Rattle.batch_model.specs.Placing.{place_of_job, has_placing, is_above, next_job, place_first}
use Rattle.batch_model.specs.Steps.{DueStep}
use Rattle.batch_model.specs.Measure.{steps_of_task, can_time_out, ends_left, tasks_left, rank}
use Rattle.batch_model.specs.Sound.{IsSound, has_no_end_yet, UnendedRunsHaveNoEnd, has_node_row, has_prep_where, is_completed_prep, prepare_the_same, waits_in, is_prepared_run}
use Rattle.batch_model.specs.WellFormed.{has_fitting_marks}
use Rattle.batch_model.specs.Variants.{State, PoolRow, NodeRow, JobRow, TaskRow, TaskStage, Active, Placed, Completed}
use Rattle.batch_model.specs.Variants.{StartTask, PrepRow, PrepRun, TaskRun, RunRow, RunState, Waiting, Queued}
use Rattle.batch_model.specs.Finding.{Each, names, find_map, last_number, has_number_left}
use Rattle.model_lists.proofs.KeyedLists.{sum_by-put_row}
use Rattle.model_lists.proofs.RowLists.{any_append, any_append_same, any_found, each_any, each_append, each_found, each_weaker, find_test, none_any}
use Rattle.model_lists.proofs.Tests.{and_true, and_first, and_second, or_second, true_not}
use Rattle.model_lists.proofs.DistinctLists.{each_with_key}
use Rattle.model_lists.proofs.NextNumbers.{is_itself, ordered}
use Rattle.model_lists.proofs.RowSums.{count_append, sum_agree}
use Rattle.model_tables.proofs.PrepsKept.{preps_with_tasks, preps_run_added, rest_run_added}
use Rattle.model_tables.proofs.JobRunAdded.{slots_after, is_not_present}
use Rattle.model_tables.proofs.StartsKept.{starts_run_added}
use Rattle.model_rules.proofs.place.Limits.{limited_placed}
use Rattle.model_rules.proofs.place.Slots.{has_place, places_task}
use Rattle.model_rules.proofs.place.NodeChosen.{is_candidate, placeable_candidate, best_first, chosen_fits, chosen_first}
use Rattle.model_rules.proofs.place.Prepared.{goes_on, sound_prepare, place_is}
use Rattle.model_rules.proofs.Rules.{IsDueKept, from_map, from_then, from_only_if, from_first}
use Rattle.model_rules.proofs.place.Consistent.{placeable_active, active_counts, placed_with, new_run_present, held_more, consistent_placed}

-- without ends

-- a new run has no end
unended_placed : (s : State) (node : NodeRow) (task : TaskRow) (state : RunState) → UnendedRunsHaveNoEnd s → UnendedRunsHaveNoEnd (placed_with s node task state)
unended_placed s node task state h =
    each_append has_no_end_yet s.runs (work_run s node (placed task) TaskRun task.line task.slots state) h (or_second (not (is_unended state)) refl)

-- the rank

-- a row that doesn't pass counts one where others count none
ends_one : {b : Bool} → b ≡ false → cond {A = ℕ} (not b) 1 0 ≡ 1
ends_one h = rw h refl

-- an active task has not started
unstarted : (stage : TaskStage) (quiet : Bool) (started : Option ℕ) → is_active stage ≡ true → (is_placed stage || (quiet && is_none started)) ≡ true
    → is_some started ≡ false
unstarted Active true None a h = refl
unstarted Active true (Some at) a h = cc
unstarted Active false started a h = cc
unstarted Placed quiet started a h = cc
unstarted Completed quiet started a h = cc

-- an active task is not one to be stopped for its wall time
idle_active : (stage : TaskStage) (a b : Bool) → is_active stage ≡ true → cond {A = ℕ} (is_placed stage && a && b) 1 0 ≡ 0
idle_active Active a b h = refl
idle_active Placed a b h = cc
idle_active Completed a b h = cc

-- and neither is one that has not started
idle_unstarted : {a : Bool} (b : Bool) → a ≡ false → cond {A = ℕ} (a && b) 1 0 ≡ 0
idle_unstarted b h = rw h refl

-- an active task is to be placed
step_if_active : (s : State) (task : TaskRow) → is_active task.stage ≡ true → steps_of_task s task ≡ 1
step_if_active s task h = rw h refl

-- a placed task that is busy is not to be settled
step_if_busy : (s : State) (task : TaskRow) → is_busy s (placed task) ≡ true → steps_of_task s (placed task) ≡ 0
step_if_busy s task h = rw h refl

-- with one more run a task has no more to do
step_at_most : (a p b c : Bool) → cond {A = ℕ} a 1 (cond (p && not (b || c)) 2 0) ≤ cond {A = ℕ} a 1 (cond (p && not b) 2 0)
step_at_most true p b c = omega arith
step_at_most false true true c = omega arith
step_at_most false true false true = omega arith
step_at_most false true false false = omega arith
step_at_most false false b c = omega arith

-- so no other task has more to do
steps_at_most : (s : State) (node : NodeRow) (task : TaskRow) (state : RunState) (other : TaskRow) → steps_of_task (placed_with s node task state) other ≤ steps_of_task s other
steps_at_most s node task state other =
    rw (any_append (is_busy_for other) s.runs (work_run s node (placed task) TaskRun task.line task.slots state))
    (step_at_most (is_active other.stage) (is_placed other.stage) (is_busy s other) _)

-- a task less is to be placed, and jobs, pools and ends are as they were
placed_falls : (seats : ℕ) (s : State) (job : JobRow) (node : NodeRow) (task : TaskRow) (state : RunState) → is_unended state ≡ true → (test : TaskRow → Bool)
    → IsSound seats s → find test s.tasks ≡ Some task → is_candidate job task ≡ true → lex_lt (rank (placed_with s node task state)) (rank s) ≡ true
placed_falls seats s job node task state going test h f can =
    let active : is_active task.stage ≡ true = placeable_active job task can in
    let first = found_first same_task same_task_equiv test task s.tasks h.consistent.keys.tasks f in
    let ends =
    sum_by-put_row same_task same_task_equiv task s.tasks h.consistent.keys.tasks first (λ (t : TaskRow). cond {A = ℕ} (not (is_completed t.stage)) 1 0)
    (placed task) (λ x. refl)
    in
    let one : cond {A = ℕ} (not (is_completed task.stage)) 1 0 ≡ 1 = ends_one (active_counts task.stage active) in
    let timed =
    sum_by-put_row same_task same_task_equiv task s.tasks h.consistent.keys.tasks first (λ (t : TaskRow). cond {A = ℕ} (can_time_out t) 1 0) (placed task)
    (λ x. refl)
    in
    let idle : cond {A = ℕ} (can_time_out task) 1 0 ≡ 0 = idle_active task.stage (is_some task.started) (is_none task.wanted) active in
    let idle_after : cond {A = ℕ} (can_time_out (placed task)) 1 0 ≡ 0 =
    idle_unstarted (is_none task.wanted)
    (unstarted task.stage (is_undisturbed task) task.started active (each_found has_fitting_marks test task s.tasks f h.consistent.fitting.marks))
    in
    let steps =
    sum_by-put_row same_task same_task_equiv task s.tasks h.consistent.keys.tasks first (steps_of_task (placed_with s node task state)) (placed task) (λ x. refl)
    in
    let before : steps_of_task (placed_with s node task state) task ≡ 1 = step_if_active (placed_with s node task state) task active in
    let after : steps_of_task (placed_with s node task state) (placed task) ≡ 0 = step_if_busy (placed_with s node task state) task (new_run_present s node task state going) in
    let others = sum_by-le-sum_by (steps_of_task (placed_with s node task state)) (steps_of_task s) s.tasks (steps_at_most s node task state) in
    let none : count_by can_be_asked (s.runs ++ work_run s node (placed task) TaskRun task.line task.slots state ∷ []) ≡ count_by can_be_asked s.runs + 0 =
    count_append can_be_asked s.runs (work_run s node (placed task) TaskRun task.line task.slots state) in
    lex_next _ _ _ _ (omega arith) (lex_next _ _ _ _ (omega arith)
    (lex_next _ _ _ _ (omega arith)
    (lex_next _ _ _ _ (omega (arith, ends, one, timed, idle, idle_after, none)) (lex_first _ _ _ _ (omega (arith, steps, before, after, others)) refl))))

-- on a node that is prepared

-- a run that waits, or may be taken
first_going : (b : Bool) → is_unended (cond b Queued Waiting) ≡ true
first_going true = refl
first_going false = refl

module _ (seats : ℕ) (s : State) (h : IsSound seats s) (job : JobRow) (pool : PoolRow) (node : NodeRow) (task : TaskRow)
    (most : s.next_run ≤ last_number + 1) (job_found : find (λ (other : JobRow). same_job other job) s.jobs ≡ Some job) (active : is_job_active job.state ≡ true)
    (pool_found : pool_of s job.pool ≡ Some pool) (test : TaskRow → Bool) (found : find test s.tasks ≡ Some task) (can : is_candidate job task ≡ true)
    (first_node : find (λ (other : NodeRow). same_node other node) s.nodes ≡ Some node) (of_pool : is_in_pool pool.id node ≡ true)
    (free : nat_le (held_slots s node.number + task.slots) pool.slots ≡ true) where
  -- the state of the new run
  abbrev state : RunState
  state = first_state s job node

  going : is_unended state ≡ true
  going = first_going (is_prepared_on s job node.number)

  -- the new run
  abbrev run : RunRow
  run = work_run s node (placed task) TaskRun task.line task.slots state

  -- the task is one of the job
  of_job : same task.job job.id ≡ true
  of_job = and_first (is_in_job job.id task) (is_active task.stage) can

  -- a run of the job waits for its preparation as the job does
  waits : waits_for_preparation job ≡ false → waits_in s run ≡ false
  waits n =
      none_any (λ other. same task.job other.id && waits_for_preparation other) s.jobs
      (each_weaker (λ (other : JobRow). not (same_job other job) || not (waits_for_preparation other))
      (λ other. not (same task.job other.id && waits_for_preparation other))
      (λ other k. apart (same_job other job) (same task.job other.id) (waits_for_preparation other)
      (λ e. same_equiv.symm other.id job.id ∙ (sym (same_equiv.congr task.job job.id other.id of_job) ∙ e)) k) s.jobs
      (each_with_key same_job same_job_equiv (λ (other : JobRow). not (waits_for_preparation other)) job job s.jobs h.consistent.keys.jobs job_found
      (true_not n)))
    where
      apart : (a b c : Bool) → (b ≡ true → a ≡ true) → (not a || not c) ≡ true → not (b && c) ≡ true
      apart a false c e k = refl
      apart true true true e k = cc
      apart true true false e k = refl
      apart false true c e k = let n : false ≡ true = e refl in cc

  -- the run is prepared, if it may be taken
  prepared : is_prepared_run s run ≡ true
  prepared = by_wait (waits_for_preparation job) refl
    where
      idle : (a b : Bool) → b ≡ false → (not ((true && a) && b) || has_prep_where is_completed_prep s run) ≡ true
      idle true b e = rw e refl
      idle false b e = refl

      renamed : (prep : PrepRow) → is_prep job.id node.number prep ≡ true → is_at_prep prep run ≡ true
      renamed prep e =
          and_true (same_equiv.congr task.job job.id prep.job of_job ∙ (same_equiv.symm job.id prep.job ∙ and_first (same prep.job job.id) _ e))
          (nat_eq_equiv.symm node.number prep.node ∙ and_second (same prep.job job.id) _ e)

      by_found : (o : Option PrepRow) → prep_of s job.id node.number ≡ o
          → is_prepared_run s (record run { state = cond (option_map_or (λ (prep : PrepRow). is_prepared prep.state) o false) Queued Waiting }) ≡ true
      by_found None e = refl
      by_found (Some prep) e = by_state (is_prepared prep.state) refl
        where
          by_state : (b : Bool) → is_prepared prep.state ≡ b → is_prepared_run s (record run { state = cond b Queued Waiting }) ≡ true
          by_state false k = refl
          by_state true k =
              or_second (not (waits_in s run))
              (any_found (λ other. is_at_prep other run && is_completed_prep other) (is_prep job.id node.number) prep s.preps e
              (and_true (renamed prep (find_test (is_prep job.id node.number) prep s.preps e)) k))

      by_wait : (b : Bool) → waits_for_preparation job ≡ b
          → is_prepared_run s (record run { state = cond (cond b (has_completed_preparation s job.id node.number) true) Queued Waiting }) ≡ true
      by_wait true e = by_found (prep_of s job.id node.number) refl
      by_wait false e = rw (waits e) refl

  -- the tables with the task are sound
  pub sound_placed : IsSound seats (placed_with s node task state)
  sound_placed =
      let starts = starts_run_added (put_task (placed task) s) run (record { usable = h.starts.usable; tries = h.starts.tries }) in
      record {
        consistent = consistent_placed seats s job node task state going test h.consistent found can pool pool_found first_node of_pool free;
        limited =
            limited_placed s job node task state (λ (other : JobRow). same_job other job) test h.limited h.consistent.keys.jobs job_found active found can most
            (any_found (is_node node.number) (λ (other : NodeRow). same_node other node) node s.nodes first_node (is_itself node.number));
        unended = unended_placed s node task state h.unended;
        starts = record { usable = starts.usable; tries = starts.tries };
        preparing =
            preps_run_added (put_task (placed task) s) run refl
            (none_any (λ other. prepare_the_same other run) s.runs
            (each_any (λ other. not (prepare_the_same other run))
            (λ other. true_not (none_same (is_open_preparation other) (nat_eq other.node node.number) (option_map_or (names other.job) run.job false))) s.runs))
            prepared refl (preps_with_tasks s (put_task (placed task) s).tasks h.preparing);
        resting =
            rest_run_added (put_task (placed task) s) run
            (goes_on s.jobs job run h.consistent.keys.jobs job_found active
            (λ id e. same_equiv.symm id job.id ∙ (sym (same_equiv.congr task.job job.id id of_job) ∙ e))) h.resting;
      }
    where
      none_same : (a b c : Bool) → (((a && false) && b) && c) ≡ false
      none_same true b c = refl
      none_same false b c = refl

  -- the rank falls, and the slots are held
  pub falls_placed : lex_lt (rank (placed_with s node task state)) (rank s) ≡ true
  falls_placed = placed_falls seats s job node task state going test h found can

  pub more_placed : held_slots (placed_with s node task state) node.number ≡ held_slots s node.number + task.slots
  more_placed = held_more seats s job node task state going test h.consistent found can

-- the rule

module _ (seats : ℕ) (s : State) (h : IsSound seats s) where
  module _ (job : JobRow) (pool : PoolRow) (node : NodeRow) (task : TaskRow) (left : has_number_left s.next_run ≡ true)
      (job_found : find (λ (other : JobRow). same_job other job) s.jobs ≡ Some job) (plain : places_tasks s job ≡ true) (pool_found : pool_of s job.pool ≡ Some pool)
      (found : find (has_place s job pool) s.tasks ≡ Some task) (ready : is_placeable s job task ≡ true) (chosen : choice s job pool task.slots ≡ Some node) where
    can : is_candidate job task ≡ true
    can = placeable_candidate s job task ready

    active : is_job_active job.state ≡ true
    active = and_first (is_job_active job.state) (has_turn s job) plain

    fits_there : (is_usable node.stage && is_in_pool pool.id node && has_free s pool task.slots node) ≡ true
    fits_there = and_first _ _ (chosen_fits s job pool task.slots node chosen)

    first_node : find (λ (other : NodeRow). same_node other node) s.nodes ≡ Some node
    first_node = chosen_first s job pool task.slots node chosen h.consistent.keys.nodes

    of_pool : is_in_pool pool.id node ≡ true
    of_pool = and_second (is_usable node.stage) (is_in_pool pool.id node) (and_first _ (has_free s pool task.slots node) fits_there)

    free : nat_le (held_slots s node.number + task.slots) pool.slots ≡ true
    free = and_second (is_usable node.stage && is_in_pool pool.id node) (has_free s pool task.slots node) fits_there

    at_most : s.next_run ≤ last_number
    at_most = ordered s.next_run last_number left

    there : has_node_row s node.number ≡ true
    there = any_found (is_node node.number) (λ (other : NodeRow). same_node other node) node s.nodes first_node (is_itself node.number)

    in_pool : Each (λ (other : NodeRow). not (is_node node.number other) || same other.pool node.pool) s.nodes
    in_pool =
        each_with_key same_node same_node_equiv (λ (other : NodeRow). same other.pool node.pool) node node s.nodes h.consistent.keys.nodes first_node
        (same_equiv.refl node.pool)

    -- what holds of the tables after the step
    record Keeps (after : State) : Type 0 where
      sound : IsSound seats after
      falls : lex_lt (rank after) (rank s) ≡ true
      more : held_slots after node.number ≡ held_slots s node.number + task.slots

    -- on a node that needs no preparation
    keeps_bare : Keeps (placed_with s node task (first_state s job node))
    keeps_bare =
        let few : s.next_run ≤ last_number + 1 = omega (arith, at_most) in
        record {
          sound = sound_placed seats s h job pool node task few job_found active pool_found (has_place s job pool) found can first_node of_pool free;
          falls = falls_placed seats s h job pool node task few job_found active pool_found (has_place s job pool) found can first_node of_pool free;
          more = more_placed seats s h job pool node task few job_found active pool_found (has_place s job pool) found can first_node of_pool free;
        }

    -- on a node whose preparation begins
    module _ (preparation : StartTask) (sound : IsSound seats (begin_preparation job node preparation s)) where
      abbrev begun : State
      begun = begin_preparation job node preparation s

      same_slots : held_slots begun node.number ≡ held_slots s node.number
      same_slots =
          slots_after (add_prep_row (new_prep job.id node.number) s) node.number node.pool PrepRun preparation.line job.id refl refl node.number

      same_steps : (other : TaskRow) → steps_of_task begun other ≡ steps_of_task s other
      same_steps other =
          rw (any_append_same (is_busy_for other) s.runs (job_run s node.number node.pool PrepRun preparation.line job.id)
          (absent (is_present other (job_run s node.number node.pool PrepRun preparation.line job.id))
          (is_not_present s node.number node.pool PrepRun preparation.line job.id refl refl other))) refl
        where
          absent : (a : Bool) → a ≡ false → (a && true) ≡ false
          absent true e = cc
          absent false e = refl

      same_rank : rank begun ≡ rank s
      same_rank =
          let asked : count_by can_be_asked (s.runs ++ job_run s node.number node.pool PrepRun preparation.line job.id ∷ []) ≡ count_by can_be_asked s.runs + 0 =
          count_append can_be_asked s.runs (job_run s node.number node.pool PrepRun preparation.line job.id) in
          let wanted : count_by wants_release (s.preps ++ new_prep job.id node.number ∷ []) ≡ count_by wants_release s.preps + 0 =
          count_append wants_release s.preps (new_prep job.id node.number) in
          let steps : tasks_left begun ≡ tasks_left s = sum_agree (steps_of_task begun) (steps_of_task s) same_steps s.tasks in
          let ends : ends_left begun ≡ ends_left s = omega (arith, asked, wanted) in
          rw (ends, steps) refl

      keeps_begun : Keeps (placed_with (begin_preparation job node preparation s) node task (first_state (begin_preparation job node preparation s) job node))
      keeps_begun =
          let few : s.next_run + 1 ≤ last_number + 1 = omega (arith, at_most) in
          let room : nat_le (held_slots begun node.number + task.slots) pool.slots ≡ true = rw same_slots free in
          record {
            sound = sound_placed seats begun sound job pool node task few job_found active pool_found (has_place s job pool) found can first_node of_pool room;
            falls =
                subst (λ r. lex_lt (rank (placed_with begun node task (first_state begun job node))) r ≡ true) same_rank
                (falls_placed seats begun sound job pool node task few job_found active pool_found (has_place s job pool) found can first_node of_pool room);
            more =
                more_placed seats begun sound job pool node task few job_found active pool_found (has_place s job pool) found can first_node of_pool room
                ∙ ap (λ n. n + task.slots) same_slots;
          }

    -- in each case
    keeps : Keeps (placed_with (prepare job node s) node task (first_state (prepare job node s) job node))
    keeps = by_prep job.prep (sound_prepare seats s h job job_found active node there in_pool left)
      where
        by_new : (preparation : StartTask) (b : Bool) → IsSound seats (cond b s (begin_preparation job node preparation s))
            → Keeps (placed_with (cond b s (begin_preparation job node preparation s)) node task (first_state (cond b s (begin_preparation job node preparation s)) job node))
        by_new preparation true sound = keeps_bare
        by_new preparation false sound = keeps_begun preparation sound

        by_prep : (o : Option StartTask) → IsSound seats (prepare_with o job node s)
            → Keeps (placed_with (prepare_with o job node s) node task (first_state (prepare_with o job node s) job node))
        by_prep None sound = keeps_bare
        by_prep (Some preparation) sound = by_new preparation (has_preparation s job.id node.number) sound

    -- a task is placed
    placed_kept : IsDueKept seats s (place s job task node)
    placed_kept =
        let kept : Keeps (place s job task node).state = subst Keeps (sym (place_is s job task node)) keeps in
        record {
          sound = kept.sound;
          falls = kept.falls;
          places =
              places_task seats s h.consistent job pool node task job_found pool_found found ready chosen active h.starts.usable
              (place s job task node).state kept.more;
          ends = tt;
          releases = tt;
        }

  -- U16
  pub place_first_kept : (step : DueStep) → place_first s ≡ Some step → IsDueKept seats s step
  place_first_kept step e =
      let left = from_only_if (has_number_left s.next_run) (option_and_then (place_of_job s) (next_job s)) step e in
      let job = from_then (place_of_job s) (next_job s) step left.1 in
      let there : find (λ (other : JobRow). same_job other job.0) s.jobs ≡ Some job.0 =
      best_first same_job same_job_equiv is_above (has_placing s) s.jobs job.0 h.consistent.keys.jobs job.2
      in
      let plain = from_only_if (places_tasks s job.0) (option_and_then (place_in s job.0) (pool_of s job.0.pool)) step job.1 in
      let pool = from_then (place_in s job.0) (pool_of s job.0.pool) step plain.1 in
      let kept = from_only_if (not pool.0.deleting) (find_map (place_task s job.0 pool.0) s.tasks) step pool.1 in
      let task = from_first (place_task s job.0 pool.0) s.tasks step kept.1 in
      let ready = from_only_if (is_placeable s job.0 task.0) (option_map (place s job.0 task.0) (choice s job.0 pool.0 task.0.slots)) step task.1 in
      let node = from_map (place s job.0 task.0) (choice s job.0 pool.0 task.0.slots) step ready.1 in
      subst (IsDueKept seats s) {x = place s job.0 task.0 node.0} node.1
      (placed_kept job.0 pool.0 node.0 task.0 left.0 there plain.0 pool.2 task.2 ready.0 node.2)
