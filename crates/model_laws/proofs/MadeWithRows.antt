-- New runs of a kind that pass a test, and that the nodes of new start runs and the preparations of new preparation runs are there after the
-- due step that makes them.
use Rattle.std.proofs.Common.{◌≡◌, ℕ, ◌≤◌, Bool, true, false, not, ◌&&◌, nat_eq, nat_lt, nat_le, List, [], ◌∷◌, ◌++◌, Option, Some, None, cond, is_some, refl}
use Rattle.std.proofs.Common.{sym, ◌∙◌, ap, subst, arith}
use Rattle.std.specs.List.{list_any, find}
use Rattle.std.specs.Option.{option_map_or}
use Rattle.std.proofs.lemmas.Bool.Decides.{nat_tests}
use Rattle.bt_base.proofs.SameIds.{same_equiv}
use Rattle.batch_model.specs.Dues.{new_node, begin_start, node_added, due_step}
use Rattle.batch_model.specs.JobRules.{release_made}
use Rattle.batch_model.specs.Placing.{placed, begin_preparation, prepare_with, prepare, first_state, place}
use Rattle.batch_model.specs.Preps.{new_prep, has_preparation}
use Rattle.batch_model.specs.Rows.{is_node, is_run, is_prep, node_of, run_of, prep_of, put_task, add_node_row, add_prep_row}
use Rattle.batch_model.specs.Runs.{is_start, is_preparation, job_run, work_run}
use Rattle.batch_model.specs.Sound.{NumbersAreNew}
use Rattle.batch_model.specs.Steps.{DueStep}
use Rattle.batch_model.specs.Variants.{State, NodeRow, JobRow, StartTask, TaskRow, RunRow, RunKind, PrepRun, TaskRun}
use Rattle.model_lists.proofs.NextNumbers.{is_itself}
use Rattle.model_lists.proofs.RowLists.{any_append_new, any_found, find_any, find_test, none_any, each_weaker}
use Rattle.model_lists.proofs.Tests.{and_true}
use Rattle.model_laws.proofs.LastingByDues.{of_due, release_no_more, node_no_more}
use Rattle.model_laws.proofs.LastingRuns.{lasting_if_fixed, HasNoMore, no_change, both_steps, added, none_after}

-- a run with a number that is not new is none of the new ones
is_old : (of_kind ok : Bool) (number next : ℕ) → nat_lt number next ≡ true → not ((of_kind && nat_le next number) && ok) ≡ true
is_old false ok number next h = refl
is_old true ok number next h = let k : nat_le next number ≡ false = grind (arith, nat_tests) in rw k refl

-- a found number is a new one
is_new : (number next given : ℕ) → next ≤ number → nat_eq given number ≡ true → nat_le next given ≡ true
is_new number next given h e = grind (arith, nat_tests)

-- what is not refused passes
passes : (new ok : Bool) → new ≡ true → (new && not ok) ≡ false → ok ≡ true
passes true true h k = refl
passes true false h k = cc
passes false ok h k = cc

-- what passes is not refused
pub not_refused : (new ok : Bool) → ok ≡ true → (new && not ok) ≡ false
not_refused true true h = refl
not_refused false true h = refl
not_refused new false h = cc

module _ (s : State) (of_kind : RunKind → Bool) (allowed : RunRow → Bool) where
  -- a run of the kind with a new number, which is not allowed
  abbrev pub is_stray : RunRow → Bool
  is_stray run = (of_kind run.kind && nat_le s.next_run run.number) && not (allowed run)

  -- there is none
  none_before : NumbersAreNew s → list_any is_stray s.runs ≡ false
  none_before new =
      none_any is_stray s.runs
      (each_weaker (λ run. nat_lt run.number s.next_run) (λ run. not (is_stray run))
      (λ run below. is_old (of_kind run.kind) (not (allowed run)) run.number s.next_run below) s.runs new.runs)

  -- if there are no more, new runs of the kind are allowed
  pub allowed_after : NumbersAreNew s → (t : State) → HasNoMore is_stray s t → (number : ℕ) (made : RunRow) → run_of t number ≡ Some made → s.next_run ≤ number
      → of_kind made.kind ≡ true → allowed made ≡ true
  allowed_after new t less number made found later kind =
      passes (of_kind made.kind && nat_le s.next_run made.number) (allowed made)
      (and_true kind (is_new number s.next_run made.number later (find_test (is_run number) made t.runs found)))
      (by_it (is_stray made) refl)
    where
      by_it : (b : Bool) → is_stray made ≡ b → b ≡ false
      by_it true e =
          let some : list_any is_stray t.runs ≡ true = any_found is_stray (is_run number) made t.runs found e in
          let none : list_any is_stray t.runs ≡ false = none_after is_stray s t less (none_before new) in
          cc
      by_it false e = refl

-- placing a task

module _ (test : RunRow → Bool) where
  begun_adds : (job : JobRow) (node : NodeRow) (preparation : StartTask) (t : State) (b : Bool)
      → (b ≡ false → test (job_run t node.number node.pool PrepRun preparation.line job.id) ≡ false)
      → HasNoMore test t (cond b t (begin_preparation job node preparation t))
  begun_adds job node preparation t true other = no_change test t
  begun_adds job node preparation t false other =
      added test (job_run t node.number node.pool PrepRun preparation.line job.id) (add_prep_row (new_prep job.id node.number) t) (other refl)

  prepared_adds : (o : Option StartTask) (job : JobRow) (node : NodeRow) (t : State)
      → ((preparation : StartTask) → o ≡ Some preparation → has_preparation t job.id node.number ≡ false
      → test (job_run t node.number node.pool PrepRun preparation.line job.id) ≡ false)
      → HasNoMore test t (prepare_with o job node t)
  prepared_adds None job node t other = no_change test t
  prepared_adds (Some preparation) job node t other =
      begun_adds job node preparation t (has_preparation t job.id node.number) (other preparation refl)

  -- no run that it makes passes: the one of the job's preparation, and the task's
  place_adds : (s : State) (job : JobRow) (task : TaskRow) (node : NodeRow)
      → ((preparation : StartTask) → job.prep ≡ Some preparation → has_preparation s job.id node.number ≡ false
      → test (job_run s node.number node.pool PrepRun preparation.line job.id) ≡ false)
      → ((t : State) → test (work_run t node (placed task) TaskRun task.line task.slots (first_state t job node)) ≡ false)
      → HasNoMore test s (place s job task node).state
  place_adds s job task node no_preparation no_work =
      let put : State = put_task (placed task) s in
      let before : State = prepare job node put in
      both_steps test put before (place s job task node).state (prepared_adds job.prep job node put no_preparation)
      (added test (work_run before node (placed task) TaskRun task.line task.slots (first_state before job node)) before (no_work before))

-- an added row that passes, so a search finds one
found_there : {R : Type 0} (test : R → Bool) (rows : List R) (row : R) → test row ≡ true → is_some (find test (rows ++ row ∷ [])) ≡ true
found_there {R} test rows row e =
    let one : (other : R) × (find test (rows ++ row ∷ []) ≡ Some other) = find_any test (rows ++ row ∷ []) (any_append_new test rows row e) in
    ap is_some one.1

-- nodes of start runs

-- the run's node is there
abbrev pub has_its_node : State → RunRow → Bool
has_its_node t run = is_some (node_of t run.node)

begun_nodes : (o : Option StartTask) (node : NodeRow) (t : State) → (begin_start o node t).nodes ≡ t.nodes
begun_nodes None node t = refl
begun_nodes (Some start) node t = refl

module _ (s : State) where
  -- a start run whose node is not there
  abbrev lacks_node : State → RunRow → Bool
  lacks_node t = is_stray s is_start (has_its_node t)

  pub nodes_there : (seats : ℕ) (step : DueStep) → due_step seats s ≡ Some step → HasNoMore (lacks_node step.state) s step.state
  nodes_there seats step e =
      of_due s (λ made. HasNoMore (lacks_node made.state) s made.state)
      (λ made lasts. lasts.runs (lacks_node made.state) (lasting_if_fixed (lacks_node made.state) (λ run next stop from to. refl)))
      (λ prep node job release. release_no_more (lacks_node (release_made s prep node job release).state) s prep node job release refl)
      (λ seat pool.
      node_no_more (lacks_node (node_added s seat pool).state) s seat pool
      (λ start.
      not_refused (nat_le s.next_run s.next_run) (is_some (node_of (node_added s seat pool).state s.next_node))
      (ap (λ (nodes : List NodeRow). is_some (find (is_node s.next_node) nodes))
      (begun_nodes pool.start (new_node s pool seat) (add_node_row (new_node s pool seat) s))
      ∙ found_there (is_node s.next_node) s.nodes (new_node s pool seat) (is_itself s.next_node))))
      (λ job task node. place_adds (lacks_node (place s job task node).state) s job task node (λ preparation of_job absent. refl) (λ t. refl)) seats step e

-- preparations of preparation runs

-- the preparation of the run's job on its node is there
abbrev pub has_its_preparation : State → RunRow → Bool
has_its_preparation t run = option_map_or (λ job. is_some (prep_of t job run.node)) run.job false

-- a preparation that begins is there, as one that had begun
begun_there : (job : JobRow) (node : NodeRow) (preparation : StartTask) (t : State) (b : Bool) → has_preparation t job.id node.number ≡ b
    → is_some (prep_of (cond b t (begin_preparation job node preparation t)) job.id node.number) ≡ true
begun_there job node preparation t true e = e
begun_there job node preparation t false e =
    found_there (is_prep job.id node.number) t.preps (new_prep job.id node.number) (and_true (same_equiv.refl job.id) (is_itself node.number))

module _ (s : State) where
  -- a preparation run whose preparation is not there
  abbrev lacks_preparation : State → RunRow → Bool
  lacks_preparation t = is_stray s is_preparation (has_its_preparation t)

  -- the preparation that a placed task begins
  placed_there : (job : JobRow) (task : TaskRow) (node : NodeRow) (preparation : StartTask) → job.prep ≡ Some preparation
      → is_some (prep_of (place s job task node).state job.id node.number) ≡ true
  placed_there job task node preparation of_job =
      let put : State = put_task (placed task) s in
      subst (λ (o : Option StartTask). is_some (prep_of (prepare_with o job node put) job.id node.number) ≡ true) (sym of_job)
      (begun_there job node preparation put (has_preparation put job.id node.number) refl)

  pub preparations_there : (seats : ℕ) (step : DueStep) → due_step seats s ≡ Some step → HasNoMore (lacks_preparation step.state) s step.state
  preparations_there seats step e =
      of_due s (λ made. HasNoMore (lacks_preparation made.state) s made.state)
      (λ made lasts. lasts.runs (lacks_preparation made.state) (lasting_if_fixed (lacks_preparation made.state) (λ run next stop from to. refl)))
      (λ prep node job release. release_no_more (lacks_preparation (release_made s prep node job release).state) s prep node job release refl)
      (λ seat pool. node_no_more (lacks_preparation (node_added s seat pool).state) s seat pool (λ start. refl))
      (λ job task node.
      place_adds (lacks_preparation (place s job task node).state) s job task node
      (λ preparation of_job absent.
      not_refused (nat_le s.next_run s.next_run) (is_some (prep_of (place s job task node).state job.id node.number))
      (placed_there job task node preparation of_job))
      (λ t. refl)) seats step e
