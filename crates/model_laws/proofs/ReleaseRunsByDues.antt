-- A due step makes only the first release run of a job on a node, and drops release runs only with their job.
use Rattle.std.proofs.Common.{◌≡◌, ℕ, Bool, true, false, not, ◌&&◌, nat_eq, List, Option, Some, None, is_none, cond, filter, inl, inr, refl, sym, ◌∙◌}
use Rattle.std.proofs.Common.{ap, subst, arith}
use Rattle.std.specs.List.{list_any}
use Rattle.std.proofs.lemmas.Bool.Decides.{Decides-eqb}
use Rattle.bt_base.specs.Ids.{same}
use Rattle.bt_base.proofs.SameIds.{same_equiv}
use Rattle.batch_model.specs.Dues.{new_node, begin_start, node_added, due_step}
use Rattle.batch_model.specs.Finding.{names}
use Rattle.batch_model.specs.JobRules.{releasing, release_made, job_removed}
use Rattle.batch_model.specs.Laws.{is_release_of, ReleasesFirst, ReleasesOnce, JobsReleaseOnce}
use Rattle.batch_model.specs.Placing.{placed, begin_preparation, prepare_with, prepare, first_state, place}
use Rattle.batch_model.specs.Preps.{new_prep, change_prep, has_preparation}
use Rattle.batch_model.specs.Rows.{is_job, is_prep, put_task, add_node_row, add_prep_row}
use Rattle.batch_model.specs.Runs.{is_release, start_run, job_run, work_run}
use Rattle.batch_model.specs.Sound.{IsSound}
use Rattle.batch_model.specs.Steps.{DueStep}
use Rattle.batch_model.specs.Variants.{State, NodeRow, JobRow, StartTask, ReleaseTask, TaskRow, RunRow, PrepRun, TaskRun, ReleaseRun, PrepRow}
use Rattle.model_lists.proofs.KeptRows.{kept_pass, any_still}
use Rattle.model_lists.proofs.RowLists.{any_append, any_append_new, any_agree, find_agree, none_any, each_weaker}
use Rattle.model_lists.proofs.Tests.{and_true, and_first, and_second, or_cases}
use Rattle.model_rules.proofs.DueSound.{jobs_release_once}
use Rattle.model_laws.specs.ReleaseRuns.{is_this_release, has_release, is_plain_release, has_plain_release, IsReleaseOf, was_there, is_made, ReleaseStays}
use Rattle.model_laws.specs.ReleaseRuns.{still_there, job_gone, DueReleases}
use Rattle.model_laws.proofs.KeptFailures.{alike_ids}
use Rattle.model_laws.proofs.LastingByDues.{of_due, of_due_cases, node_no_more, place_no_more}
use Rattle.model_laws.proofs.LastingRuns.{HasNoMore, nothing_found}
use Rattle.model_laws.proofs.ReleasesByDues.{few_by_due}
use Rattle.model_laws.proofs.ReleaseRunsByEvents.{some_before, release_lasts, release_stays}
use Rattle.model_laws.proofs.StayingRuns.{Stays, added_stays}

-- an id of a job, in another spelling

module _ (id job : List ℕ) (e : same id job ≡ true) where
  -- a name of one is a name of the other
  named_alike : (name : Option (List ℕ)) → names name job ≡ names name id
  named_alike None = refl
  named_alike (Some own) = alike_ids id job own e

  -- what is said of one is said of the other
  spelled : (s : State) (node : ℕ) → ReleasesFirst s id node → ReleasesFirst s job node
  spelled s node first = record {
    prep = first.prep;
    there =
        find_agree (is_prep job node) (is_prep id node) (λ (prep : PrepRow). ap (λ b. b && nat_eq prep.node node) (alike_ids id job prep.job e)) s.preps
        ∙ first.there;
    completed = first.completed;
    first =
        any_agree (is_release_of job node) (is_release_of id node)
        (λ (run : RunRow). ap (λ b. (is_release run.kind && b) && nat_eq run.node node) (named_alike run.job)) s.runs
        ∙ first.first;
  }

-- a name of a job is none of another job
other_name : (name : Option (List ℕ)) (job id : List ℕ) → names name job ≡ true → same id job ≡ false → not (names name id) ≡ true
other_name None job id h e = cc
other_name (Some own) job id h e = ap not (same_equiv.congr own job id h ∙ (same_equiv.symm job id ∙ e))

module _ (job : List ℕ) (node number : ℕ) (s : State) where
  -- the release run of the job on the node with the number

  abbrev is_it : RunRow → Bool
  is_it = is_this_release job node number

  -- that names no task
  abbrev is_plain : RunRow → Bool
  is_plain = is_plain_release job node number

  -- release runs that are made

  -- if it is there afterwards, it was there or is the first one
  abbrev IsFirst : State → Type 0
  IsFirst t = has_release t job node number ≡ true → IsReleaseOf s t job node number

  of_less : (t : State) → HasNoMore is_it s t → IsFirst t
  of_less t less h = was_there (some_before is_it s t less h)

  made_first : (prep : PrepRow) (at : NodeRow) (row : JobRow) (release : ReleaseTask) → ReleasesFirst s row.id at.number
      → IsFirst (release_made s prep at row release).state
  made_first prep at row release first h = elim (or_cases (list_any is_it s.runs) (is_it made) (sym (any_append is_it s.runs made) ∙ h)) [
    | inl old ↦ was_there old
    | inr new ↦
        let of : is_release_of job node made ≡ true = and_first (is_release_of job node made) (nat_eq s.next_run number) new in
        let numbered : s.next_run ≡ number =
        (Decides-eqb s.next_run number).0 (and_second (is_release_of job node made) (nat_eq s.next_run number) new)
        in
        let on_node : at.number ≡ node = (Decides-eqb at.number node).0 (and_second (same row.id job) (nat_eq at.number node) of) in
        is_made (omega (arith, numbered)) (any_append_new is_plain s.runs made (and_true new refl))
        (subst (ReleasesFirst s job) on_node (spelled row.id job (and_first (same row.id job) (nat_eq at.number node) of) s at.number first))
  ]
    where
      made : RunRow
      made = job_run s at.number at.pool ReleaseRun release.line row.id

  -- all cases
  first_by_due : (seats : ℕ) → IsSound seats s → (step : DueStep) → due_step seats s ≡ Some step → IsFirst step.state
  first_by_due seats h step e =
      let once : JobsReleaseOnce seats s = jobs_release_once seats s h in
      of_due s (λ made. ReleasesOnce s made.due → IsFirst made.state)
      (λ made lasts first. of_less made.state (lasts.runs is_it (release_lasts job node number)))
      made_first
      (λ seat pool first. of_less (node_added s seat pool).state (node_no_more is_it s seat pool (λ start. refl)))
      (λ row task at first. of_less (place s row task at).state (place_no_more is_it s row task at (λ preparation absent. refl) (λ t later. refl)))
      seats step e (once.making step e)

  -- release runs that stay

  -- if it is there, it is afterwards, or its job is gone
  abbrev IsLeft : State → Type 0
  IsLeft t = has_plain_release s job node number ≡ true → ReleaseStays t job node number

  of_staying : (t : State) → Stays is_plain s t → IsLeft t
  of_staying t stays h = still_there (stays h)

  start_stays : (o : Option StartTask) (on : NodeRow) (t : State) → Stays is_plain t (begin_start o on t)
  start_stays None on t = λ h. h
  start_stays (Some start) on t = added_stays is_plain (start_run t on start) t

  begun_stays : (row : JobRow) (on : NodeRow) (preparation : StartTask) (t : State) (b : Bool)
      → Stays is_plain t (cond b t (begin_preparation row on preparation t))
  begun_stays row on preparation t true = λ h. h
  begun_stays row on preparation t false =
      added_stays is_plain (job_run t on.number on.pool PrepRun preparation.line row.id) (add_prep_row (new_prep row.id on.number) t)

  preparation_stays : (o : Option StartTask) (row : JobRow) (on : NodeRow) (t : State) → Stays is_plain t (prepare_with o row on t)
  preparation_stays None row on t = λ h. h
  preparation_stays (Some preparation) row on t = begun_stays row on preparation t (has_preparation t row.id on.number)

  place_stays : (row : JobRow) (task : TaskRow) (on : NodeRow) → Stays is_plain s (place s row task on).state
  place_stays row task on h =
      let put : State = put_task (placed task) s in
      let before : State = prepare row on put in
      added_stays is_plain (work_run before on (placed task) TaskRun task.line task.slots (first_state before row on)) before
      (preparation_stays row.prep row on put h)

  -- the row of a job goes
  job_leaves : (row : JobRow) (b : Bool) → same row.id job ≡ b → IsLeft (job_removed s row).state
  job_leaves row true e h =
      let keep : JobRow → Bool = λ other. not (is_job row.id other) in
      job_gone
      (nothing_found (is_job job) (filter keep s.jobs)
      (none_any (is_job job) (filter keep s.jobs)
      (each_weaker keep (λ other. not (is_job job other)) (λ (other : JobRow) k. ap not (alike_ids row.id job other.id e) ∙ k) (filter keep s.jobs)
      (kept_pass keep s.jobs))))
  job_leaves row false e h =
      still_there
      (any_still (λ run. not (names run.job row.id)) is_plain (λ run k. other_name run.job job row.id (its_job run k) e) s.runs ∙ h)
    where
      its_job : (run : RunRow) → is_plain run ≡ true → names run.job job ≡ true
      its_job run k =
          and_second (is_release run.kind) (names run.job job)
          (and_first (is_release run.kind && names run.job job) (nat_eq run.node node)
          (and_first (is_release_of job node run) (nat_eq run.number number) (and_first (is_it run) (is_none run.task) k)))

  -- all cases
  left_by_due : (seats : ℕ) (step : DueStep) → due_step seats s ≡ Some step → IsLeft step.state
  left_by_due seats step e =
      of_due_cases s (λ made. IsLeft made.state) (λ made lasts. of_staying made.state (lasts.stay is_plain (release_stays job node number)))
      (λ row. job_leaves row (same row.id job) refl)
      (λ prep at row release.
      of_staying (release_made s prep at row release).state
      (added_stays is_plain (job_run s at.number at.pool ReleaseRun release.line row.id) (change_prep prep releasing s)))
      (λ seat pool.
      of_staying (node_added s seat pool).state (start_stays pool.start (new_node s pool seat) (add_node_row (new_node s pool seat) s)))
      (λ row task on. of_staying (place s row task on).state (place_stays row task on)) seats step e

-- release runs are made once, and go with their job
pub due_releases : (seats : ℕ) (s : State) (step : DueStep) → IsSound seats s → due_step seats s ≡ Some step → DueReleases s step
due_releases seats s step h e = record {
  made = λ job node number. first_by_due job node number s seats h step e;
  few = λ job node. few_by_due job node s seats h step e;
  kept = λ job node number. left_by_due job node number s seats step e;
}
