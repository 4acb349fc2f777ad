-- A task's run is taken for the present attempt alone, and only once its job's preparation is completed on its node.
use Rattle.std.proofs.Common.{◌≡◌, ℕ, Bool, true, false, ◌&&◌, nat_eq, List, Option, Some, None, cond, find, refl, sym, ◌∙◌, subst}
use Rattle.std.specs.List.{list_any}
use Rattle.std.specs.Option.{option_map_or}
use Rattle.std.proofs.lemmas.Bool.Decides.{Decides-eqb}
use Rattle.bt_base.specs.Ids.{same}
use Rattle.bt_base.proofs.SameIds.{same_equiv}
use Rattle.bt_rows.specs.Keys.{same_task, same_task_equiv, same_prep, same_prep_equiv}
use Rattle.bt_rows.specs.declared.refusal.Refusal.{Refusal}
use Rattle.bt_rows.specs.declared.refusal.Refusal.TheVariants.{RunNotFound, RunAlreadyEnded, RunWithdrawn, RunWaiting}
use Rattle.bt_rows.specs.declared.reply.Reply.TheVariants.{Status}
use Rattle.bt_rows.proofs.DistinctRows.{found_first}
use Rattle.batch_model.specs.Events.{at_moment, refuse, accept, for_row, is_task_of_run, take_run, take_refusals, run_taken}
use Rattle.batch_model.specs.Finding.{names}
use Rattle.batch_model.specs.Preps.{waits_for_preparation, has_completed_preparation, is_prepared_on}
use Rattle.batch_model.specs.Rows.{is_job, is_run, is_prep, job_of, run_of, prep_of}
use Rattle.batch_model.specs.Runs.{is_waiting, is_ended, is_withdrawn, is_unended, is_work, is_present, is_at_prep}
use Rattle.batch_model.specs.Slots.{owns}
use Rattle.batch_model.specs.Sound.{IsSound, belongs, is_prepared_run, is_work_begun, waits_in, has_prep_where, is_completed_prep}
use Rattle.batch_model.specs.Steps.{Answered}
use Rattle.batch_model.specs.Tasks.{is_placed}
use Rattle.batch_model.specs.Variants.{State, JobRow, TaskRow, PrepRow, RunRow, RunState, Waiting, Queued, Taken, Ended, Withdrawn}
use Rattle.batch_model.specs.WellFormed.{has_job_row}
use Rattle.model_lists.proofs.Tests.{and_true, and_first, and_second, true_not, asked}
use Rattle.model_lists.proofs.RowLists.{each_found, find_test, find_any, any_found, find_agree}
use Rattle.model_events.proofs.Keeping.{passed, through, AreAbsent}
use Rattle.model_laws.specs.Runs.{IsOfPresent, TakesPresent}

-- an id that an option holds is that of any like it
pub names_same : (name : Option (List ℕ)) (one other : List ℕ) → names name one ≡ true → same one other ≡ true → names name other ≡ true
names_same None one other h k = cc
names_same (Some id) one other h k = same_equiv.congr id one other h ∙ k

-- two ids that it holds are alike
names_alike : (name : Option (List ℕ)) (one other : List ℕ) → names name one ≡ true → names name other ≡ true → same one other ≡ true
names_alike None one other h k = cc
names_alike (Some id) one other h k = sym (same_equiv.congr id one other h) ∙ k

-- alike ids are like the same ids
alike_ids : (one other id : List ℕ) → same one other ≡ true → same id one ≡ same id other
alike_ids one other id h = same_equiv.symm id one ∙ same_equiv.congr one other id h ∙ same_equiv.symm other id

-- a preparation with the key of another one is that of the same job and node
one_key : (job : List ℕ) (node : ℕ) (prep other : PrepRow) → same job prep.job ≡ true → node ≡ prep.node → is_prep job node other ≡ same_prep other prep
one_key job node prep other h e = rw (alike_ids job prep.job other.job h, e) refl

-- a run that neither has ended or was withdrawn, nor is taken or waits, has not ended
unended_if_left : (state : RunState) → is_ended state ≡ false → is_withdrawn state ≡ false → is_unended state ≡ true
unended_if_left Waiting ended withdrawn = refl
unended_if_left Queued ended withdrawn = refl
unended_if_left Taken ended withdrawn = refl
unended_if_left (Ended ending) ended withdrawn = cc
unended_if_left Withdrawn ended withdrawn = cc

module _ (s : State) (run : RunRow) where
  -- a take that is accepted has no refusal
  none_refused : (take_run s run).reply ≡ Status 200 → AreAbsent (take_refusals run)
  none_refused =
      through (λ first. (answered first).reply ≡ Status 200 → AreAbsent (take_refusals run)) (λ refusal e. cc) (take_refusals run) (λ absent e. absent)
    where
      answered : Option Refusal → Answered
      answered first = option_map_or (λ refusal. refuse refusal s) first (accept 200 (run_taken s run))

  of_row : (number : ℕ) (o : Option RunRow) → run_of s number ≡ Some run → run_of s number ≡ o → (for_row s RunNotFound (take_run s) o).reply ≡ Status 200
      → AreAbsent (take_refusals run)
  of_row number None e k accepted = cc
  of_row number (Some other) e k accepted =
      let it : other ≡ run = cc in
      none_refused (subst (λ one. (take_run s one).reply ≡ Status 200) it accepted)

module _ (seats : ℕ) (s : State) (h : IsSound seats s) (number : ℕ) (run : RunRow) (found : run_of s number ≡ Some run) (work : is_work run.kind ≡ true)
    (absent : AreAbsent (take_refusals run)) where
  -- the run has not ended
  unended : is_unended run.state ≡ true
  unended = unended_if_left run.state (passed (is_ended run.state) RunAlreadyEnded absent.0) (passed (is_withdrawn run.state) RunWithdrawn absent.1.0)

  -- and does not wait
  begun : is_work_begun run ≡ true
  begun = and_true (and_true work unended) (true_not (passed (is_waiting run.state) RunWaiting absent.1.1.1.0))

  -- a placed task whose present attempt it is of
  owner : (task : TaskRow) × (find (owns run) s.tasks ≡ Some task)
  owner =
      find_any (owns run) s.tasks
      (asked (is_work run.kind && is_unended run.state) (list_any (owns run) s.tasks)
      (each_found (belongs s) (is_run number) run s.runs found h.consistent.belonging) (and_true work unended))

  owned : owns run owner.0 ≡ true
  owned = find_test (owns run) owner.0 s.tasks owner.1

  present : is_present owner.0 run ≡ true
  present = and_second (is_placed owner.0.stage) (is_present owner.0 run) owned

  named : is_task_of_run run owner.0 ≡ true
  named = and_first (is_task_of_run run owner.0) (nat_eq run.attempt owner.0.attempt) present

  -- its job
  its_job : (job : JobRow) × (job_of s owner.0.job ≡ Some job)
  its_job =
      find_any (is_job owner.0.job) s.jobs
      (each_found (λ (task : TaskRow). has_job_row s task.job) (owns run) owner.0 s.tasks owner.1 h.consistent.named.jobs_of_tasks)

  names_job : names run.job its_job.0.id ≡ true
  names_job =
      names_same run.job owner.0.job its_job.0.id (and_first (names run.job owner.0.job) (names run.task owner.0.id) named)
      (same_equiv.symm owner.0.job its_job.0.id ∙ find_test (is_job owner.0.job) its_job.0 s.jobs its_job.1)

  -- its preparation, if it is waited for
  module _ (waits : waits_for_preparation its_job.0 ≡ true) where
    its_prep : (prep : PrepRow) × (find (λ prep. is_at_prep prep run && is_completed_prep prep) s.preps ≡ Some prep)
    its_prep =
        find_any (λ prep. is_at_prep prep run && is_completed_prep prep) s.preps
        (asked (is_work_begun run && waits_in s run) (has_prep_where is_completed_prep s run)
        (each_found (is_prepared_run s) (is_run number) run s.runs found h.preparing.prepared)
        (and_true begun
        (any_found (λ (job : JobRow). names run.job job.id && waits_for_preparation job) (is_job owner.0.job) its_job.0 s.jobs its_job.1
        (and_true names_job waits))))

    at_prep : (is_at_prep its_prep.0 run && is_completed_prep its_prep.0) ≡ true
    at_prep = find_test (λ prep. is_at_prep prep run && is_completed_prep prep) its_prep.0 s.preps its_prep.1

    on_node : is_at_prep its_prep.0 run ≡ true
    on_node = and_first (is_at_prep its_prep.0 run) (is_completed_prep its_prep.0) at_prep

    -- it is the one of the job on the run's node
    prep_there : prep_of s its_job.0.id run.node ≡ Some its_prep.0
    prep_there =
        find_agree (is_prep its_job.0.id run.node) (λ (prep : PrepRow). same_prep prep its_prep.0) alike s.preps
        ∙ found_first same_prep same_prep_equiv (λ prep. is_at_prep prep run && is_completed_prep prep) its_prep.0 s.preps h.consistent.keys.preps its_prep.1
      where
        one_job : same its_job.0.id its_prep.0.job ≡ true
        one_job = names_alike run.job its_job.0.id its_prep.0.job names_job (and_first (names run.job its_prep.0.job) (nat_eq run.node its_prep.0.node) on_node)

        one_node : run.node ≡ its_prep.0.node
        one_node = (Decides-eqb run.node its_prep.0.node).0 (and_second (names run.job its_prep.0.job) (nat_eq run.node its_prep.0.node) on_node)

        alike : (prep : PrepRow) → is_prep its_job.0.id run.node prep ≡ same_prep prep its_prep.0
        alike prep = one_key its_job.0.id run.node its_prep.0 prep one_job one_node

    completed_there : has_completed_preparation s its_job.0.id run.node ≡ true
    completed_there = rw prep_there (and_second (is_at_prep its_prep.0 run) (is_completed_prep its_prep.0) at_prep)

  prepared : is_prepared_on s its_job.0 run.node ≡ true
  prepared = either (waits_for_preparation its_job.0) completed_there
    where
      either : (b : Bool) → (b ≡ true → has_completed_preparation s its_job.0.id run.node ≡ true)
          → cond b (has_completed_preparation s its_job.0.id run.node) true ≡ true
      either true k = k refl
      either false k = refl

  -- the run is of the present attempt
  of_present : IsOfPresent s run
  of_present = record {
    job = its_job.0;
    task = owner.0;
    job_there = its_job.1;
    task_there = found_first same_task same_task_equiv (owns run) owner.0 s.tasks h.consistent.keys.tasks owner.1;
    of_task = named;
    placed = and_first (is_placed owner.0.stage) (is_present owner.0 run) owned;
    present = present;
    prepared = prepared;
  }

-- in sound tables a `take` of a task's run is accepted only so
pub takes_present : (seats : ℕ) (s : State) → IsSound seats s → TakesPresent s
takes_present seats s h moment number run found work accepted =
    of_present seats s h number run found work (of_row (at_moment moment s) run number (run_of s number) found refl accepted)
