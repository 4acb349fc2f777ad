-- A due step makes at most the first release run of a job on a node.
use Rattle.std.proofs.Common.{◌≡◌, ℕ, ◌+◌, ◌≤◌, max, Bool, true, false, ◌&&◌, nat_eq, List, Option, Some, None, cond, refl, ◌∙◌, ap, arith}
use Rattle.std.specs.Cmp.{nat_eq_equiv}
use Rattle.bt_base.specs.Ids.{same}
use Rattle.bt_base.proofs.SameIds.{same_equiv}
use Rattle.batch_model.specs.Dues.{node_added, due_step}
use Rattle.batch_model.specs.Finding.{names}
use Rattle.batch_model.specs.JobRules.{release_made}
use Rattle.batch_model.specs.Laws.{is_release_of, ReleasesFirst, ReleasesOnce, JobsReleaseOnce}
use Rattle.batch_model.specs.Placing.{place}
use Rattle.batch_model.specs.Runs.{is_release, job_run}
use Rattle.batch_model.specs.Sound.{IsSound}
use Rattle.batch_model.specs.Steps.{DueStep}
use Rattle.batch_model.specs.Variants.{State, PoolRow, NodeRow, JobRow, ReleaseTask, TaskRow, RunRow, ReleaseRun, PrepRow}
use Rattle.model_lists.proofs.RowLists.{any_none, none_weaker}
use Rattle.model_lists.proofs.RowSums.{count_append, count_none}
use Rattle.model_lists.proofs.Tests.{and_true, and_first, and_second}
use Rattle.model_rules.proofs.DueSound.{jobs_release_once}
use Rattle.model_laws.specs.Releases.{releases_of}
use Rattle.model_laws.proofs.LastingByDues.{of_due, node_no_more, place_no_more}
use Rattle.model_laws.proofs.LastingRuns.{HasNoMore, releases_last}

module _ (job : List ℕ) (node : ℕ) (s : State) where
  -- how many there are
  abbrev pub count : State → ℕ
  count t = releases_of t job node

  -- the tables have no more of them, or one where there was none
  abbrev pub HasFew : State → Type 0
  HasFew t = count t ≤ max (count s) 1

  of_less : (t : State) → HasNoMore (is_release_of job node) s t → HasFew t
  of_less t less = omega (arith, less)

  -- release runs

  -- one of this job on this node is made where there was none
  made_few : (prep : PrepRow) (at : NodeRow) (row : JobRow) (release : ReleaseTask) → ReleasesFirst s row.id at.number
      → HasFew (release_made s prep at row release).state
  made_few prep at row release first = by_it (is_release_of job node made) refl
    where
      made : RunRow
      made = job_run s at.number at.pool ReleaseRun release.line row.id

      after : count (release_made s prep at row release).state ≡ count s + cond {A = ℕ} (is_release_of job node made) 1 0
      after = count_append (is_release_of job node) s.runs made

      -- one of this job on this node is one of that job on that node
      at_name : same row.id job ≡ true → (name : Option (List ℕ)) → names name job ≡ true → names name row.id ≡ true
      at_name of_job None e = cc
      at_name of_job (Some id) e = same_equiv.congr id job row.id e ∙ (same_equiv.symm job row.id ∙ of_job)

      at_number : nat_eq at.number node ≡ true → (number : ℕ) → nat_eq number node ≡ true → nat_eq number at.number ≡ true
      at_number on number e = nat_eq_equiv.congr number node at.number e ∙ (nat_eq_equiv.symm node at.number ∙ on)

      none : is_release_of job node made ≡ true → count s ≡ 0
      none e =
          count_none (is_release_of job node) s.runs
          (any_none (is_release_of job node) s.runs
          (none_weaker (is_release_of row.id at.number) (is_release_of job node)
          (λ run k.
          let named : (is_release run.kind && names run.job job) ≡ true = and_first _ (nat_eq run.node node) k in
          and_true
          (and_true (and_first (is_release run.kind) _ named)
          (at_name (and_first (same row.id job) (nat_eq at.number node) e) run.job (and_second (is_release run.kind) (names run.job job) named)))
          (at_number (and_second (same row.id job) (nat_eq at.number node) e) run.node (and_second _ (nat_eq run.node node) k)))
          s.runs first.first))

      by_it : (b : Bool) → is_release_of job node made ≡ b → HasFew (release_made s prep at row release).state
      by_it true e =
          let before : count s ≡ 0 = none e in
          let one : cond {A = ℕ} (is_release_of job node made) 1 0 ≡ 1 = ap (λ b. cond {A = ℕ} b 1 0) e in
          let total : count (release_made s prep at row release).state ≡ count s + cond {A = ℕ} (is_release_of job node made) 1 0 = after in
          omega (arith, before, one, total)
      by_it false e =
          let zero_more : cond {A = ℕ} (is_release_of job node made) 1 0 ≡ 0 = ap (λ b. cond {A = ℕ} b 1 0) e in
          let total : count (release_made s prep at row release).state ≡ count s + cond {A = ℕ} (is_release_of job node made) 1 0 = after in
          omega (arith, zero_more, total)

  -- runs of other kinds

  node_few : (seat : ℕ) (pool : PoolRow) → HasFew (node_added s seat pool).state
  node_few seat pool = of_less (node_added s seat pool).state (node_no_more (is_release_of job node) s seat pool (λ start. refl))

  place_few : (row : JobRow) (task : TaskRow) (at : NodeRow) → HasFew (place s row task at).state
  place_few row task at =
      of_less (place s row task at).state
      (place_no_more (is_release_of job node) s row task at (λ preparation absent. refl) (λ t later. refl))

  -- all cases

  -- the step leaves no more of them, or one where there was none
  pub few_by_due : (seats : ℕ) → IsSound seats s → (step : DueStep) → due_step seats s ≡ Some step → HasFew step.state
  few_by_due seats h step e =
      let once : JobsReleaseOnce seats s = jobs_release_once seats s h in
      of_due s (λ made. ReleasesOnce s made.due → HasFew made.state)
      (λ made lasts first. of_less made.state (lasts.runs (is_release_of job node) (releases_last job node)))
      made_few (λ seat pool first. node_few seat pool) (λ row task at first. place_few row task at) seats step e (once.making step e)
