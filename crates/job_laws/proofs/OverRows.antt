-- Whether a job is over, as rows of jobs are added, put and dropped.
use Rattle.std.proofs.Common.{◌≡◌, ℕ, Bool, true, false, not, List, Option, Some, None, cond, filter, find, refl, sym, ◌∙◌, ap, subst}
use Rattle.std.specs.Option.{option_map, option_map_or}
use Rattle.bt_base.specs.Ids.{same}
use Rattle.bt_base.proofs.SameIds.{same_equiv}
use Rattle.bt_rows.specs.Keys.{same_job, same_job_equiv}
use Rattle.bt_rows.specs.Lists.{AreDistinct}
use Rattle.bt_rows.proofs.DistinctRows.{found_first}
use Rattle.batch_model.specs.Finding.{Each, change_where}
use Rattle.batch_model.specs.JobRules.{drop_job}
use Rattle.batch_model.specs.Rows.{is_job, job_of, put_job, add_job_row}
use Rattle.batch_model.specs.Variants.{State, JobRow}
use Rattle.model_lists.proofs.ChangedRows.{changed, find_change}
use Rattle.model_lists.proofs.KeptRows.{kept_pass, find_still}
use Rattle.model_lists.proofs.RowLists.{each_weaker, each_found, find_test, find_agree, find_append_same}
use Rattle.model_lists.proofs.Tests.{not_true}
use Rattle.job_laws.specs.OverJobs.{has_over_state, is_job_over}

-- ids that are the same agree on which others they are the same as
alike_ids : (a b other : List ℕ) → same a b ≡ true → same other a ≡ same other b
alike_ids a b other e = same_equiv.symm other a ∙ (same_equiv.congr a b other e ∙ same_equiv.symm b other)

-- a job that is found by an id is found by its own
pub own_job : (s : State) (id : List ℕ) (row : JobRow) → job_of s id ≡ Some row → job_of s row.id ≡ Some row
own_job s id row there =
    find_agree (is_job row.id) (is_job id) (λ other. alike_ids row.id id other.id (find_test (is_job id) row s.jobs there)) s.jobs ∙ there

-- and so is one that is found by a test, since ids are distinct
pub own_found : (s : State) (test : JobRow → Bool) (row : JobRow) → AreDistinct same_job s.jobs → find test s.jobs ≡ Some row → job_of s row.id ≡ Some row
own_found s test row keys found = found_first same_job same_job_equiv test row s.jobs keys found

module _ (id : List ℕ) where
  -- if the job is over before it is over after
  abbrev pub Keeps : State → State → Type 0
  Keeps s t = is_job_over s id ≡ true → is_job_over t id ≡ true

  pub job_added : (s : State) (row : JobRow) → same row.id id ≡ false → Keeps s (add_job_row row s)
  job_added s row other h = ap (λ o. option_map_or has_over_state o true) (find_append_same (is_job id) s.jobs row other) ∙ h

  -- a job is put in its place, and is over if it was before
  module _ (s : State) (row next : JobRow) (there : job_of s row.id ≡ Some row) (named : next.id ≡ row.id)
      (over : has_over_state row ≡ true → has_over_state next ≡ true) where
    keyed : (x : JobRow) → is_job row.id x ≡ true → is_job id next ≡ is_job id x
    keyed x t = ap (λ name. same name id) named ∙ sym (same_equiv.congr x.id row.id id t)

    own_row : (x : JobRow) → job_of s id ≡ Some x → same row.id id ≡ true → x ≡ row
    own_row x found own =
        let one : Some x ≡ Some row = sym found ∙ find_agree (is_job id) (is_job row.id) (λ other. sym (alike_ids row.id id other.id own)) s.jobs ∙ there in
        cc

    by_key : (x : JobRow) → job_of s id ≡ Some x → has_over_state x ≡ true → (b : Bool) → is_job row.id x ≡ b → has_over_state (cond b next x) ≡ true
    by_key x found h false k = h
    by_key x found h true k =
        let own : same row.id id ≡ true = sym (same_equiv.congr x.id row.id id k) ∙ find_test (is_job id) x s.jobs found in
        over (ap has_over_state (sym (own_row x found own)) ∙ h)

    by_found : (o : Option JobRow) → job_of s id ≡ o → option_map_or has_over_state o true ≡ true
        → option_map_or has_over_state (option_map (changed (is_job row.id) (λ old. next)) o) true ≡ true
    by_found None found h = refl
    by_found (Some x) found h = by_key x found h (is_job row.id x) refl

    pub job_put : Keeps s (put_job next s)
    job_put h =
        subst (λ name. option_map_or has_over_state (find (is_job id) (change_where (is_job name) (λ old. next) s.jobs)) true ≡ true) (sym named)
        (ap (λ o. option_map_or has_over_state o true) (find_change (is_job row.id) (λ old. next) (is_job id) keyed s.jobs)
        ∙ by_found (job_of s id) refl h)

  -- jobs with an id are dropped
  pub job_dropped : (s : State) (job : List ℕ) → Keeps s (drop_job job s)
  job_dropped s job h = by_id (same job id) refl
    where
      keep : JobRow → Bool
      keep row = not (is_job job row)

      apart : (row : JobRow) → same job id ≡ true → (a b : Bool) → is_job id row ≡ a → is_job job row ≡ b → not b ≡ true → not a ≡ true
      apart row e true true i j n = cc
      apart row e true false i j n = let is : is_job job row ≡ true = alike_ids job id row.id e ∙ i in cc
      apart row e false b i j n = refl

      kept : (row : JobRow) → same job id ≡ false → is_job id row ≡ true → (b : Bool) → is_job job row ≡ b → not b ≡ true
      kept row e i true j = let is : same job id ≡ true = sym (same_equiv.congr row.id job id j) ∙ i in cc
      kept row e i false j = refl

      by_id : (b : Bool) → same job id ≡ b → is_job_over (drop_job job s) id ≡ true
      by_id true e = ap (λ o. option_map_or has_over_state o true) (none_found (find (is_job id) (filter keep s.jobs)) refl)
        where
          fails : Each (λ row. not (is_job id row)) (filter keep s.jobs)
          fails =
              each_weaker keep (λ row. not (is_job id row)) (λ row k. apart row e (is_job id row) (is_job job row) refl refl k) (filter keep s.jobs)
              (kept_pass keep s.jobs)

          none_found : (o : Option JobRow) → find (is_job id) (filter keep s.jobs) ≡ o → o ≡ None
          none_found None f = refl
          none_found (Some x) f =
              let fails_it : is_job id x ≡ false = not_true (is_job id x) (each_found (λ row. not (is_job id row)) (is_job id) x (filter keep s.jobs) f fails) in
              let is : is_job id x ≡ true = find_test (is_job id) x (filter keep s.jobs) f in
              cc
      by_id false e =
          ap (λ o. option_map_or has_over_state o true)
          (find_still keep (is_job id) (λ row i. kept row e i (is_job job row) refl) s.jobs)
          ∙ h
