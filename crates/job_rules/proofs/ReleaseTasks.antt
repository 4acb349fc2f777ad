-- Without a job that has a release task no release run is out of time.
use Rattle.std.proofs.Common.{◌≡◌, Bool, true, false, ◌&&◌, ℕ, List, [], ◌∷◌, Option, Some, None, cond, is_some, refl, ◌∙◌, ap}
use Rattle.std.specs.List.{find}
use Rattle.std.specs.Option.{option_map, option_map_or, option_and_then}
use Rattle.batch_model.specs.Finding.{has_passed}
use Rattle.batch_model.specs.Rows.{is_job, job_of}
use Rattle.batch_model.specs.Variants.{State, JobRow, RunRow, ReleaseTask}
use Rattle.batch_model.specs.WallTimes.{can_be_asked, release_limit, is_release_over, is_release_timed_out}
use Rattle.job_rules.specs.Releases.{has_release_task}

off_last : (a b : Bool) → b ≡ false → (a && b) ≡ false
off_last true b h = h
off_last false b h = refl

nowhere : {Q : Type 0} (test : Q → Bool) → ((x : Q) → test x ≡ false) → (xs : List Q) → find test xs ≡ None
nowhere test h [] = refl
nowhere test h (x ∷ xs) = ap (λ b. cond b (Some x) (find test xs)) (h x) ∙ nowhere test h xs

-- the job that is found has no release task
module _ (id : List ℕ) where
  at_row : (here : Bool) (release : Option ReleaseTask) (job : JobRow) (jobs : List JobRow) → job.release ≡ release
      → cond (is_some release) (Some job) (find has_release_task jobs) ≡ None
      → (find has_release_task jobs ≡ None → option_and_then (λ (j : JobRow). j.release) (find (is_job id) jobs) ≡ None)
      → option_and_then (λ (j : JobRow). j.release) (cond here (Some job) (find (is_job id) jobs)) ≡ None
  at_row here (Some release) job jobs e h rest = absurd (cc)
  at_row true None job jobs e h rest = e
  at_row false None job jobs e h rest = rest h

  no_release : (jobs : List JobRow) → find has_release_task jobs ≡ None → option_and_then (λ (j : JobRow). j.release) (find (is_job id) jobs) ≡ None
  no_release [] h = refl
  no_release (job ∷ jobs) h = at_row (is_job id job) job.release job jobs refl h (no_release jobs)

module _ (s : State) (none : find has_release_task s.jobs ≡ None) where
  of_job : (job : Option (List ℕ)) → option_and_then (λ (j : JobRow). j.release) (option_and_then (job_of s) job) ≡ None
  of_job None = refl
  of_job (Some id) = no_release id s.jobs none

  never_over : (run : RunRow) (taken : Option ℕ) → option_map_or (λ from. has_passed from (release_limit s run) s.moment) taken false ≡ false
  never_over run None = refl
  never_over run (Some from) = ap (λ release. has_passed from (option_map (λ (r : ReleaseTask). r.wall) release) s.moment) (of_job run.job)

  pub none_timed_out : find (is_release_timed_out s) s.runs ≡ None
  none_timed_out = nowhere (is_release_timed_out s) (λ run. off_last (can_be_asked run) (is_release_over s run) (never_over run run.taken)) s.runs
