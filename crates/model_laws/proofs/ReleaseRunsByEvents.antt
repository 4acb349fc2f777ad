-- An event makes no release run, and drops none that names no task.
use Rattle.std.proofs.Common.{◌≡◌, ℕ, Bool, true, false, ◌&&◌, nat_eq, List, is_none, refl}
use Rattle.std.specs.List.{list_any}
use Rattle.bt_rows.specs.declared.event.EventKind.{EventKind}
use Rattle.batch_model.specs.Events.{event_step, at_moment}
use Rattle.batch_model.specs.Finding.{names}
use Rattle.batch_model.specs.Laws.{is_release_of}
use Rattle.batch_model.specs.Runs.{is_start, is_release}
use Rattle.batch_model.specs.Sound.{IsSound}
use Rattle.batch_model.specs.Variants.{State, RunRow, RunKind, StartRun, PrepRun, TaskRun, CoordinationRun, ReleaseRun}
use Rattle.model_lists.proofs.Tests.{and_first, and_second}
use Rattle.model_laws.specs.ReleaseRuns.{is_this_release, is_plain_release, EventReleases}
use Rattle.model_laws.proofs.LastingRuns.{IsLasting, lasting_if_fixed, HasNoMore, none_after}
use Rattle.model_laws.proofs.MadeRuns.{EventRuns, stays_on, no_more_on}
use Rattle.model_laws.proofs.RunsByEvents.{does_now}
use Rattle.model_laws.proofs.StayingRuns.{IsStaying}

-- if no more runs pass, some run passed before where one does
pub some_before : (test : RunRow → Bool) (s t : State) → HasNoMore test s t → list_any test t.runs ≡ true → list_any test s.runs ≡ true
some_before test s t less h = by_it (list_any test s.runs) refl
  where
    by_it : (b : Bool) → list_any test s.runs ≡ b → b ≡ true
    by_it true e = refl
    by_it false e = let none : list_any test t.runs ≡ false = none_after test s t less e in cc

-- a release run is not of a start task
not_start : (kind : RunKind) → is_release kind ≡ true → is_start kind ≡ false
not_start StartRun h = cc
not_start PrepRun h = refl
not_start TaskRun h = refl
not_start CoordinationRun h = refl
not_start ReleaseRun h = refl

module _ (job : List ℕ) (node number : ℕ) where
  -- what else becomes of a release run does not matter
  pub release_lasts : IsLasting (is_this_release job node number)
  release_lasts = lasting_if_fixed (is_this_release job node number) (λ run next stop from to. refl)

  pub release_stays : IsStaying (is_plain_release job node number)
  release_stays = record {
    fixed = λ run next stop from to. refl;
    no_task = λ run h. and_second (is_this_release job node number run) (is_none run.task) h;
    no_start =
        λ run h. not_start run.kind
        (and_first (is_release run.kind) (names run.job job)
        (and_first (is_release run.kind && names run.job job) (nat_eq run.node node)
        (and_first (is_release_of job node run) (nat_eq run.number number)
        (and_first (is_this_release job node number run) (is_none run.task) h))));
  }

  -- a run of another kind is none
  other_kind : (run : RunRow) → is_release run.kind ≡ false → is_this_release job node number run ≡ false
  other_kind run e = rw e refl

-- release runs stay as they are
pub event_releases : (seats moment : ℕ) (event : EventKind) (s : State) → IsSound seats s → EventReleases s (event_step moment event s).state
event_releases seats moment event s h =
    let now : State = at_moment moment s in
    let after : State = (event_step moment event s).state in
    let does : EventRuns now event now after = does_now now h.consistent.keys.runs event in
    record {
      made =
          λ job node number. some_before (is_this_release job node number) s after
          (no_more_on now now event (is_this_release job node number) (release_lasts job node number) (other_kind job node number) after does);
      kept = λ job node number. stays_on now now event (is_plain_release job node number) (release_stays job node number) after does;
    }
