-- The preparation of a run's job on its node, in sound tables.
use Rattle.std.proofs.Common.{◌≡◌, ℕ, ◌+◌, ◌^◌, ◌<◌, ◌≤◌, Bool, true, ◌&&◌, ◌||◌, count_by, List, Option, Some, None, is_none, refl, arith, lit≤}
use Rattle.std.specs.Option.{option_and_then}
use Rattle.std.proofs.lemmas.Bool.Decides.{Decides-ltb}
use Rattle.bt_rows.specs.Keys.{same_prep}
use Rattle.bt_rows.specs.Lists.{AreDistinct}
use Rattle.batch_model.specs.Finding.{Each, last_number}
use Rattle.batch_model.specs.Preparing.{prep_of_run}
use Rattle.batch_model.specs.Rows.{is_prep, is_run, prep_of, run_of}
use Rattle.batch_model.specs.Runs.{is_preparation, is_release, is_taken, is_unended}
use Rattle.batch_model.specs.Sound.{IsSound, names_no_task}
use Rattle.batch_model.specs.Variants.{State, RunRow, RunState, Waiting, Queued, Taken, Ended, Withdrawn, PrepRow}
use Rattle.batch_model.specs.WellFormed.{KeysAreDistinct, has_few_preparations, is_preparing}
use Rattle.model_lists.proofs.RowLists.{each_found}
use Rattle.model_lists.proofs.Tests.{and_true, asked, or_first}
use Rattle.row_changes.proofs.PrepPuts.{own_prep}
use Rattle.job_machine.specs.Endings.{IsAtPrep}

module _ (s : State) (node : ℕ) (prep : PrepRow) where
  -- the preparation of a job on the node passes what each passes
  passes : (p : PrepRow → Bool) (job : Option (List ℕ)) → option_and_then (λ id. prep_of s id node) job ≡ Some prep → Each p s.preps → p prep ≡ true
  passes p None found each = cc
  passes p (Some id) found each = each_found p (is_prep id node) prep s.preps found each

  -- and is the one with its own job and node
  own_key : (job : Option (List ℕ)) → AreDistinct same_prep s.preps → option_and_then (λ id. prep_of s id node) job ≡ Some prep → prep_of s prep.job prep.node ≡ Some prep
  own_key None distinct found = cc
  own_key (Some id) distinct found = own_prep (is_prep id node) prep s distinct found

-- the preparation of the run's job on its node has its own job and node
pub own_prep_of_run : (s : State) (run : RunRow) (prep : PrepRow) → KeysAreDistinct s → prep_of_run s run ≡ Some prep → prep_of s prep.job prep.node ≡ Some prep
own_prep_of_run s run prep keys found = own_key s run.node prep run.job keys.preps found

-- a number that is far below another
far_below : (tries others next limit bound : ℕ) → tries + others < next → next ≤ limit → limit ≤ bound → tries < bound
far_below tries others next limit bound few within far = omega arith

-- failures of a preparation are far below the end of their type
has_few : (seats : ℕ) (s : State) (run : RunRow) (prep : PrepRow) → IsSound seats s → prep_of_run s run ≡ Some prep → prep.tries < 2 ^ 63
has_few seats s run prep sound found =
    let others = count_by (is_preparing prep) s.runs in
    far_below prep.tries others s.next_run (last_number + 64) (2 ^ 63)
    ((Decides-ltb (prep.tries + others) s.next_run).0 (passes s run.node prep (has_few_preparations s) run.job found sound.preparing.tries))
    sound.limited.counts.next_run (lit≤ tt)

taken_unended : (state : RunState) → is_taken state ≡ true → is_unended state ≡ true
taken_unended Waiting h = refl
taken_unended Queued h = refl
taken_unended Taken h = refl
taken_unended (Ended ending) h = cc
taken_unended Withdrawn h = cc

is_nothing : {A : Type 0} (o : Option A) → is_none o ≡ true → o ≡ None
is_nothing None h = refl
is_nothing (Some x) h = cc

-- a taken preparation run names no task
no_task : (run : RunRow) → names_no_task run ≡ true → is_preparation run.kind ≡ true → is_taken run.state ≡ true → run.task ≡ None
no_task run theirs kind taken =
    is_nothing run.task
    (asked ((is_preparation run.kind || is_release run.kind) && is_unended run.state) (is_none run.task) theirs
    (and_true (or_first (is_release run.kind) kind) (taken_unended run.state taken)))

-- a taken preparation run that is found, and the preparation of its job on its node
pub at_prep : (seats : ℕ) (s : State) (run : RunRow) (prep : PrepRow) → IsSound seats s → run_of s run.number ≡ Some run → is_preparation run.kind ≡ true → is_taken run.state ≡ true → prep_of_run s run ≡ Some prep → IsAtPrep s run prep
at_prep seats s run prep sound there kind taken found = record {
  keys = sound.consistent.keys;
  below = sound.consistent.numbers.runs;
  there = there;
  taken = taken;
  task = no_task run (each_found names_no_task (is_run run.number) run s.runs there sound.consistent.naming.of_jobs) kind taken;
  found = found;
  few = has_few seats s run prep sound found;
}
