-- The run of a preparation that ends waits for none and is no task's, before its end and after it: what looks for waiting runs and for
-- runs of tasks is alike in both tables.
use Rattle.std.proofs.Common.{◌≡◌, ℕ, Bool, true, false, not, ◌&&◌, ◌||◌, List, [], ◌∷◌, ◌++◌, Option, Some, None, cond, refl, sym, ◌∙◌, ap}
use Rattle.std.specs.List.{list_any}
use Rattle.bt_rows.specs.Keys.{same_run, same_run_equiv}
use Rattle.bt_rows.specs.Lists.{AreDistinct}
use Rattle.bt_rows.specs.declared.tables.Change.{Change}
use Rattle.bt_rows.specs.declared.tables.Change.TheVariants.{PutRun, PutTask}
use Rattle.batch_model.specs.Events.{ended_run}
use Rattle.batch_model.specs.Finding.{Each, change_where, only_if}
use Rattle.batch_model.specs.Preparing.{is_waiting_on, queued, spent_preparation, waits_on}
use Rattle.batch_model.specs.Preps.{change_prep}
use Rattle.batch_model.specs.Rows.{is_run}
use Rattle.batch_model.specs.Runs.{halted, is_at_prep, is_present, is_taken, is_unended, is_waiting}
use Rattle.batch_model.specs.Stops.{is_run_of_stopped, is_stopped, wanting}
use Rattle.batch_model.specs.Tasks.{is_in_job, is_placed}
use Rattle.batch_model.specs.Variants.{State, TaskRow, WantRequeue, Ending, RunRow, RunState, Waiting, Queued, Taken, Ended, Withdrawn, PrepRow}
use Rattle.model_lists.proofs.DistinctLists.{distinct_change, each_with_key}
use Rattle.model_lists.proofs.RowLists.{any_agree, each_head, each_tail}
use Rattle.model_lists.proofs.Tests.{and_first, and_second, and_true, asked}
use Rattle.row_changes.specs.Puts.{put_if_some, puts_of}
use Rattle.task_stops.specs.StopChanges.{halted_run, stop_changes, stopped_task}
use Rattle.task_stops.proofs.RunOfStopped.{none_without_task}
use Rattle.job_machine.specs.Endings.{IsAtPrep, queued_run, with_end}

-- puts of what rows give are alike where it is alike on each row
puts_agree : {R : Type 0} (put : R → Change) (later give : R → Option R) → ((x : R) → later x ≡ give x) → (xs : List R) → puts_of put later xs ≡ puts_of put give xs
puts_agree put later give agree [] = refl
puts_agree put later give agree (x ∷ xs) =
    ap (λ o. put_if_some put o ++ puts_of put later xs) (agree x)
    ∙ ap (λ more. put_if_some put (give x) ++ more) (puts_agree put later give agree xs)

module _ {R : Type 0} (a test : R → Bool) (change : R → R) where
  -- and so after rows changed in place, by what each row passes
  puts_changed : (put : R → Change) (later give : R → Option R) → ((x : R) → a x ≡ true → later (cond (test x) (change x) x) ≡ give x) → (xs : List R) → Each a xs
      → puts_of put later (change_where test change xs) ≡ puts_of put give xs
  puts_changed put later give agree [] h = refl
  puts_changed put later give agree (x ∷ xs) h =
      ap (λ o. put_if_some put o ++ puts_of put later (change_where test change xs)) (agree x (each_head a x xs h))
      ∙ ap (λ more. put_if_some put (give x) ++ more) (puts_changed put later give agree xs (each_tail a x xs h))

  -- some row passes after the change just if some row did before
  any_changed : (p : R → Bool) → ((x : R) → a x ≡ true → p (cond (test x) (change x) x) ≡ p x) → (xs : List R) → Each a xs
      → list_any p (change_where test change xs) ≡ list_any p xs
  any_changed p agree [] h = refl
  any_changed p agree (x ∷ xs) h =
      ap (λ b. b || list_any p (change_where test change xs)) (agree x (each_head a x xs h))
      ∙ ap (λ b. p x || b) (any_changed p agree xs (each_tail a x xs h))

-- a row that changes or not
changed_by : {R Q : Type 0} (f g : R → Q) (change : R → R) (x : R) (b : Bool) → (b ≡ true → f (change x) ≡ g x) → (b ≡ false → f x ≡ g x) → f (cond b (change x) x) ≡ g x
changed_by f g change x true h k = h refl
changed_by f g change x false h k = k refl

-- a test that none passes
and_none : (b : Bool) → (b && false) ≡ false
and_none true = refl
and_none false = refl

-- a taken run does not wait
not_waiting : (state : RunState) → is_taken state ≡ true → is_waiting state ≡ false
not_waiting Waiting h = cc
not_waiting Queued h = refl
not_waiting Taken h = refl
not_waiting (Ended ending) h = refl
not_waiting Withdrawn h = refl

-- no id is there
abbrev names_nothing : Option (List ℕ) → Bool
names_nothing None = true
names_nothing (Some id) = false

is_nothing : (name : Option (List ℕ)) → names_nothing name ≡ true → name ≡ None
is_nothing None h = refl
is_nothing (Some id) h = cc

module _ (s : State) (run : RunRow) (prep : PrepRow) (at : IsAtPrep s run prep) (now : ℕ) (ending : Ending) where
  -- the runs after the run has ended
  abbrev pub later_runs : List RunRow
  later_runs = change_where (is_run run.number) (ended_run now ending) s.runs

  -- the run alone has its number: it is taken, and names no task
  abbrev is_apart : RunRow → Bool
  is_apart other = not (is_run run.number other) || (is_taken other.state && names_nothing other.task)

  each_apart : Each is_apart s.runs
  each_apart =
      each_with_key same_run same_run_equiv (λ (other : RunRow). is_taken other.state && names_nothing other.task) run run s.runs at.keys.runs at.there
      (and_true at.taken (ap names_nothing at.task))

  taken_itself : (x : RunRow) → is_apart x ≡ true → is_run run.number x ≡ true → is_taken x.state ≡ true
  taken_itself x h e =
      and_first (is_taken x.state) (names_nothing x.task) (asked (is_run run.number x) (is_taken x.state && names_nothing x.task) h e)

  no_task : (x : RunRow) → is_apart x ≡ true → is_run run.number x ≡ true → x.task ≡ None
  no_task x h e =
      is_nothing x.task
      (and_second (is_taken x.state) (names_nothing x.task) (asked (is_run run.number x) (is_taken x.state && names_nothing x.task) h e))

  waits_itself : (x : RunRow) → is_apart x ≡ true → is_run run.number x ≡ true → waits_on prep x ≡ false
  waits_itself x h e = ap (λ b. b && is_at_prep prep x) (not_waiting x.state (taken_itself x h e))

  -- no two runs have the same number after the end
  pub distinct_later : AreDistinct same_run later_runs
  distinct_later = distinct_change (is_run run.number) (ended_run now ending) same_run (λ x y e. refl) (λ x y e. refl) s.runs at.keys.runs

  -- the runs that wait for the preparation are the same after the end
  pub queued_later : puts_of PutRun (queued_run prep) later_runs ≡ puts_of PutRun (queued_run prep) s.runs
  queued_later =
      puts_changed is_apart (is_run run.number) (ended_run now ending) PutRun (queued_run prep) (queued_run prep)
      (λ x h.
      changed_by (queued_run prep) (queued_run prep) (ended_run now ending) x (is_run run.number x)
      (λ e. sym (ap (λ b. only_if b (Some (queued x))) (waits_itself x h e))) (λ e. refl))
      s.runs each_apart

  -- the tasks that wait for the preparation are the same after the end
  waiting_later : (task : TaskRow) → is_waiting_on (with_end now ending run s) prep task ≡ is_waiting_on s prep task
  waiting_later task =
      ap (λ b. is_in_job prep.job task && b)
      (any_changed is_apart (is_run run.number) (ended_run now ending) (λ x. is_present task x && waits_on prep x)
      (λ x h.
      changed_by (λ (y : RunRow). is_present task y && waits_on prep y) (λ (y : RunRow). is_present task y && waits_on prep y) (ended_run now ending) x
      (is_run run.number x) (λ e. ap (λ b. is_present task x && b) (sym (waits_itself x h e))) (λ e. refl))
      s.runs each_apart)

  stopped_later : (task : TaskRow) → is_stopped (is_waiting_on (with_end now ending run s) prep) task ≡ is_stopped (is_waiting_on s prep) task
  stopped_later task = ap (λ b. is_placed task.stage && b) (waiting_later task)

  -- the tables after the end, in which the preparation has failed
  abbrev pub failed_tables : State
  failed_tables = change_prep prep spent_preparation (with_end now ending run s)

  run_later : (x : RunRow) → is_run_of_stopped (is_waiting_on (with_end now ending run s) prep) failed_tables x ≡ is_run_of_stopped (is_waiting_on s prep) s x
  run_later x =
      any_agree (λ task. is_stopped (is_waiting_on (with_end now ending run s) prep) task && is_present task x)
      (λ task. is_stopped (is_waiting_on s prep) task && is_present task x)
      (λ task. ap (λ b. b && is_present task x) (stopped_later task)) s.tasks

  halted_later : (x : RunRow) → is_apart x ≡ true
      → halted_run (is_waiting_on (with_end now ending run s) prep) now failed_tables (cond (is_run run.number x) (ended_run now ending x) x)
      ≡ halted_run (is_waiting_on s prep) now s x
  halted_later x h =
      changed_by (halted_run (is_waiting_on (with_end now ending run s) prep) now failed_tables) (halted_run (is_waiting_on s prep) now s)
      (ended_run now ending) x (is_run run.number x)
      (λ e. sym (ap (λ b. only_if b (Some (halted now x)))
      (ap (λ b. is_unended x.state && b) (none_without_task (is_waiting_on s prep) s x (no_task x h e)) ∙ and_none (is_unended x.state))))
      (λ e. ap (λ b. only_if (is_unended x.state && b) (Some (halted now x))) (run_later x))

  -- the changes that requeue the tasks that wait for the preparation are the same after the end
  pub stops_later : stop_changes (is_waiting_on (with_end now ending run s) prep) WantRequeue now failed_tables
      ≡ stop_changes (is_waiting_on s prep) WantRequeue now s
  stops_later =
      ap (λ puts. puts ++ puts_of PutTask (stopped_task (is_waiting_on (with_end now ending run s) prep) WantRequeue) s.tasks)
      (puts_changed is_apart (is_run run.number) (ended_run now ending) PutRun
      (halted_run (is_waiting_on (with_end now ending run s) prep) now failed_tables) (halted_run (is_waiting_on s prep) now s) halted_later s.runs each_apart)
      ∙ ap (λ puts. puts_of PutRun (halted_run (is_waiting_on s prep) now s) s.runs ++ puts)
      (puts_agree PutTask (stopped_task (is_waiting_on (with_end now ending run s) prep) WantRequeue) (stopped_task (is_waiting_on s prep) WantRequeue)
      (λ task. ap (λ b. only_if b (Some (wanting WantRequeue task))) (stopped_later task)) s.tasks)
