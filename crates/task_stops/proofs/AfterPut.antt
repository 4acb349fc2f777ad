-- A row of a task is put that is not placed: the changes that stop the tasks that pass a test are then those that, before the put, stop the
-- others that pass it.
use Rattle.std.proofs.Common.{◌≡◌, ℕ, Bool, true, false, not, ◌&&◌, List, [], ◌∷◌, ◌++◌, Option, Some, cond, refl, sym, ◌∙◌, ap}
use Rattle.bt_rows.specs.Keys.{same_task, same_task_equiv}
use Rattle.bt_rows.specs.declared.tables.Change.{Change}
use Rattle.bt_rows.specs.declared.tables.Change.TheVariants.{PutRun, PutTask}
use Rattle.batch_model.specs.Finding.{only_if, change_where}
use Rattle.batch_model.specs.Rows.{is_task, put_task}
use Rattle.batch_model.specs.Runs.{is_present, is_unended, halted}
use Rattle.batch_model.specs.Stops.{is_run_of_stopped, is_stopped, wanting}
use Rattle.batch_model.specs.Tasks.{is_placed}
use Rattle.batch_model.specs.WellFormed.{KeysAreDistinct}
use Rattle.batch_model.specs.Variants.{State, TaskRow, Want, RunRow}
use Rattle.model_lists.proofs.DistinctLists.{distinct_change}
use Rattle.model_lists.proofs.MappedRows.{any_map}
use Rattle.model_lists.proofs.RowLists.{any_agree}
use Rattle.row_changes.specs.Puts.{put_if_some, puts_of}
use Rattle.task_stops.specs.StopChanges.{halted_run, stop_changes, stopped_task}

-- puts of what rows give are alike where it is alike on each row
puts_agree : {R : Type 0} (put : R → Change) (p q : R → Option R) → ((x : R) → p x ≡ q x) → (xs : List R) → puts_of put p xs ≡ puts_of put q xs
puts_agree put p q agree [] = refl
puts_agree put p q agree (x ∷ xs) =
    ap (λ o. put_if_some put o ++ puts_of put p xs) (agree x) ∙ ap (λ more. put_if_some put (q x) ++ more) (puts_agree put p q agree xs)

-- tests beside one that does not pass, and beside one that does

off : (a b : Bool) → (a && (b && false)) ≡ false
off true true = refl
off true false = refl
off false b = refl

on : (a b : Bool) → (a && b) ≡ (a && (b && true))
on true true = refl
on true false = refl
on false b = refl

none_of_two : (a b : Bool) → a ≡ false → (a && b) ≡ false
none_of_two true b h = cc
none_of_two false b h = refl

module _ (row : TaskRow) where
  -- the row in the place of the one with its key
  abbrev put : TaskRow → TaskRow
  put x = cond (is_task row.job row.id x) row x

  -- keys stay distinct
  pub keys_put : (s : State) → KeysAreDistinct s → KeysAreDistinct (put_task row s)
  keys_put s k = record {
    pools = k.pools;
    nodes = k.nodes;
    jobs = k.jobs;
    tasks = distinct_change (is_task row.job row.id) (λ old. row) same_task left right s.tasks k.tasks;
    runs = k.runs;
    preps = k.preps;
    samples = k.samples;
    scales = k.scales;
  }
    where
      left : (x y : TaskRow) → is_task row.job row.id x ≡ true → same_task row y ≡ same_task x y
      left x y e = sym (same_task_equiv.congr x row y e)

      right : (x y : TaskRow) → is_task row.job row.id y ≡ true → same_task x row ≡ same_task x y
      right x y e = same_task_equiv.symm x row ∙ left y x e ∙ same_task_equiv.symm y x

module _ (test : TaskRow → Bool) (row : TaskRow) (out : is_placed row.stage ≡ false) where
  -- the tasks that pass, but for the one with the row's key
  abbrev others : TaskRow → Bool
  others task = test task && not (is_task row.job row.id task)

  -- the row is not stopped
  row_stays : is_stopped test row ≡ false
  row_stays = none_of_two (is_placed row.stage) (test row) out

  -- a task after the put is stopped as the others are
  stop_alike : (want : Want) (b : Bool) (x : TaskRow)
      → stopped_task test want (cond b row x) ≡ only_if (is_placed x.stage && (test x && not b)) (Some (wanting want x))
  stop_alike want true x =
      ap (λ b. only_if b (Some (wanting want row))) row_stays ∙ sym (ap (λ b. only_if b (Some (wanting want x))) (off (is_placed x.stage) (test x)))
  stop_alike want false x = ap (λ b. only_if b (Some (wanting want x))) (on (is_placed x.stage) (test x))

  tasks_alike : (want : Want) (xs : List TaskRow)
      → puts_of PutTask (stopped_task test want) (change_where (is_task row.job row.id) (λ old. row) xs) ≡ puts_of PutTask (stopped_task others want) xs
  tasks_alike want [] = refl
  tasks_alike want (x ∷ xs) =
      ap (λ o. put_if_some PutTask o ++ puts_of PutTask (stopped_task test want) (change_where (is_task row.job row.id) (λ old. row) xs))
      (stop_alike want (is_task row.job row.id x) x)
      ∙ ap (λ more. put_if_some PutTask (stopped_task others want x) ++ more) (tasks_alike want xs)

  -- a run is of a stopped task as before
  run_alike : (run : RunRow) (b : Bool) (x : TaskRow)
      → (is_stopped test (cond b row x) && is_present (cond b row x) run) ≡ ((is_placed x.stage && (test x && not b)) && is_present x run)
  run_alike run true x =
      none_of_two (is_stopped test row) (is_present row run) row_stays
      ∙ sym (none_of_two (is_placed x.stage && (test x && false)) (is_present x run) (off (is_placed x.stage) (test x)))
  run_alike run false x = ap (λ p. p && is_present x run) (on (is_placed x.stage) (test x))

  stopped_alike : (s : State) (run : RunRow) → is_run_of_stopped test (put_task row s) run ≡ is_run_of_stopped others s run
  stopped_alike s run =
      any_map (put row) (λ task. is_stopped test task && is_present task run) s.tasks
      ∙ any_agree (λ task. is_stopped test (put row task) && is_present (put row task) run) (λ task. is_stopped others task && is_present task run)
      (λ task. run_alike run (is_task row.job row.id task) task) s.tasks

  runs_alike : (now : ℕ) (s : State) → puts_of PutRun (halted_run test now (put_task row s)) s.runs ≡ puts_of PutRun (halted_run others now s) s.runs
  runs_alike now s =
      puts_agree PutRun (halted_run test now (put_task row s)) (halted_run others now s)
      (λ run. ap (λ b. only_if (is_unended run.state && b) (Some (halted now run))) (stopped_alike s run)) s.runs

  -- the changes after the put
  pub changes_after_put : (want : Want) (now : ℕ) (s : State) → stop_changes test want now (put_task row s) ≡ stop_changes others want now s
  changes_after_put want now s =
      ap (λ puts. puts ++ puts_of PutTask (stopped_task test want) (put_task row s).tasks) (runs_alike now s)
      ∙ ap (λ puts. puts_of PutRun (halted_run others now s) s.runs ++ puts) (tasks_alike want s.tasks)
