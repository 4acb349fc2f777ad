-- Tasks are stopped after a task was put that is not placed: as if the others were stopped first.
use Rattle.std.proofs.Common.{◌≡◌, Bool, true, false, not, ◌&&◌, List, [], ◌∷◌, map, cond, refl, sym, ◌∙◌, ap}
use Rattle.batch_model.specs.Finding.{change_where}
use Rattle.batch_model.specs.Rows.{is_task, put_task}
use Rattle.batch_model.specs.Runs.{is_present, halted}
use Rattle.batch_model.specs.Tasks.{is_placed}
use Rattle.batch_model.specs.Stops.{wanting, is_stopped, is_run_of_stopped, stop}
use Rattle.batch_model.specs.Variants.{State, TaskRow, Want, RunRow}
use Rattle.model_lists.proofs.RowLists.{each_any, any_agree}
use Rattle.model_lists.proofs.MappedRows.{any_map}
use Rattle.model_lists.proofs.ChangedRows.{change_agree_where}

-- two changes one after the other
two_maps : {A : Type 0} (f g h k : A → A) → ((x : A) → f (g x) ≡ h (k x)) → (xs : List A) → map f (map g xs) ≡ map h (map k xs)
two_maps f g h k alike [] = refl
two_maps f g h k alike (x ∷ xs) = rw (alike x, two_maps f g h k alike xs) refl

-- tests beside one that does not pass, and beside one that does
off : (a b : Bool) → (a && (b && false)) ≡ false
off true true = refl
off true false = refl
off false b = refl

on : (a b : Bool) → (a && b) ≡ (a && (b && true))
on true true = refl
on true false = refl
on false b = refl

-- what does not pass beside another
none_of_two : (a b : Bool) → a ≡ false → (a && b) ≡ false
none_of_two true b h = cc
none_of_two false b h = refl

module _ (test : TaskRow → Bool) (want : Want) (row : TaskRow) (out : is_placed row.stage ≡ false) where
  -- the tasks that pass, but for the one with the row's key
  abbrev pub others : TaskRow → Bool
  others task = test task && not (is_task row.job row.id task)

  -- the row is not stopped
  row_stays : is_stopped test row ≡ false
  row_stays = none_of_two (is_placed row.stage) (test row) out

  -- a task after the put is stopped as the others are
  stop_alike : (b : Bool) (x : TaskRow) → is_stopped test (cond b row x) ≡ (is_placed x.stage && (test x && not b))
  stop_alike true x = row_stays ∙ sym (off (is_placed x.stage) (test x))
  stop_alike false x = on (is_placed x.stage) (test x)

  -- a wanted end keeps the key
  key_kept : (p : Bool) (x : TaskRow) → is_task row.job row.id (cond p (wanting want x) x) ≡ is_task row.job row.id x
  key_kept true x = refl
  key_kept false x = refl

  -- the row in its place, and another task stopped if it is one of the others
  task_alike : (b p q k : Bool) (x : TaskRow) → p ≡ q → k ≡ b → (b ≡ true → p ≡ false)
      → cond p (wanting want (cond b row x)) (cond b row x) ≡ cond k row (cond q (wanting want x) x)
  task_alike true true q k x e key n = let none : true ≡ false = n refl in cc
  task_alike true false q true x e key n = refl
  task_alike true false q false x e key n = cc
  task_alike false p q true x e key n = cc
  task_alike false true true false x e key n = refl
  task_alike false true false false x e key n = cc
  task_alike false false true false x e key n = cc
  task_alike false false false false x e key n = refl

  -- a put row is not stopped
  put_stays : (b : Bool) (x : TaskRow) → b ≡ true → is_stopped test (cond b row x) ≡ false
  put_stays true x h = row_stays
  put_stays false x h = cc

  module _ (s : State) where
    -- a task is put
    abbrev put : TaskRow → TaskRow
    put x = cond (is_task row.job row.id x) row x

    tasks_alike : change_where (is_stopped test) (wanting want) (put_task row s).tasks ≡ (put_task row (stop others want s)).tasks
    tasks_alike =
        two_maps (λ x. cond (is_stopped test x) (wanting want x) x) put put (λ x. cond (is_stopped others x) (wanting want x) x)
        (λ x. task_alike (is_task row.job row.id x) (is_stopped test (put x)) (is_stopped others x)
        (is_task row.job row.id (cond (is_stopped others x) (wanting want x) x)) x
        (stop_alike (is_task row.job row.id x) x)
        (key_kept (is_stopped others x) x)
        (put_stays (is_task row.job row.id x) x))
        s.tasks

    -- a run is of a stopped task as before
    run_alike : (run : RunRow) (b : Bool) (x : TaskRow)
        → (is_stopped test (cond b row x) && is_present (cond b row x) run) ≡ ((is_placed x.stage && (test x && not b)) && is_present x run)
    run_alike run true x =
        none_of_two (is_stopped test row) (is_present row run) row_stays
        ∙ sym (none_of_two (is_placed x.stage && (test x && false)) (is_present x run) (off (is_placed x.stage) (test x)))
    run_alike run false x = ap (λ p. p && is_present x run) (on (is_placed x.stage) (test x))

    runs_alike : change_where (is_run_of_stopped test (put_task row s)) (halted s.moment) s.runs
        ≡ change_where (is_run_of_stopped others s) (halted s.moment) s.runs
    runs_alike =
        change_agree_where (λ run. true) (is_run_of_stopped test (put_task row s)) (is_run_of_stopped others s) (halted s.moment)
        (λ run a. any_map put (λ task. is_stopped test task && is_present task run) s.tasks
        ∙ any_agree (λ task. is_stopped test (put task) && is_present (put task) run) (λ task. is_stopped others task && is_present task run)
        (λ task. run_alike run (is_task row.job row.id task) task) s.tasks)
        s.runs (each_any (λ run. true) (λ run. refl) s.runs)

    -- a put, and then a stop
    pub stop_after_put : stop test want (put_task row s) ≡ put_task row (stop others want s)
    stop_after_put = by_parts tasks_alike runs_alike
      where
        by_parts : {a b : List TaskRow} {c d : List RunRow} → a ≡ b → c ≡ d → record s { tasks = a; runs = c } ≡ record s { tasks = b; runs = d }
        by_parts h k = rw (h, k) refl
