-- The first task of a job that fits, by the job's ledger and by the tables.
use Rattle.std.proofs.Common.{◌≡◌, ℕ, ◌≤◌, ◌<◌, ◌^◌, Bool, true, false, ◌&&◌, nat_lt, List, [], ◌∷◌, Option, Some, None, cond, find, refl, sym, ◌∙◌, ap, arith}
use Rattle.std.specs.Prelude.{nat_le, is_none, is_some}
use Rattle.std.specs.Option.{option_map, option_and_then}
use Rattle.std.proofs.lemmas.Bool.Decides.{Decides-ltb}
use Rattle.slot_ledger.specs.declared.ledger.Entry.{Entry}
use Rattle.slot_ledger.specs.Ledgers.{chosen, is_within}
use Rattle.bt_rows.specs.declared.pool.Fill.{Fill}
use Rattle.batch_model.specs.Finding.{Each, find_map, only_if, or_else}
use Rattle.batch_model.specs.Placing.{is_placeable, choice, place, place_task}
use Rattle.batch_model.specs.Readiness.{is_unblocked}
use Rattle.batch_model.specs.Tasks.{is_active, is_in_job}
use Rattle.batch_model.specs.Variants.{State, PoolRow, NodeRow, JobRow, TaskRow}
use Rattle.model_lists.proofs.RowLists.{find_test, each_head, each_tail, each_found, find_agree}
use Rattle.model_lists.proofs.Tests.{and_first}
use Rattle.task_placing.specs.Entries.{ledger_for}
use Rattle.task_placing.specs.Fitting.{IsPoolRow, fits_in, fits_by, is_ready_within}
use Rattle.task_placing.proofs.Choices.{and_never, same_fits}

module _ {Q R : Type 0} where
  first_gives : (give : Q → Option R) (x : Q) (xs : List Q) (b : Bool) → b ≡ is_some (give x) → (found : Option Q) → find_map give xs ≡ option_and_then give found → or_else (give x) (find_map give xs) ≡ option_and_then give (cond b (Some x) found)
  first_gives give x xs b e found h = either (give x) refl b e
    where
      either : (o : Option R) → give x ≡ o → (c : Bool) → c ≡ is_some (give x) → or_else (give x) (find_map give xs) ≡ option_and_then give (cond c (Some x) found)
      either (Some y) i true k = ap (λ o. or_else o (find_map give xs)) i ∙ sym i
      either (Some y) i false k = let m : false ≡ true = k ∙ ap is_some i in cc
      either None i true k = let m : true ≡ false = k ∙ ap is_some i in cc
      either None i false k = ap (λ o. or_else o (find_map give xs)) i ∙ h

  -- the first that there is comes from the first row that gives one
  pub given_first : (give : Q → Option R) (test : Q → Bool) → ((x : Q) → test x ≡ is_some (give x)) → (xs : List Q) → find_map give xs ≡ option_and_then give (find test xs)
  given_first give test same [] = refl
  given_first give test same (x ∷ xs) = first_gives give x xs (test x) (same x) (find test xs) (given_first give test same xs)

  -- rows that give nothing give nothing together
  pub none_of_all : (a : Q → Bool) (give : Q → Option R) → ((row : Q) → a row ≡ true → give row ≡ None) → (rows : List Q) → Each a rows → find_map give rows ≡ None
  none_of_all a give none [] h = refl
  none_of_all a give none (row ∷ rows) h =
      ap (λ one. or_else one (find_map give rows)) (none row (each_head a row rows h)) ∙ none_of_all a give none rows (each_tail a row rows h)

  pub only_some : (p : Bool) (f : Q → R) (o : Option Q) → (p && is_some o) ≡ is_some (only_if p (option_map f o))
  only_some true f None = refl
  only_some true f (Some x) = refl
  only_some false f o = refl

  -- a step that is under a condition and on a choice
  pub only_chosen : (p : Bool) (f : Q → R) (o : Option Q) (x : Q) → p ≡ true → o ≡ Some x → only_if p (option_map f o) ≡ Some (f x)
  only_chosen p f o x h e = ap (λ b. only_if b (option_map f o)) h ∙ ap (option_map f) e

  pub none_chosen : (p : Bool) (f : Q → R) (o : Option Q) → (p ≡ true → o ≡ None) → only_if p (option_map f o) ≡ None
  none_chosen true f o h = ap (option_map f) (h refl)
  none_chosen false f o h = refl

-- the first task that fits is the one that is placed
pub fitting_first : (s : State) (job : JobRow) (pool : PoolRow) → find_map (place_task s job pool) s.tasks ≡ option_and_then (place_task s job pool) (find (fits_in s job pool) s.tasks)
fitting_first s job pool =
    given_first (place_task s job pool) (fits_in s job pool) (λ task. only_some (is_placeable s job task) (place s job task) (choice s job pool task.slots)) s.tasks

-- the task that the ledger finds is the one that the tables do
pub task_found : (s : State) (entries : List Entry) (job : JobRow) (pool : PoolRow) (task : TaskRow) → entries ≡ ledger_for s job → IsPoolRow s pool → Some task ≡ find (fits_by s entries job pool) s.tasks → find (fits_in s job pool) s.tasks ≡ Some task
task_found s entries job pool task e is_row h = sym (same_fits s entries job pool e is_row) ∙ sym h

-- nothing is placed if no task is found
pub no_task : (s : State) (entries : List Entry) (job : JobRow) (pool : PoolRow) → entries ≡ ledger_for s job → IsPoolRow s pool → None ≡ find (fits_by s entries job pool) s.tasks → find_map (place_task s job pool) s.tasks ≡ None
no_task s entries job pool e is_row h =
    fitting_first s job pool ∙ ap (option_and_then (place_task s job pool)) (sym (same_fits s entries job pool e is_row) ∙ sym h)

-- nor if no node is chosen for it
pub no_node : (s : State) (job : JobRow) (pool : PoolRow) (task : TaskRow) → find (fits_in s job pool) s.tasks ≡ Some task → None ≡ choice s job pool task.slots → find_map (place_task s job pool) s.tasks ≡ None
no_node s job pool task found h =
    fitting_first s job pool
    ∙ ap (option_and_then (place_task s job pool)) found
    ∙ none_chosen (is_placeable s job task) (place s job task) (choice s job pool task.slots) (λ k. sym h)

-- the task that is found is placed on the node that is chosen
pub task_placed : (s : State) (job : JobRow) (pool : PoolRow) (task : TaskRow) (node : NodeRow) → find (fits_in s job pool) s.tasks ≡ Some task → Some node ≡ choice s job pool task.slots → find_map (place_task s job pool) s.tasks ≡ Some (place s job task node)
task_placed s job pool task node found h =
    fitting_first s job pool
    ∙ ap (option_and_then (place_task s job pool)) found
    ∙ only_chosen (is_placeable s job task) (place s job task) (choice s job pool task.slots) node
    (and_first (is_placeable s job task) (is_some (choice s job pool task.slots)) (find_test (fits_in s job pool) task s.tasks found)) (sym h)

-- its attempt is far below the end of its type
pub attempt_left : (next : ℕ) (task : TaskRow) (test : TaskRow → Bool) (tasks : List TaskRow) → Each (λ task. nat_lt task.attempt next) tasks → find test tasks ≡ Some task → next ≤ 10 ^ 15 → task.attempt < 2 ^ 63
attempt_left next task test tasks attempts found left =
    let below : task.attempt < next = (Decides-ltb task.attempt next).0 (each_found (λ task. nat_lt task.attempt next) test task tasks found attempts) in
    omega arith

-- the first task that fits by a ledger is the first ready one for which enough slots are free

-- what a task depends on is asked last
asked_last : (here active unblocked single within : Bool) → (((here && (active && unblocked)) && single) && within) ≡ (((here && (active && single)) && within) && unblocked)
asked_last false active unblocked single within = refl
asked_last true false unblocked single within = refl
asked_last true true false single within = sym (and_never (single && within))
asked_last true true true single within = sym (and_always (single && within))
  where
    and_always : (a : Bool) → (a && true) ≡ a
    and_always true = refl
    and_always false = refl

fit_within : (s : State) (entries : List Entry) (job : JobRow) (pool : PoolRow) (most : ℕ) → ((need : ℕ) → is_some (chosen entries pool.id pool.fill need) ≡ nat_le need most) → (tasks : List TaskRow) → find (fits_by s entries job pool) tasks ≡ find (is_ready_within s job.id most) tasks
fit_within s entries job pool most same tasks =
    find_agree (fits_by s entries job pool) (is_ready_within s job.id most)
    (λ task. ap (λ b. is_placeable s job task && b) (same task.slots)
    ∙ asked_last (is_in_job job.id task) (is_active task.stage) (is_unblocked s task) (is_none task.multi) (nat_le task.slots most)) tasks

find_never : {R : Type 0} (test : R → Bool) → ((x : R) → test x ≡ false) → (xs : List R) → find test xs ≡ None
find_never test never [] = refl
find_never test never (x ∷ xs) = rw (never x, find_never test never xs) refl

fit_never : (s : State) (entries : List Entry) (job : JobRow) (pool : PoolRow) → ((need : ℕ) → is_some (chosen entries pool.id pool.fill need) ≡ false) → (tasks : List TaskRow) → find (fits_by s entries job pool) tasks ≡ None
fit_never s entries job pool none tasks =
    find_never (fits_by s entries job pool) (λ task. ap (λ b. is_placeable s job task && b) (none task.slots) ∙ and_never (is_placeable s job task)) tasks

-- the task that was found for the most free slots, if there are any
pub fits_most : (s : State) (entries : List Entry) (job : JobRow) (pool : PoolRow) (most : Option ℕ) → ((fill : Fill) (need : ℕ) → is_some (chosen entries pool.id fill need) ≡ is_within need most) → (tasks : List TaskRow)
    → find (fits_by s entries job pool) tasks ≡ option_and_then (λ n. find (is_ready_within s job.id n) tasks) most
fits_most s entries job pool None same tasks = fit_never s entries job pool (same pool.fill) tasks
fits_most s entries job pool (Some most) same tasks = fit_within s entries job pool most (same pool.fill) tasks
