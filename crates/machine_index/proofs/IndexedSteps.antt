-- The parts are those of the tables after a change.
use Rattle.std.proofs.Common.{◌≡◌, ℕ, ◌<◌, Bool, IfSome, List, length, set, Option, Some, None, refl, sym, ap, subst, ◌∙◌, arith}
use Rattle.std.specs.Option.{unwrap_or}
use Rattle.std.proofs.lemmas.List.{length-set}
use Rattle.first_tree.specs.Ranks.{Ranks}
use Rattle.kept_table.specs.Slots.{AreApart, slot_at, rows, place_of, put_at, clear_at}
use Rattle.kept_table.proofs.PlacesOf.{place_of_within, slot_at_past}
use Rattle.ranked_groups.specs.Items.{GroupsView}
use Rattle.text_chains.specs.Chains.{ChainsView}
use Rattle.bt_rows.specs.Keys.{task_has_ids}
use Rattle.bt_rows.specs.Texts.{task_text}
use Rattle.batch_model.specs.Variants.{TaskRow, RunRow}
use Rattle.run_index.specs.Attempts.{HasRuns}
use Rattle.run_index.specs.Held.{SumsView, HasHeld}
use Rattle.run_index.specs.Named.{place_named, place_of_run}
use Rattle.machine_index.specs.Indexed.{IsIndexed}
use Rattle.task_index.specs.Over.{AreOver, IsRunStep, over_rank, with_rank}
use Rattle.task_index.specs.Active.{AreItemsOf}
use Rattle.task_index.specs.Timed.{AreTimed}
use Rattle.run_index.specs.Queued.{AreQueued}
use Rattle.run_index.specs.Asked.{AreAsked}
use Rattle.task_index.specs.Numbered.{HasNumbered}
use Rattle.run_index.specs.Nodes.{HasNodeRuns}
use Rattle.task_index.proofs.OverRanks.{over_step}
use Rattle.task_index.proofs.ActiveItems.{items_length}
use Rattle.run_index.proofs.FreePlaces.{free_set, free_past, free_push, free_put, free_clear}
use Rattle.machine_index.proofs.RunSteps.{found_at, step_put, step_clear}
use Rattle.run_index.proofs.AskedRanks.{asked_length}
use Rattle.run_index.proofs.NextPlaces.{held_none}
use Rattle.run_index.proofs.QueuedRanks.{queued_length}
use Rattle.task_index.proofs.TimedRanks.{timed_length}

-- of the tasks and the runs that are these
pub indexed_at : (tasks others : List (Option TaskRow)) (slots placed : List (Option RunRow)) (view : ChainsView) (groups : GroupsView)
    (ranks : Ranks) (sums : SumsView) (times numbers stops : Ranks) (chains nodes : ChainsView)
    → others ≡ tasks → placed ≡ slots → HasRuns view slots → AreItemsOf tasks groups.items → AreOver (rows slots) tasks ranks.items
    → HasHeld sums (rows tasks) slots → AreTimed tasks times.items → AreQueued slots numbers.items → AreAsked slots stops.items → HasNumbered chains tasks
    → HasNodeRuns nodes slots → IsIndexed others placed view groups ranks sums times numbers stops chains nodes
indexed_at tasks others slots placed view groups ranks sums times numbers stops chains nodes e f runs active over held timed queued asked numbered on_nodes = record {
  runs = rw f runs;
  active = rw e active;
  over = rw (e, f) over;
  held = rw (e, f) held;
  timed = rw e timed;
  queued = rw f queued;
  asked = rw f asked;
  numbered = rw e numbered;
  on_nodes = rw f on_nodes;
}

module _ {R : Type 0} where
  pub found_slot : (before : Option ℕ) (slots : List (Option R)) → slot_at slots (unwrap_or before (length slots)) ≡ found_at before slots
  found_slot None slots = slot_at_past slots (length slots) (omega arith)
  found_slot (Some at) slots = refl

-- what the other tasks hold, after the task was put
pub held_beside : (sums : SumsView) (before : Option ℕ) (tasks others : List (Option TaskRow)) (slots placed : List (Option RunRow)) (place : ℕ) (task : TaskRow)
    → others ≡ put_at before task tasks → placed ≡ slots → place ≡ unwrap_or before (length tasks) → HasHeld sums (rows (set tasks place None)) slots
    → HasHeld sums (rows (set others place None)) placed
held_beside sums before tasks others slots placed place task e f is held =
    rw (e, f, is)
    (subst (λ (ts : List TaskRow). HasHeld sums ts slots) (sym (free_put before tasks task))
    (subst (λ (k : ℕ). HasHeld sums (rows (set tasks k None)) slots) is held))

held_free : (sums : SumsView) (tasks : List TaskRow) (before : Option ℕ) (slots : List (Option RunRow)) (run : RunRow)
    → HasHeld sums tasks (set slots (unwrap_or before (length slots)) None) → HasHeld sums tasks (set (put_at before run slots) (unwrap_or before (length slots)) None)
held_free sums tasks None slots run held =
    subst (HasHeld sums tasks) (sym (free_push slots (Some run))) (held_none sums tasks slots (subst (HasHeld sums tasks) (free_past slots) held))
held_free sums tasks (Some at) slots run held = subst (HasHeld sums tasks) (sym (free_set slots at (Some run))) held

-- what the other runs hold, after the run was put
pub held_beside_run : (sums : SumsView) (before : Option ℕ) (tasks others : List TaskRow) (slots placed : List (Option RunRow)) (place : ℕ) (run : RunRow)
    → others ≡ tasks → placed ≡ put_at before run slots → place ≡ unwrap_or before (length slots) → HasHeld sums tasks (set slots place None)
    → HasHeld sums others (set placed place None)
held_beside_run sums before tasks others slots placed place run e f is held =
    rw (e, f, is) (held_free sums tasks before slots run (subst (λ (k : ℕ). HasHeld sums tasks (set slots k None)) is held))

named_within : (slots : List (Option TaskRow)) (job id : Option (List ℕ)) → IfSome (place_named slots job id) (λ place. place < length slots)
named_within slots None id = tt
named_within slots (Some job) None = tt
named_within slots (Some job) (Some id) = by (place_of (task_has_ids job id) slots) refl
  where
    by : (place : Option ℕ) → place_of (task_has_ids job id) slots ≡ place → IfSome place (λ at. at < length slots)
    by None e = tt
    by (Some at) e = place_of_within (task_has_ids job id) slots at e

-- the run's task has one of the places
pub run_within : (slots : List (Option TaskRow)) (run : Option RunRow) → IfSome (place_of_run slots run) (λ place. place < length slots)
run_within slots None = tt
run_within slots (Some run) = named_within slots run.job run.task

-- the ranks of the tasks that the old and the new run name were put
pub over_after : (was is : Option RunRow) (slots placed : List (Option RunRow)) (tasks others : List (Option TaskRow)) (runs : List RunRow) (p q : Option ℕ) (ranks first second : List ℕ)
    → AreApart task_text tasks → IsRunStep was is slots placed → others ≡ tasks → runs ≡ rows placed → p ≡ place_of_run tasks was → q ≡ place_of_run tasks is
    → first ≡ with_rank runs others p ranks → second ≡ with_rank runs others q first → AreOver (rows slots) tasks ranks
    → AreOver (rows placed) others second
over_after was is slots placed tasks others runs p q ranks first second apart step e f g h i j over =
    rw (j, i, g, h, f, e) (over_step was is slots placed tasks ranks apart step (run_within tasks was) (run_within tasks is) over)

-- with other room
pub indexed_kept : (tasks others : List (Option TaskRow)) (slots placed : List (Option RunRow)) (view changed : ChainsView)
    (groups grouped : GroupsView) (ranks ranked : Ranks) (sums summed : SumsView) (times timed : Ranks) (numbers numbered : Ranks) (stops stopped : Ranks) (chains chained : ChainsView) (nodes others_on : ChainsView)
    → others ≡ tasks → placed ≡ slots → (HasRuns view slots → HasRuns changed slots) → grouped.items ≡ groups.items → ranked.items ≡ ranks.items
    → (HasHeld sums (rows tasks) slots → HasHeld summed (rows tasks) slots) → timed.items ≡ times.items → numbered.items ≡ numbers.items → stopped.items ≡ stops.items
    → (HasNumbered chains tasks → HasNumbered chained tasks) → (HasNodeRuns nodes slots → HasNodeRuns others_on slots)
    → IsIndexed tasks slots view groups ranks sums times numbers stops chains nodes → IsIndexed others placed changed grouped ranked summed timed numbered stopped chained others_on
indexed_kept tasks others slots placed view changed groups grouped ranks ranked sums summed times timed numbers numbered stops stopped chains chained nodes others_on e f runs active over
    held later queued asked known follows indexed =
    indexed_at tasks others slots placed changed grouped ranked summed timed numbered stopped chained others_on e f (runs indexed.runs) (rw active indexed.active)
    (rw over indexed.over) (held indexed.held) (rw later indexed.timed) (rw queued indexed.queued) (rw asked indexed.asked) (known indexed.numbered)
    (follows indexed.on_nodes)

-- a place that was found is one of the parts'
pub within_active : (test : TaskRow → Bool) (place : Option ℕ) (tasks : List (Option TaskRow)) (groups : GroupsView) → place ≡ place_of test tasks → AreItemsOf tasks groups.items
    → IfSome place (λ at. at < length groups.items)
within_active test None tasks groups e active = tt
within_active test (Some at) tasks groups e active =
    let within = place_of_within test tasks at (sym e) in
    let long = items_length tasks groups.items active in
    omega (arith, within, long)

pub within_over : (test : TaskRow → Bool) (place : Option ℕ) (tasks : List (Option TaskRow)) (ranks : List ℕ) → place ≡ place_of test tasks → length ranks ≡ length tasks
    → IfSome place (λ at. at < length ranks)
within_over test None tasks ranks e long = tt
within_over test (Some at) tasks ranks e long =
    let within = place_of_within test tasks at (sym e) in
    omega (arith, within, long)

pub within_timed : (test : TaskRow → Bool) (place : Option ℕ) (tasks : List (Option TaskRow)) (ranks : List ℕ) → place ≡ place_of test tasks → AreTimed tasks ranks
    → IfSome place (λ at. at < length ranks)
within_timed test place tasks ranks e timed = within_over test place tasks ranks e (timed_length tasks ranks timed)

pub within_queued : (test : RunRow → Bool) (place : Option ℕ) (slots : List (Option RunRow)) (ranks : List ℕ)
    → place ≡ place_of test slots → AreQueued slots ranks → IfSome place (λ at. at < length ranks)
within_queued test None slots ranks e queued = tt
within_queued test (Some at) slots ranks e queued =
    let within = place_of_within test slots at (sym e) in
    let long = queued_length slots ranks queued in
    omega (arith, within, long)

pub within_asked : (test : RunRow → Bool) (place : Option ℕ) (slots : List (Option RunRow)) (ranks : List ℕ)
    → place ≡ place_of test slots → AreAsked slots ranks → IfSome place (λ at. at < length ranks)
within_asked test None slots ranks e asked = tt
within_asked test (Some at) slots ranks e asked =
    let within = place_of_within test slots at (sym e) in
    let long = asked_length slots ranks asked in
    omega (arith, within, long)

pub within_named : (run : Option RunRow) (place : Option ℕ) (tasks : List (Option TaskRow)) (ranks : List ℕ) → place ≡ place_of_run tasks run → length ranks ≡ length tasks
    → IfSome place (λ at. at < length ranks)
within_named run place tasks ranks e long = rw (e, long) (run_within tasks run)

with_length : (runs : List RunRow) (tasks : List (Option TaskRow)) (place : Option ℕ) (ranks : List ℕ) → length (with_rank runs tasks place ranks) ≡ length ranks
with_length runs tasks None ranks = refl
with_length runs tasks (Some at) ranks = length-set ranks at (over_rank runs (slot_at tasks at))

pub within_again : (run : Option RunRow) (place before : Option ℕ) (tasks others : List (Option TaskRow)) (runs : List RunRow) (ranks first : List ℕ) → place ≡ place_of_run tasks run
    → first ≡ with_rank runs others before ranks → length ranks ≡ length tasks → IfSome place (λ at. at < length first)
within_again run place before tasks others runs ranks first e f long =
    within_named run place tasks first e (ap length f ∙ with_length runs others before ranks ∙ long)

-- the step of the runs
pub put_step : (before : Option ℕ) (place : ℕ) (slots placed : List (Option RunRow)) (run : RunRow) → place ≡ unwrap_or before (length slots) → placed ≡ put_at before run slots
    → IsRunStep (slot_at slots place) (Some run) slots placed
put_step before place slots placed run e f = rw (f, e, found_slot before slots) (step_put before slots run)

pub clear_step : (before : Option ℕ) (place : ℕ) (slots placed : List (Option RunRow)) → place ≡ unwrap_or before (length slots) → placed ≡ clear_at before slots
    → IsRunStep (slot_at slots place) None slots placed
clear_step before place slots placed e f = rw (f, e, found_slot before slots) (step_clear before slots)

-- what the runs hold, after one was removed
pub held_cleared : (sums : SumsView) (before : Option ℕ) (tasks others : List TaskRow) (slots placed : List (Option RunRow)) (place : ℕ)
    → others ≡ tasks → placed ≡ clear_at before slots → place ≡ unwrap_or before (length slots) → HasHeld sums tasks (set slots place None) → HasHeld sums others placed
held_cleared sums before tasks others slots placed place e f is held =
    rw (e, f, ← free_clear before slots) (subst (λ (k : ℕ). HasHeld sums tasks (set slots k None)) is held)

-- what the tasks hold, after one was removed
pub held_without : (sums : SumsView) (before : Option ℕ) (tasks : List (Option TaskRow)) (slots : List (Option RunRow)) (place : ℕ)
    → place ≡ unwrap_or before (length tasks) → HasHeld sums (rows (set tasks place None)) slots → HasHeld sums (rows (clear_at before tasks)) slots
held_without sums before tasks slots place is held =
    rw (← free_clear before tasks) (subst (λ (k : ℕ). HasHeld sums (rows (set tasks k None)) slots) is held)
