-- Runs whose states move on and that stay what they are otherwise: tables with them are sound.
use Rattle.std.proofs.Common.{◌≡◌, ℕ, ◌≤◌, Bool, true, false, not, ◌&&◌, ◌||◌, nat_eq, nat_lt, nat_le, List, [], ◌∷◌, map, Option, Some, None, cond, is_some}
use Rattle.std.proofs.Common.{is_none, refl, ◌∙◌, arith}
use Rattle.std.specs.List.{list_any, list_all, find}
use Rattle.std.specs.Option.{option_and_then, option_map_or}
use Rattle.std.specs.Cmp.{IsEquivalence, nat_eq_equiv}
use Rattle.std.proofs.lemmas.Bool.Decides.{nat_tests}
use Rattle.std.proofs.lemmas.Grind.{common_steps}
use Rattle.bt_base.proofs.SameIds.{same_equiv}
use Rattle.bt_rows.specs.Lists.{AreDistinct}
use Rattle.bt_rows.specs.Keys.{same_run}
use Rattle.batch_model.specs.Finding.{Each, names}
use Rattle.batch_model.specs.Rows.{is_pool}
use Rattle.batch_model.specs.Runs.{is_unended, is_main, is_work, is_preparation, is_coordination, is_release, is_run_of_task, is_present, is_busy_for, ending_of}
use Rattle.batch_model.specs.Tasks.{is_placed, is_undisturbed, is_busy, main_ending}
use Rattle.batch_model.specs.Slots.{owns, held_slots, holds_on}
use Rattle.batch_model.specs.Sound.{IsConsistent, has_node_while_unended, belongs, can_be_settled, fits_nodes, names_no_task, has_node_row}
use Rattle.batch_model.specs.WellFormed.{has_named_job, has_named_task, are_one_attempt}
use Rattle.batch_model.specs.Variants.{State, PoolRow, NodeRow, TaskRow, RunRow, RunState}
use Rattle.model_lists.proofs.Tests.{and_first, and_second, or_first, or_second, or_false, or_false_first, or_false_second}
use Rattle.model_lists.proofs.RowLists.{each_head, each_tail, each_weaker}
use Rattle.model_lists.proofs.MappedRows.{each_map, distinct_map, sum_map}
use Rattle.model_tables.proofs.NotBuilt.{is_built, is_main_or_over, runs_of_tasks}

-- a run's state moves on: it doesn't begin again, it goes on or ends, and an ending stays
pub record Moves (old new : RunState) : Type 0 where
  pub unended : is_unended new ≡ true → is_unended old ≡ true
  pub ends : is_unended old ≡ true → (is_unended new || is_some (ending_of new)) ≡ true
  pub stays : is_some (ending_of old) ≡ true → is_some (ending_of new) ≡ true

-- a state moves to itself
pub moves_same : (state : RunState) → Moves state state
moves_same state = record { unended = λ h. h; ends = λ h. or_first (is_some (ending_of state)) h; stays = λ h. h }

-- a state that moves under a condition
pub moves_if : (b : Bool) (old new : RunState) → Moves old new → Moves old (cond b new old)
moves_if true old new h = h
moves_if false old new h = moves_same old

-- the run in a state, with the moments at which it was taken and ended
abbrev pub moved : (RunRow → RunState) → (RunRow → Option ℕ) → (RunRow → Option ℕ) → RunRow → RunRow
moved into taken_at ended_at run = record run { state = into run; taken = taken_at run; ended = ended_at run }

-- tests of the new state

-- a test that is asked for where the new state has not ended
unless_more : (a b c : Bool) → (a ≡ true → b ≡ true) → (not b || c) ≡ true → (not a || c) ≡ true
unless_more true b c h k = rw (h refl) at k
unless_more false b c h k = refl

-- the same under one condition more
unless_both : (k a b c : Bool) → (a ≡ true → b ≡ true) → (not (k && b) || c) ≡ true → (not (k && a) || c) ≡ true
unless_both true a b c h m = unless_more a b c h m
unless_both false a b c h m = refl

-- two tests that fail together also fail where the second follows from another
ended_not_both : (k a b : Bool) → (a ≡ true → b ≡ true) → not (k && b) ≡ true → not (k && a) ≡ true
ended_not_both true true b h m = rw (h refl) at m
ended_not_both true false b h m = refl
ended_not_both false a b h m = refl

-- slots

-- a test of slots that a smaller number passes too
at_most : (test : Bool) (less held slots : ℕ) → less ≤ held → (not test || nat_le held slots) ≡ true → (not test || nat_le less slots) ≡ true
at_most true less held slots h k = grind (arith, nat_tests)
at_most false less held slots h k = refl

-- of pools with a key
slots_of_pool : {P : Type 0} (key : P → Bool) (slots : P → ℕ) (less held : ℕ) → less ≤ held → (pools : List P)
    → Each (λ pool. not (key pool) || nat_le held (slots pool)) pools → Each (λ pool. not (key pool) || nat_le less (slots pool)) pools
slots_of_pool key slots less held fewer pools h =
    each_weaker (λ pool. not (key pool) || nat_le held (slots pool)) (λ pool. not (key pool) || nat_le less (slots pool))
    (λ pool k. at_most (key pool) less held (slots pool) fewer k) pools h

-- each node's pool has the slots that it holds, where each node holds no more
pub slots_suffice : (less held : ℕ → ℕ) (pools : List PoolRow) → ((node : ℕ) → less node ≤ held node) → (nodes : List NodeRow)
    → Each (λ node. list_all (λ pool. not (is_pool node.pool pool) || nat_le (held node.number) pool.slots) pools) nodes
    → Each (λ node. list_all (λ pool. not (is_pool node.pool pool) || nat_le (less node.number) pool.slots) pools) nodes
slots_suffice less held pools fewer nodes h =
    each_weaker (λ node. list_all (λ pool. not (is_pool node.pool pool) || nat_le (held node.number) pool.slots) pools)
    (λ node. list_all (λ pool. not (is_pool node.pool pool) || nat_le (less node.number) pool.slots) pools)
    (λ (node : NodeRow) k. slots_of_pool (is_pool node.pool) (λ (pool : PoolRow). pool.slots) (less node.number) (held node.number)
    (fewer node.number) pools k) nodes h

-- the main run of an attempt

-- two that are the same as a third
pub same_by_third : {K : Type 0} {E : K → K → Bool} (e : IsEquivalence E) (a b c : K) → E a c ≡ true → E b c ≡ true → E a b ≡ true
same_by_third e a b c h k = e.congr a c b h ∙ (e.symm c b ∙ k)

-- both name one id
pub both_name : (a b : Option (List ℕ)) (id : List ℕ) → names a id ≡ true → names b id ≡ true → option_map_or (names a) b false ≡ true
both_name None b id h k = cc
both_name (Some a) None id h k = cc
both_name (Some a) (Some b) id h k = same_by_third same_equiv a b id h k

-- main runs of a task's present attempt are of one attempt
one_attempt : (task : TaskRow) (run other : RunRow) → is_present task run ≡ true → is_main run.kind ≡ true → is_present task other ≡ true
    → is_main other.kind ≡ true → are_one_attempt run other ≡ true
one_attempt task run other h main k other_main =
    let of_task : is_run_of_task task.job task.id run ≡ true = and_first _ (nat_eq run.attempt task.attempt) h in
    let other_of_task : is_run_of_task task.job task.id other ≡ true = and_first _ (nat_eq other.attempt task.attempt) k in
    let attempt : nat_eq run.attempt other.attempt ≡ true =
    same_by_third nat_eq_equiv run.attempt other.attempt task.attempt (and_second (is_run_of_task task.job task.id run) _ h)
    (and_second (is_run_of_task task.job task.id other) _ k)
    in
    let jobs : option_map_or (names run.job) other.job false ≡ true =
    both_name run.job other.job task.job (and_first _ (names run.task task.id) of_task) (and_first _ (names other.task task.id) other_of_task)
    in
    let tasks : option_map_or (names run.task) other.task false ≡ true =
    both_name run.task other.task task.id (and_second (names run.job task.job) _ of_task) (and_second (names other.job task.job) _ other_of_task)
    in
    rw (main, other_main, attempt, jobs, tasks) refl

-- a run of a task's present attempt names a task
names_one : (name : Option (List ℕ)) (id : List ℕ) → names name id ≡ true → is_none name ≡ false
names_one None id h = cc
names_one (Some other) id h = refl

-- a run of a task's present attempt is a main run, or has ended
main_or_over : (task : TaskRow) (run : RunRow) → is_present task run ≡ true → is_main_or_over run ≡ true
    → (is_main run.kind || not (is_unended run.state)) ≡ true
main_or_over task run h k =
    let named : is_none run.task ≡ false =
    names_one run.task task.id (and_second (names run.job task.job) _ (and_first _ (nat_eq run.attempt task.attempt) h))
    in
    other_than (is_none run.task) (is_main run.kind || not (is_unended run.state)) named k
  where
    other_than : (a b : Bool) → a ≡ false → (a || b) ≡ true → b ≡ true
    other_than true b n m = cc
    other_than false b n m = m

-- such a run that has not ended is a main run
unended_main : (k u : Bool) → (k || not u) ≡ true → u ≡ true → k ≡ true
unended_main true u h e = refl
unended_main false u h e = rw e at h

-- beside the main run of a task's present attempt no other run is busy for it
none_busy : (task : TaskRow) (run : RunRow) (rest : List RunRow) → is_present task run ≡ true → is_main run.kind ≡ true
    → list_any (are_one_attempt run) rest ≡ false → Each is_main_or_over rest → list_any (is_busy_for task) rest ≡ false
none_busy task run [] h main alone built = refl
none_busy task run (other ∷ rest) h main alone built =
    or_false
    (not_busy (is_busy_for task other) refl)
    (none_busy task run rest h main (or_false_second (are_one_attempt run other) _ alone) (each_tail is_main_or_over other rest built))
  where
    not_busy : (b : Bool) → is_busy_for task other ≡ b → b ≡ false
    not_busy true busy =
        let other_main : is_main other.kind ≡ true =
        unended_main (is_main other.kind) (is_unended other.state)
        (main_or_over task other (and_first _ (is_unended other.state) busy) (each_head is_main_or_over other rest built))
        (and_second (is_present task other) _ busy)
        in
        let one : are_one_attempt run other ≡ true = one_attempt task run other h main (and_first _ (is_unended other.state) busy) other_main in
        let not_one : are_one_attempt run other ≡ false = or_false_first (are_one_attempt run other) (list_any (are_one_attempt run) rest) alone in
        cc
    not_busy false busy = refl

-- what a task is settled by

-- how the main run of the task's present attempt ended, among these runs
abbrev ends_among : TaskRow → List RunRow → Bool
ends_among task runs = is_some (option_and_then (λ (run : RunRow). ending_of run.state) (find (λ run. is_present task run && is_main run.kind) runs))

-- a run of its present attempt has not ended, or its main run has
abbrev busy_or_ends : TaskRow → List RunRow → Bool
busy_or_ends task runs = list_any (is_busy_for task) runs || ends_among task runs

-- the first run and the others, in tests: b whether it is of the present attempt, k whether it is a main run, u whether
-- it has not ended, e whether it has, and whether others are busy or end; before and after
keeps_on : (b k u u' e e' busy busy' ends ends' : Bool) → (b ≡ true → (k || not u) ≡ true) → (u' ≡ true → u ≡ true) → (u ≡ true → (u' || e') ≡ true)
    → (e ≡ true → e' ≡ true) → (b ≡ true → k ≡ true → busy ≡ false) → ((busy || ends) ≡ true → (busy' || ends') ≡ true)
    → (((b && u) || busy) || cond (b && k) e ends) ≡ true → (((b && u') || busy') || cond (b && k) e' ends') ≡ true
keeps_on false k u u' e e' busy busy' ends ends' built back on stay alone ih h = ih h
keeps_on true false true u' e e' busy busy' ends ends' built back on stay alone ih h = let n : false ≡ true = built refl in cc
keeps_on true false false true e e' busy busy' ends ends' built back on stay alone ih h = let n : false ≡ true = back refl in cc
keeps_on true false false false e e' busy busy' ends ends' built back on stay alone ih h = ih h
keeps_on true true u true e e' busy busy' ends ends' built back on stay alone ih h = refl
keeps_on true true true false e e' busy busy' ends ends' built back on stay alone ih h = or_second busy' (on refl)
keeps_on true true false false e e' busy busy' ends ends' built back on stay alone ih h =
    let none : busy ≡ false = alone refl refl in or_second busy' (stay (rw none at h))

-- how the first run ended, or else one of the others
ends_of_first : (c : Bool) (run : RunRow) (o : Option RunRow)
    → is_some (option_and_then (λ (r : RunRow). ending_of r.state) (cond c (Some run) o)) ≡ cond c (is_some (ending_of run.state))
    (is_some (option_and_then (λ (r : RunRow). ending_of r.state) o))
ends_of_first true run o = refl
ends_of_first false run o = refl

module _ (into : RunRow → RunState) (taken_at ended_at : RunRow → Option ℕ) (moves : (run : RunRow) → Moves run.state (into run)) where
  -- a task that a run keeps busy, or whose main run has ended, is such again
  busy_or_ends_after : (task : TaskRow) (runs : List RunRow) → AreDistinct are_one_attempt runs → Each is_main_or_over runs → busy_or_ends task runs ≡ true
      → busy_or_ends task (map (moved into taken_at ended_at) runs) ≡ true
  busy_or_ends_after task [] distinct built h = h
  busy_or_ends_after task (run ∷ rest) distinct built h =
      let m : Moves run.state (into run) = moves run in
      rw (ends_of_first (is_present task run && is_main run.kind) (moved into taken_at ended_at run)
      (find (λ r. is_present task r && is_main r.kind) (map (moved into taken_at ended_at) rest)))
      (keeps_on (is_present task run) (is_main run.kind) (is_unended run.state) (is_unended (into run)) (is_some (ending_of run.state))
      (is_some (ending_of (into run)))
      (list_any (is_busy_for task) rest) (list_any (is_busy_for task) (map (moved into taken_at ended_at) rest))
      (ends_among task rest) (ends_among task (map (moved into taken_at ended_at) rest))
      (λ b. main_or_over task run b (each_head is_main_or_over run rest built)) m.unended m.ends m.stays
      (λ b k. none_busy task run rest b k distinct.0 (each_tail is_main_or_over run rest built))
      (busy_or_ends_after task rest distinct.1 (each_tail is_main_or_over run rest built))
      (rw (ends_of_first (is_present task run && is_main run.kind) run (find (λ r. is_present task r && is_main r.kind) rest)) at h))

  -- beside what fails
  or_none : (a : Bool) → (a || false) ≡ a
  or_none true = refl
  or_none false = refl

  -- the tests of a task that can be settled: p whether it is placed, d whether it is disturbed
  settled_after : (p d busy busy' ends ends' : Bool) → ((busy || ends) ≡ true → (busy' || ends') ≡ true) → (not p || busy || d || ends) ≡ true
      → (not p || busy' || d || ends') ≡ true
  settled_after false d busy busy' ends ends' on h = refl
  settled_after true true busy busy' ends ends' on h = grind (arith, common_steps)
  settled_after true false true busy' ends ends' on h = rw or_none (on refl)
  settled_after true false false busy' ends ends' on h = rw or_none (on h)

  -- the tables after runs have moved
  abbrev after : State → State
  after s = record s { runs = map (moved into taken_at ended_at) s.runs }

  -- nodes hold the same slots
  slots_after : (s : State) (node : ℕ) → held_slots (after s) node ≡ held_slots s node
  slots_after s node = sum_map (moved into taken_at ended_at) (λ (run : RunRow). run.slots) (holds_on (after s) node) s.runs

  -- tables whose runs move on are sound
  pub consistent_moved : (seats : ℕ) (s : State) → IsConsistent seats s → IsConsistent seats (record s { runs = map (moved into taken_at ended_at) s.runs })
  consistent_moved seats s h = record {
    keys = record {
      pools = h.keys.pools;
      nodes = h.keys.nodes;
      jobs = h.keys.jobs;
      tasks = h.keys.tasks;
      runs = distinct_map g same_run same_run (λ run other e. e) s.runs h.keys.runs;
      preps = h.keys.preps;
      samples = h.keys.samples;
      scales = h.keys.scales;
    };
    numbers = record {
      begun = h.numbers.begun;
      runs = each_map g (λ (run : RunRow). nat_lt run.number s.next_run) (λ (run : RunRow). nat_lt run.number s.next_run) (λ run e. e) s.runs h.numbers.runs;
      nodes = h.numbers.nodes;
      nodes_of_runs =
          each_map g (λ (run : RunRow). nat_lt run.node s.next_node) (λ (run : RunRow). nat_lt run.node s.next_node)
          (λ run e. e) s.runs h.numbers.nodes_of_runs;
      order = h.numbers.order;
    };
    fitting = record { marks = h.fitting.marks; closing = h.fitting.closing; attempts = h.fitting.attempts };
    named = record {
      jobs_of_tasks = h.named.jobs_of_tasks;
      jobs_of_runs = each_map g (has_named_job s) (has_named_job (after s)) (λ run e. e) s.runs h.named.jobs_of_runs;
      tasks_of_runs = each_map g (has_named_task s) (has_named_task (after s)) (λ run e. e) s.runs h.named.tasks_of_runs;
      main_runs = distinct_map g are_one_attempt are_one_attempt (λ run other e. e) s.runs h.named.main_runs;
    };
    seated = record {
      distinct = h.seated.distinct;
      in_range = h.seated.in_range;
      few = h.seated.few;
      pools_of_nodes = h.seated.pools_of_nodes;
      nodes_of_runs =
          each_map g (has_node_while_unended s) (has_node_while_unended (after s))
          (λ run e. unless_more (is_unended (into run)) (is_unended run.state) (has_node_row s run.node) (ended run) e) s.runs h.seated.nodes_of_runs;
    };
    belonging =
        each_map g (belongs s) (belongs (after s))
        (λ run e. unless_both (is_work run.kind) (is_unended (into run)) (is_unended run.state) (list_any (owns run) s.tasks) (ended run) e) s.runs h.belonging;
    ending = each_weaker (can_be_settled s) (can_be_settled (after s))
        (λ task e. settled_after (is_placed task.stage) (not (is_undisturbed task)) (is_busy s task) (is_busy (after s) task) (is_some (main_ending s task))
        (is_some (main_ending (after s) task))
        (busy_or_ends_after task s.runs h.named.main_runs (runs_of_tasks seats s h)) e)
        s.tasks h.ending;
    naming = record {
      on_nodes = each_map g (fits_nodes s) (fits_nodes (after s)) (λ run e. e) s.runs h.naming.on_nodes;
      of_jobs =
          each_map g names_no_task names_no_task
          (λ run e. unless_both (is_preparation run.kind || is_release run.kind) (is_unended (into run)) (is_unended run.state) (is_none run.task)
          (ended run) e) s.runs h.naming.of_jobs;
    };
    slots = slots_suffice (held_slots (after s)) (held_slots s) s.pools (λ node. omega (arith, slots_after s node)) s.nodes h.slots;
    built = record {
      runs =
          each_map g is_built is_built
          (λ run e. ended_not_both (is_coordination run.kind) (is_unended (into run)) (is_unended run.state) (ended run) e) s.runs h.built.runs;
    };
  }
    where
      g : RunRow → RunRow
      g = moved into taken_at ended_at

      ended : (run : RunRow) → is_unended (into run) ≡ true → is_unended run.state ≡ true
      ended run = let m : Moves run.state (into run) = moves run in m.unended
