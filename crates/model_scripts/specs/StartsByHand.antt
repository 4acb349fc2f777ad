-- Endings of start runs in tables that no script reaches yet, and the last numbers.
use Rattle.std.specs.Prelude.{ℕ, ◌+◌, List, [], ◌∷◌, map, Option, Some, ℤ, pos, negsuc, codes, true}
use Rattle.bt_rows.specs.declared.event.EventKind.TheVariants.{AddPool, Take, End}
use Rattle.bt_rows.specs.declared.due.Due.{Due}
use Rattle.bt_rows.specs.declared.due.Due.TheVariants.{NodeAdded}
use Rattle.batch_model.specs.Variants.{State, empty_state, ByRequeue, NodeStage, Starting, Usable, StartFailed, Leaving, NodeRow, Ending, Code}
use Rattle.batch_model.specs.Events.{event_step}
use Rattle.model_scripts.specs.Scripts.{at, state_after}
use Rattle.model_scripts.specs.ByHand.{after_events, due_of, with_nodes_in, with_numbers, greatest}
use Rattle.model_scripts.specs.StartScripts.{start_pool}

-- the start task of a pool's one node is taken, with so many retries
abbrev pub taken_start : ℤ → State
taken_start again = state_after (at 0 (AddPool (start_pool 1 again true)) ∷ at 1 (Take 1) ∷ [])

-- the nodes' stages and failures, and the next run number
pub record Left : Type 0 where
  pub nodes : List (NodeStage × ℕ)
  pub next : ℕ

-- what the ending of run 1 leaves
abbrev pub left_by : Ending → State → Left
left_by ending s =
    let after = (event_step s.moment (End 1 ending) s).state in
    record { nodes = map (λ (node : NodeRow). (node.stage, node.tries)) after.nodes; next = after.next_run }

-- one node in this stage, with so many failures
abbrev pub left : NodeStage → ℕ → ℕ → Left
left one failed number = record { nodes = (one, failed) ∷ []; next = number }

-- the stages of a node
abbrev pub stages : List NodeStage
stages = Starting ∷ Usable ∷ StartFailed ∷ Leaving ByRequeue ∷ []

-- what an ending leaves of a node in each stage
abbrev pub left_by_stage : Ending → ℤ → List Left
left_by_stage ending again = map (λ one. left_by ending (with_nodes_in one (taken_start again))) stages

abbrev pub all_by_success : List Left
all_by_success = left Usable 0 2 ∷ left Usable 0 2 ∷ left StartFailed 0 2 ∷ left (Leaving ByRequeue) 0 2 ∷ []

abbrev pub all_by_failure : List Left
all_by_failure = left Starting 1 3 ∷ left Usable 1 3 ∷ left StartFailed 1 3 ∷ left (Leaving ByRequeue) 0 2 ∷ []

abbrev pub all_by_last_failure : List Left
all_by_last_failure = left StartFailed 1 2 ∷ left Usable 1 2 ∷ left StartFailed 1 2 ∷ left (Leaving ByRequeue) 0 2 ∷ []

-- after so many failures
abbrev pub with_tries : ℕ → State → State
with_tries failed s = record s { nodes = map (λ (node : NodeRow). record node { tries = failed }) s.nodes }

-- three retries, and another failure after two, after three, and after four
abbrev pub left_by_tries : List Left
left_by_tries = map (λ failed. left_by (Code (pos 1)) (with_tries failed (taken_start (pos 3)))) (2 ∷ 3 ∷ 4 ∷ [])

abbrev pub all_by_tries : List Left
all_by_tries = left Starting 3 3 ∷ left StartFailed 4 2 ∷ left StartFailed 5 2 ∷ []

-- the last run number is given, and then a start task is not run again
abbrev pub left_at_last_run : Left
left_at_last_run = left_by (Code (pos 1)) (with_numbers 2 greatest (taken_start (negsuc 0)))

abbrev pub started_at_last_run : Left
started_at_last_run = left Starting 1 (greatest + 1)

abbrev pub left_past_last_run : Left
left_past_last_run = left_by (Code (pos 1)) (with_numbers 2 (greatest + 1) (taken_start (negsuc 0)))

abbrev pub failed_past_last_run : Left
failed_past_last_run = left StartFailed 1 (greatest + 1)

-- a pool with a start task that lacks a node
abbrev pub lacking_start : State
lacking_start = after_events (AddPool (start_pool 1 (pos 0) true) ∷ []) empty_state

abbrev pub due_at_last_run : Option Due
due_at_last_run = due_of (with_numbers 1 greatest lacking_start)

abbrev pub first_node_due : Option Due
first_node_due = Some (NodeAdded (codes "p") 1 1)

abbrev pub due_past_last_run : Option Due
due_past_last_run = due_of (with_numbers 1 (greatest + 1) lacking_start)
