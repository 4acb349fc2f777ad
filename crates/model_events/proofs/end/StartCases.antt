-- What the ending of a start run does, in cases.
use Rattle.std.proofs.Common.{◌≡◌, ◌+◌, Bool, true, false, Option, Some, None, cond, refl}
use Rattle.batch_model.specs.Finding.{at_row, is_within_limit, has_number_left}
use Rattle.batch_model.specs.Rows.{node_of}
use Rattle.batch_model.specs.Endings.{is_success}
use Rattle.batch_model.specs.Starts.{is_tried_again, started_node, failed_node, change_node, start_again, start_failed, start_of, start_ended_at}
use Rattle.batch_model.specs.Starts.{start_ended_in, start_ended}
use Rattle.batch_model.specs.Variants.{State, NodeRow, NodeStage, Starting, Usable, StartFailed, Leaving, StartTask, Ending, RunRow}
use Rattle.model_lists.proofs.Tests.{and_second}

-- the tables after a start run has ended: nothing changes, its node has started, its start task is run again there, or it
-- has failed
pub data StartEnds (s : State) (run : RunRow) (ending : Ending) : State → Type 0 where
  nothing : StartEnds s run ending s
  starts : (node : NodeRow) → node_of s run.node ≡ Some node → is_success ending ≡ true → StartEnds s run ending (change_node node started_node s)
  again : (node : NodeRow) (start : StartTask) → node_of s run.node ≡ Some node → start_of s node ≡ Some start → is_success ending ≡ false
      → has_number_left s.next_run ≡ true → StartEnds s run ending (start_again node start s)
  fails : (node : NodeRow) (start : StartTask) → node_of s run.node ≡ Some node → start_of s node ≡ Some start → is_success ending ≡ false
      → StartEnds s run ending (change_node node failed_node s)

module _ (s : State) (run : RunRow) (ending : Ending) where
  -- a failure
  tries : (node : NodeRow) (start : StartTask) (b : Bool) → is_tried_again s (node.tries + 1) start ≡ b → node_of s run.node ≡ Some node
      → start_of s node ≡ Some start → is_success ending ≡ false → StartEnds s run ending (cond b (start_again node start s) (change_node node failed_node s))
  tries node start true left found there failed =
      again node start found there failed (and_second (is_within_limit (node.tries + 1) start.retries) (has_number_left s.next_run) left)
  tries node start false left found there failed = fails node start found there failed

  of_failure : (node : NodeRow) (start : Option StartTask) → start_of s node ≡ start → node_of s run.node ≡ Some node → is_success ending ≡ false
      → StartEnds s run ending (at_row (start_failed node) start s)
  of_failure node None there found failed = nothing
  of_failure node (Some start) there found failed = tries node start (is_tried_again s (node.tries + 1) start) refl found there failed

  -- on a node that is there
  of_ending : (node : NodeRow) (b : Bool) → is_success ending ≡ b → node_of s run.node ≡ Some node
      → StartEnds s run ending (cond b (change_node node started_node s) (at_row (start_failed node) (start_of s node) s))
  of_ending node true e found = starts node found e
  of_ending node false e found = of_failure node (start_of s node) refl found e

  at_node : (node : NodeRow) → node_of s run.node ≡ Some node → StartEnds s run ending (start_ended_at node ending s)
  at_node node = of_ending node (is_success ending) refl

  in_stage : (node : NodeRow) (stage : NodeStage) → node_of s run.node ≡ Some node → StartEnds s run ending (start_ended_in stage node ending s)
  in_stage node Starting = at_node node
  in_stage node Usable = at_node node
  in_stage node StartFailed = at_node node
  in_stage node (Leaving option) = λ found. nothing

  of_row : (node : Option NodeRow) → node_of s run.node ≡ node → StartEnds s run ending (at_row (λ node. start_ended_in node.stage node ending) node s)
  of_row None found = nothing
  of_row (Some node) found = in_stage node node.stage found

  -- one of the cases
  pub start_cases : StartEnds s run ending (start_ended run ending s)
  start_cases = of_row (node_of s run.node) refl
