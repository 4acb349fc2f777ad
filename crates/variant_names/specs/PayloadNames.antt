-- The names of the variants of enums of which a variant has a value.
use Rattle.std.specs.Prelude.{ℕ, List, codes}
use Rattle.bt_rows.specs.declared.run.Ending.{Ending}
use Rattle.bt_rows.specs.declared.run.Ending.TheVariants as endings
use Rattle.bt_rows.specs.declared.node.NodeStage.{NodeStage}
use Rattle.bt_rows.specs.declared.node.NodeStage.TheVariants as node_stages
use Rattle.bt_rows.specs.declared.run.RunState.{RunState}
use Rattle.bt_rows.specs.declared.run.RunState.TheVariants as run_states
use Rattle.bt_rows.specs.declared.task.How.{How}
use Rattle.bt_rows.specs.declared.task.How.TheVariants as hows

-- how a child program ended
unfoldable pub ending_name : Ending → List ℕ
ending_name (endings.Code code) = codes "Code"
ending_name endings.NoCode = codes "NoCode"
ending_name endings.NotStarted = codes "NotStarted"

-- how far a node has come
unfoldable pub node_stage_name : NodeStage → List ℕ
node_stage_name node_stages.Starting = codes "Starting"
node_stage_name node_stages.Usable = codes "Usable"
node_stage_name node_stages.StartFailed = codes "StartFailed"
node_stage_name (node_stages.Leaving option) = codes "Leaving"

-- how far a run has come
unfoldable pub run_state_name : RunState → List ℕ
run_state_name run_states.Waiting = codes "Waiting"
run_state_name run_states.Queued = codes "Queued"
run_state_name run_states.Taken = codes "Taken"
run_state_name (run_states.Ended ending) = codes "Ended"
run_state_name run_states.Withdrawn = codes "Withdrawn"

-- how a task was completed
unfoldable pub how_name : How → List ℕ
how_name (hows.Ended ending) = codes "Ended"
how_name hows.Terminated = codes "Terminated"
how_name hows.Wall = codes "Wall"
