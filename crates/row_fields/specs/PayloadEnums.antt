-- Enums of which a variant has a value: that variant is an array of its name and the value, each other one its name.
use Rattle.std.proofs.Common.{[], ◌∷◌, Result, Ok, codes, arith}
use Rattle.serde_json.specs.Data.{Data}
use Rattle.bt_base.specs.Fails.{◌>>=◌}
use Rattle.variant_names.specs.PayloadNames.{ending_name, node_stage_name, run_state_name, how_name}
use Rattle.row_fields.specs.declared.fault.RowFault.{RowFault}
use Rattle.row_fields.specs.Fields.{IsPlain}
use Rattle.row_fields.specs.Plain.{deeper}
use Rattle.row_fields.specs.Scalars.{whole_data, i32_in, whole_plain}
use Rattle.row_fields.specs.Names.{named_data, named_in, named_plain, payload_data, payload_in, payload_plain, or_else}
use Rattle.variant_names.specs.UnitNames.{dealloc_name}
use Rattle.row_fields.specs.UnitEnums.{dealloc_data, dealloc_in}
use Rattle.bt_rows.specs.declared.run.Ending.{Ending}
use Rattle.bt_rows.specs.declared.run.Ending.TheVariants as endings
use Rattle.bt_rows.specs.declared.node.NodeStage.{NodeStage}
use Rattle.bt_rows.specs.declared.node.NodeStage.TheVariants as node_stages
use Rattle.bt_rows.specs.declared.run.RunState.{RunState}
use Rattle.bt_rows.specs.declared.run.RunState.TheVariants as run_states
use Rattle.bt_rows.specs.declared.task.How.{How}
use Rattle.bt_rows.specs.declared.task.How.TheVariants as hows

-- how a child program ended
unfoldable pub ending_data : Ending → Data
ending_data (endings.Code code) = payload_data whole_data (codes "Code") code
ending_data endings.NoCode = named_data ending_name endings.NoCode
ending_data endings.NotStarted = named_data ending_name endings.NotStarted

unfoldable pub ending_in : Data → Result Ending RowFault
ending_in d =
    or_else
    (payload_in i32_in (codes "Code") d >>= λ code. Ok (endings.Code code))
    (named_in ending_name (endings.NoCode ∷ endings.NotStarted ∷ []) d)

pub ending_plain : (x : Ending) → IsPlain 1 (ending_data x)
unfolding ending_data
ending_plain (endings.Code code) = payload_plain whole_data 0 whole_plain _ code
ending_plain endings.NoCode = deeper 1 (named_plain ending_name _) (omega arith)
ending_plain endings.NotStarted = deeper 1 (named_plain ending_name _) (omega arith)

-- how far a node has come
unfoldable pub node_stage_data : NodeStage → Data
node_stage_data node_stages.Starting = named_data node_stage_name node_stages.Starting
node_stage_data node_stages.Usable = named_data node_stage_name node_stages.Usable
node_stage_data node_stages.StartFailed = named_data node_stage_name node_stages.StartFailed
node_stage_data (node_stages.Leaving option) = payload_data dealloc_data (codes "Leaving") option

unfoldable pub node_stage_in : Data → Result NodeStage RowFault
node_stage_in d =
    or_else
    (payload_in dealloc_in (codes "Leaving") d >>= λ option. Ok (node_stages.Leaving option))
    (named_in node_stage_name (node_stages.Starting ∷ node_stages.Usable ∷ node_stages.StartFailed ∷ []) d)

pub node_stage_plain : (x : NodeStage) → IsPlain 1 (node_stage_data x)
unfolding node_stage_data
node_stage_plain node_stages.Starting = deeper 1 (named_plain node_stage_name _) (omega arith)
node_stage_plain node_stages.Usable = deeper 1 (named_plain node_stage_name _) (omega arith)
node_stage_plain node_stages.StartFailed = deeper 1 (named_plain node_stage_name _) (omega arith)
node_stage_plain (node_stages.Leaving option) = payload_plain dealloc_data 0 (named_plain dealloc_name) _ option

-- how far a run has come
unfoldable pub run_state_data : RunState → Data
run_state_data run_states.Waiting = named_data run_state_name run_states.Waiting
run_state_data run_states.Queued = named_data run_state_name run_states.Queued
run_state_data run_states.Taken = named_data run_state_name run_states.Taken
run_state_data (run_states.Ended ending) = payload_data ending_data (codes "Ended") ending
run_state_data run_states.Withdrawn = named_data run_state_name run_states.Withdrawn

unfoldable pub run_state_in : Data → Result RunState RowFault
run_state_in d =
    or_else
    (payload_in ending_in (codes "Ended") d >>= λ ending. Ok (run_states.Ended ending))
    (named_in run_state_name (run_states.Waiting ∷ run_states.Queued ∷ run_states.Taken ∷ run_states.Withdrawn ∷ []) d)

pub run_state_plain : (x : RunState) → IsPlain 2 (run_state_data x)
unfolding run_state_data
run_state_plain run_states.Waiting = deeper 2 (named_plain run_state_name _) (omega arith)
run_state_plain run_states.Queued = deeper 2 (named_plain run_state_name _) (omega arith)
run_state_plain run_states.Taken = deeper 2 (named_plain run_state_name _) (omega arith)
run_state_plain (run_states.Ended ending) = payload_plain ending_data 1 ending_plain _ ending
run_state_plain run_states.Withdrawn = deeper 2 (named_plain run_state_name _) (omega arith)

-- how a task was completed
unfoldable pub how_data : How → Data
how_data (hows.Ended ending) = payload_data ending_data (codes "Ended") ending
how_data hows.Terminated = named_data how_name hows.Terminated
how_data hows.Wall = named_data how_name hows.Wall

unfoldable pub how_in : Data → Result How RowFault
how_in d =
    or_else
    (payload_in ending_in (codes "Ended") d >>= λ ending. Ok (hows.Ended ending))
    (named_in how_name (hows.Terminated ∷ hows.Wall ∷ []) d)

pub how_plain : (x : How) → IsPlain 2 (how_data x)
unfolding how_data
how_plain (hows.Ended ending) = payload_plain ending_data 1 ending_plain _ ending
how_plain hows.Terminated = deeper 2 (named_plain how_name _) (omega arith)
how_plain hows.Wall = deeper 2 (named_plain how_name _) (omega arith)
