-- The texts that stand for names in the command line of a run.
use Rattle.std.specs.Prelude.{ℕ, Bool, true, false, List, Some, codes}
use Rattle.std.specs.List.{join_by}
use Rattle.std.specs.Option.{option_map}
use Rattle.batch_model.specs.Variants.{State, TaskRow, RunRow}
use Rattle.wire_words.specs.Nodes.{node_id}
use Rattle.child_words.specs.declared.instances.Instance.{Instance}
use Rattle.child_words.specs.declared.names.Names.{Names}
use Rattle.child_words.specs.Instances.{multi_task, instances_of, is_first_on}

-- the ids of the nodes, separated by `;`
unfoldable pub node_list : List Instance → List ℕ
node_list instances = join_by (λ (one : Instance). node_id one.node) (codes ";") instances

-- `true` or `false`
unfoldable pub truth_text : Bool → List ℕ
truth_text true = codes "true"
truth_text false = codes "false"

-- the node list of the run's attempt of the task
abbrev pub list_for : State → RunRow → TaskRow → List ℕ
list_for s run task = node_list (instances_of s task run.attempt)

-- whether the run's node is the first of the run's attempt of the task
abbrev pub master_for : State → RunRow → TaskRow → List ℕ
master_for s run task = truth_text (is_first_on run.node (instances_of s task run.attempt))

-- pool and node always have a text, job and task if the run names them, and the node list and the master if the run is of a task
-- that runs on several nodes
abbrev pub names_of : State → RunRow → Names
names_of s run = record {
  pool = Some run.pool;
  node = Some (node_id run.node);
  job = run.job;
  task = run.task;
  node_list = option_map (list_for s run) (multi_task s run);
  is_master = option_map (master_for s run) (multi_task s run);
}
