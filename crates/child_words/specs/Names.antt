-- The names in command lines that texts stand for (Azure Batch documentation: environment variables of tasks).
use Rattle.std.specs.Prelude.{ℕ, List, [], ◌∷◌, Option, codes}
use Rattle.child_words.specs.declared.names.Name.{Name}
use Rattle.child_words.specs.declared.names.Name.TheVariants.{PoolId, NodeId, JobId, TaskId, NodeList, IsMaster}
use Rattle.child_words.specs.declared.names.Names.{Names}

-- a name as it stands in command lines; none is a prefix of another
unfoldable pub name_text : Name → List ℕ
name_text PoolId = codes "$AZ_BATCH_POOL_ID"
name_text NodeId = codes "$AZ_BATCH_NODE_ID"
name_text JobId = codes "$AZ_BATCH_JOB_ID"
name_text TaskId = codes "$AZ_BATCH_TASK_ID"
name_text NodeList = codes "$AZ_BATCH_NODE_LIST"
name_text IsMaster = codes "$AZ_BATCH_IS_CURRENT_NODE_MASTER"

-- all names, in the order of their texts
abbrev pub all_names : List Name
all_names = PoolId ∷ NodeId ∷ JobId ∷ TaskId ∷ NodeList ∷ IsMaster ∷ []

-- the text that stands for a name, if there is one
abbrev pub text_of : Names → Name → Option (List ℕ)
text_of names PoolId = names.pool
text_of names NodeId = names.node
text_of names JobId = names.job
text_of names TaskId = names.task
text_of names NodeList = names.node_list
text_of names IsMaster = names.is_master
