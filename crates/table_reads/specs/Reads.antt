-- What reads show of the tables.
use Rattle.std.specs.Prelude.{ℕ, List, map, filter, Option, Some, None}
use Rattle.std.specs.Option.{option_map}
use Rattle.bt_rows.specs.declared.refusal.Refusal.{Refusal}
use Rattle.bt_rows.specs.declared.refusal.Refusal.TheVariants.{PoolNotFound, JobNotFound, TaskNotFound}
use Rattle.bt_rows.specs.declared.reply.Item.{Item}
use Rattle.bt_rows.specs.declared.reply.Item.TheVariants as items
use Rattle.bt_rows.specs.declared.reply.Reply.{Reply}
use Rattle.bt_rows.specs.declared.reply.Reply.TheVariants as replies
use Rattle.batch_model.specs.Nodes.{is_in_pool}
use Rattle.batch_model.specs.Rows.{pool_of, job_of, task_of}
use Rattle.batch_model.specs.Tasks.{is_in_job}
use Rattle.batch_model.specs.Variants.{State, PoolRow, NodeRow, JobRow, TaskRow}
use Rattle.table_reads.specs.declared.request.Listing.{Listing}
use Rattle.table_reads.specs.declared.request.Read.{Read}
use Rattle.table_reads.specs.declared.request.Read.TheVariants as reads
use Rattle.table_reads.specs.Items.{pool_item, node_item, job_item, task_item, task_counts}
use Rattle.table_reads.specs.Pages.{page_of}

-- the item, or the refusal if there is none
abbrev pub one_or : Refusal → Option Item → Reply
one_or refusal None = replies.Refused refusal
one_or refusal (Some item) = replies.One item

-- the reply if the row is there, or else the refusal
abbrev pub if_there : {R : Type 0} → Refusal → Option R → Reply → Reply
if_there refusal None reply = replies.Refused refusal
if_there refusal (Some row) reply = reply

abbrev pub pool_shown : State → PoolRow → Item
pool_shown s pool = items.Pool (pool_item s pool)

abbrev pub node_shown : State → NodeRow → Item
node_shown s node = items.Node (node_item s node)

abbrev pub job_shown : State → JobRow → Item
job_shown s job = items.Job (job_item job)

abbrev pub task_shown : State → TaskRow → Item
task_shown s task = items.Task (task_item s task)

-- the items of lists, in order of adding

abbrev pub pools_shown : State → List Item
pools_shown s = map (pool_shown s) s.pools

abbrev pub nodes_shown : State → List ℕ → List Item
nodes_shown s pool = map (node_shown s) (filter (is_in_pool pool) s.nodes)

abbrev pub jobs_shown : State → List Item
jobs_shown s = map (job_shown s) s.jobs

abbrev pub tasks_shown : State → List ℕ → List Item
tasks_shown s job = map (task_shown s) (filter (is_in_job job) s.tasks)

-- the replies

abbrev pub get_pool : State → List ℕ → Reply
get_pool s pool = one_or PoolNotFound (option_map (pool_shown s) (pool_of s pool))

abbrev pub list_pools : State → Listing → Reply
list_pools s listing = page_of listing (pools_shown s)

abbrev pub list_nodes : State → List ℕ → Listing → Reply
list_nodes s pool listing = if_there PoolNotFound (pool_of s pool) (page_of listing (nodes_shown s pool))

abbrev pub get_job : State → List ℕ → Reply
get_job s job = one_or JobNotFound (option_map (job_shown s) (job_of s job))

abbrev pub list_jobs : State → Listing → Reply
list_jobs s listing = page_of listing (jobs_shown s)

abbrev pub get_task : State → List ℕ → List ℕ → Reply
get_task s job task = if_there JobNotFound (job_of s job) (one_or TaskNotFound (option_map (task_shown s) (task_of s job task)))

abbrev pub list_tasks : State → List ℕ → Listing → Reply
list_tasks s job listing = if_there JobNotFound (job_of s job) (page_of listing (tasks_shown s job))

abbrev pub counts_of : State → List ℕ → Reply
counts_of s job = if_there JobNotFound (job_of s job) (replies.One (items.Counts (task_counts s job)))

-- what a read shows
abbrev pub read_reply : State → Read → Reply
read_reply s (reads.GetPool pool) = get_pool s pool
read_reply s (reads.ListPools listing) = list_pools s listing
read_reply s (reads.ListNodes pool listing) = list_nodes s pool listing
read_reply s (reads.GetJob job) = get_job s job
read_reply s (reads.ListJobs listing) = list_jobs s listing
read_reply s (reads.GetTask job task) = get_task s job task
read_reply s (reads.ListTasks job listing) = list_tasks s job listing
read_reply s (reads.TaskCounts job) = counts_of s job
