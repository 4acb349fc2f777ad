-- The reads of routes.
use Rattle.std.specs.Prelude.{ℕ, List, Result, Ok, Err}
use Rattle.bt_base.specs.Fails.{◌>>=◌}
use Rattle.bt_rows.specs.declared.refusal.Refusal.{Refusal}
use Rattle.bt_rows.specs.declared.refusal.Refusal.TheVariants.{UnreadableBody}
use Rattle.table_reads.specs.declared.request.Read.{Read}
use Rattle.table_reads.specs.declared.request.Read.TheVariants as reads
use Rattle.http_routes.specs.declared.route.Route.{Route}
use Rattle.http_routes.specs.declared.route.Route.TheVariants.{Pools, Pool, PoolNodes, Jobs, Job, JobTasks, JobTaskCounts, Task}
use Rattle.http_requests.specs.Paths.{first_id, job_and_task}
use Rattle.http_requests.specs.Listings.{listing_of}

unfoldable pub list_pools : List ℕ → Result Read Refusal
list_pools query = do
  listing ← listing_of query
  Ok (reads.ListPools listing)

unfoldable pub get_pool : List ℕ → Result Read Refusal
get_pool path = do
  pool ← first_id path
  Ok (reads.GetPool pool)

unfoldable pub list_nodes : List ℕ → List ℕ → Result Read Refusal
list_nodes path query = do
  pool ← first_id path
  listing ← listing_of query
  Ok (reads.ListNodes pool listing)

unfoldable pub list_jobs : List ℕ → Result Read Refusal
list_jobs query = do
  listing ← listing_of query
  Ok (reads.ListJobs listing)

unfoldable pub get_job : List ℕ → Result Read Refusal
get_job path = do
  job ← first_id path
  Ok (reads.GetJob job)

unfoldable pub list_tasks : List ℕ → List ℕ → Result Read Refusal
list_tasks path query = do
  job ← first_id path
  listing ← listing_of query
  Ok (reads.ListTasks job listing)

unfoldable pub task_counts : List ℕ → Result Read Refusal
task_counts path = do
  job ← first_id path
  Ok (reads.TaskCounts job)

unfoldable pub get_task : List ℕ → Result Read Refusal
get_task path = do
  ids ← job_and_task path
  Ok (reads.GetTask ids.0 ids.1)

-- the read of each route that has GET
unfoldable pub read_for : Route → List ℕ → List ℕ → Result Read Refusal
read_for Pools path query = list_pools query
read_for Pool path query = get_pool path
read_for PoolNodes path query = list_nodes path query
read_for Jobs path query = list_jobs query
read_for Job path query = get_job path
read_for JobTasks path query = list_tasks path query
read_for JobTaskCounts path query = task_counts path
read_for Task path query = get_task path
read_for _ path query = Err UnreadableBody
