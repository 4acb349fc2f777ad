-- The operations of routes, and the events that they are (Azure Batch REST reference, in this project's profile).
use Rattle.std.specs.Prelude.{ℕ, List, [], ◌∷◌, Option, Some, None, Result, Ok, Err}
use Rattle.bt_base.specs.Fails.{◌>>=◌}
use Rattle.bt_rows.specs.declared.event.EventKind.{EventKind}
use Rattle.bt_rows.specs.declared.refusal.Refusal.{Refusal}
use Rattle.bt_rows.specs.declared.refusal.Refusal.TheVariants.{UnreadableBody}
use Rattle.http_routes.specs.declared.method.Method.{Method}
use Rattle.http_routes.specs.declared.method.Method.TheVariants.{Get, Post, Patch, Delete}
use Rattle.http_routes.specs.declared.route.Route.{Route}
use Rattle.http_routes.specs.declared.route.Route.TheVariants as routes
use Rattle.wire_operations.specs.declared.operation.Asked.{Asked}
use Rattle.wire_operations.specs.declared.operation.Asked.TheVariants as asks
use Rattle.wire_operations.specs.declared.operation.Operation.{Operation}
use Rattle.wire_operations.specs.declared.operation.Operation.TheVariants.{Service, Pool, Job, Task}
use Rattle.wire_operations.specs.declared.operation.ServiceOperation.TheVariants as services
use Rattle.wire_operations.specs.declared.operation.PoolOperation.TheVariants as pools
use Rattle.wire_operations.specs.declared.operation.JobOperation.TheVariants as jobs
use Rattle.wire_operations.specs.declared.operation.TaskOperation.TheVariants as tasks
use Rattle.wire_operations.specs.Operations.{event_of}
use Rattle.http_requests.specs.Paths.{first_id, job_and_task}

-- the operation of each route that has POST
abbrev pub post_operation : Route → Option Operation
post_operation routes.Pools = Some (Service services.AddPool)
post_operation routes.PoolResize = Some (Pool pools.Resize)
post_operation routes.PoolStopResize = Some (Pool pools.StopResize)
post_operation routes.PoolEnableAutoscale = Some (Pool pools.EnableAutoscale)
post_operation routes.PoolDisableAutoscale = Some (Pool pools.DisableAutoscale)
post_operation routes.PoolEvaluateAutoscale = Some (Pool pools.EvaluateAutoscale)
post_operation routes.Jobs = Some (Service services.AddJob)
post_operation routes.JobDisable = Some (Job jobs.Disable)
post_operation routes.JobEnable = Some (Job jobs.Enable)
post_operation routes.JobTerminate = Some (Job jobs.Terminate)
post_operation routes.JobAddTasks = Some (Job jobs.AddTasks)
post_operation routes.JobTasks = Some (Job jobs.AddTask)
post_operation routes.TaskTerminate = Some (Task tasks.Terminate)
post_operation routes.TaskReactivate = Some (Task tasks.Reactivate)
post_operation _ = None

-- the operation of the only route that has PATCH
abbrev pub patch_operation : Route → Option Operation
patch_operation routes.Job = Some (Job jobs.Patch)
patch_operation _ = None

-- the operation of each route that has DELETE
abbrev pub delete_operation : Route → Option Operation
delete_operation routes.Pool = Some (Pool pools.Delete)
delete_operation routes.Job = Some (Job jobs.Delete)
delete_operation routes.Task = Some (Task tasks.Delete)
delete_operation _ = None

-- the operation of a route and its method; GET is none
abbrev pub operation_of : Route → Method → Option Operation
operation_of route Get = None
operation_of route Post = post_operation route
operation_of route Patch = patch_operation route
operation_of route Delete = delete_operation route

-- an operation with the ids of the path
unfoldable pub asked_of : Operation → List ℕ → Result Asked Refusal
asked_of (Service operation) path = Ok (asks.Service operation)
asked_of (Pool operation) path = do
  pool ← first_id path
  Ok (asks.Pool operation pool)
asked_of (Job operation) path = do
  job ← first_id path
  Ok (asks.Job operation job)
asked_of (Task operation) path = do
  ids ← job_and_task path
  Ok (asks.Task operation ids.0 ids.1)

-- an empty body is none
abbrev pub stated_body : List ℕ → Option (List ℕ)
stated_body [] = None
stated_body (b ∷ body) = Some (b ∷ body)

-- the event of an operation, if there is one, with the ids of the path and the body
abbrev pub event_with : Option Operation → List ℕ → List ℕ → Result EventKind Refusal
event_with None path body = Err UnreadableBody
event_with (Some operation) path body = asked_of operation path >>= λ asked. event_of asked (stated_body body)

-- the event of a route and its method
unfoldable pub event_for : Route → Method → List ℕ → List ℕ → Result EventKind Refusal
event_for route method path body = event_with (operation_of route method) path body
