-- The operations of the profile (Azure Batch REST reference): their names, which of them have a body, and the event that each is with
-- its ids and its body.
use Rattle.std.specs.Prelude.{ℕ, Bool, true, not, List, [], ◌∷◌, Option, Some, None, Result, Ok, Err, codes}
use Rattle.std.specs.List.{find}
use Rattle.std.specs.Str.{bytes_eq}
use Rattle.bt_base.specs.Fails.{◌>>=◌}
use Rattle.bt_rows.specs.declared.event.EventKind.{EventKind}
use Rattle.bt_rows.specs.declared.event.EventKind.TheVariants as events
use Rattle.bt_rows.specs.declared.refusal.Refusal.{Refusal}
use Rattle.bt_rows.specs.declared.refusal.Refusal.TheVariants.{UnreadableBody}
use Rattle.wire_bodies.specs.Pools.{pool_of}
use Rattle.wire_bodies.specs.Resizes.{resize_of}
use Rattle.wire_bodies.specs.Scalings.{enable_of, evaluate_of}
use Rattle.wire_bodies.specs.Jobs.{job_of}
use Rattle.wire_bodies.specs.JobChanges.{patch_of, disable_of, reason_of}
use Rattle.wire_bodies.specs.Tasks.{task_of}
use Rattle.wire_bodies.specs.Collections.{collection_of}
use Rattle.wire_operations.specs.declared.operation.BodyRule.{BodyRule}
use Rattle.wire_operations.specs.declared.operation.BodyRule.TheVariants.{Absent, Required, Optional}
use Rattle.wire_operations.specs.declared.operation.Operation.{Operation}
use Rattle.wire_operations.specs.declared.operation.Operation.TheVariants.{Service, Pool, Job, Task}
use Rattle.wire_operations.specs.declared.operation.ServiceOperation.TheVariants as services
use Rattle.wire_operations.specs.declared.operation.PoolOperation.{PoolOperation}
use Rattle.wire_operations.specs.declared.operation.PoolOperation.TheVariants as pools
use Rattle.wire_operations.specs.declared.operation.JobOperation.{JobOperation}
use Rattle.wire_operations.specs.declared.operation.JobOperation.TheVariants as jobs
use Rattle.wire_operations.specs.declared.operation.TaskOperation.TheVariants as tasks
use Rattle.wire_operations.specs.declared.operation.Asked.{Asked}
use Rattle.wire_operations.specs.declared.operation.Asked.TheVariants as asks

-- the name of an operation (this project's own)
unfoldable pub operation_name : Operation → List ℕ
operation_name (Service services.AddPool) = codes "add-pool"
operation_name (Service services.AddJob) = codes "add-job"
operation_name (Pool pools.Delete) = codes "delete-pool"
operation_name (Pool pools.Resize) = codes "resize"
operation_name (Pool pools.StopResize) = codes "stop-resize"
operation_name (Pool pools.EnableAutoscale) = codes "enable-autoscale"
operation_name (Pool pools.DisableAutoscale) = codes "disable-autoscale"
operation_name (Pool pools.EvaluateAutoscale) = codes "evaluate-autoscale"
operation_name (Job jobs.Patch) = codes "patch-job"
operation_name (Job jobs.Disable) = codes "disable-job"
operation_name (Job jobs.Enable) = codes "enable-job"
operation_name (Job jobs.Terminate) = codes "terminate-job"
operation_name (Job jobs.Delete) = codes "delete-job"
operation_name (Job jobs.AddTask) = codes "add-task"
operation_name (Job jobs.AddTasks) = codes "add-tasks"
operation_name (Task tasks.Delete) = codes "delete-task"
operation_name (Task tasks.Terminate) = codes "terminate-task"
operation_name (Task tasks.Reactivate) = codes "reactivate-task"

-- the operations, each once
abbrev pub all_operations : List Operation
all_operations =
    Service services.AddPool ∷ Service services.AddJob ∷ Pool pools.Delete ∷ Pool pools.Resize ∷ Pool pools.StopResize
    ∷ Pool pools.EnableAutoscale ∷ Pool pools.DisableAutoscale ∷ Pool pools.EvaluateAutoscale ∷ Job jobs.Patch ∷ Job jobs.Disable ∷ Job jobs.Enable ∷ Job jobs.Terminate ∷ Job jobs.Delete ∷ Job jobs.AddTask ∷ Job jobs.AddTasks
    ∷ Task tasks.Delete ∷ Task tasks.Terminate ∷ Task tasks.Reactivate ∷ []

-- the operation with this name
unfoldable pub operation_in : List ℕ → Option Operation
operation_in text = find (λ operation. bytes_eq text (operation_name operation)) all_operations

-- whether an operation of a pool has a body
abbrev pub pool_body : PoolOperation → BodyRule
pool_body pools.Delete = Absent
pool_body pools.Resize = Required
pool_body pools.StopResize = Absent
pool_body pools.EnableAutoscale = Required
pool_body pools.DisableAutoscale = Absent
pool_body pools.EvaluateAutoscale = Required

-- whether an operation of a job has a body
abbrev pub job_body : JobOperation → BodyRule
job_body jobs.Patch = Required
job_body jobs.Disable = Required
job_body jobs.Enable = Absent
job_body jobs.Terminate = Optional
job_body jobs.Delete = Absent
job_body jobs.AddTask = Required
job_body jobs.AddTasks = Required

-- whether an operation with this rule may be asked with a body, or without
abbrev pub allows : BodyRule → Bool → Bool
allows Absent is_there = not is_there
allows Required is_there = is_there
allows Optional is_there = true

-- the bytes of a body that has to be there
abbrev pub required_body : Option (List ℕ) → Result (List ℕ) Refusal
required_body None = Err UnreadableBody
required_body (Some bytes) = Ok bytes

-- the reason that a body states; without a body there is none
abbrev pub reason_if : Option (List ℕ) → Result (Option (List ℕ)) Refusal
reason_if None = Ok None
reason_if (Some bytes) = reason_of bytes

-- the event of an operation with its ids and its body
unfoldable pub event_of : Asked → Option (List ℕ) → Result EventKind Refusal
event_of (asks.Service services.AddPool) body = do
  bytes ← required_body body
  pool ← pool_of bytes
  Ok (events.AddPool pool)
event_of (asks.Service services.AddJob) body = do
  bytes ← required_body body
  job ← job_of bytes
  Ok (events.AddJob job.0 job.1)
event_of (asks.Pool pools.Delete pool) body = Ok (events.DeletePool pool)
event_of (asks.Pool pools.Resize pool) body = do
  bytes ← required_body body
  resize ← resize_of bytes
  Ok (events.Resize pool resize)
event_of (asks.Pool pools.StopResize pool) body = Ok (events.StopResize pool)
event_of (asks.Pool pools.EnableAutoscale pool) body = do
  bytes ← required_body body
  scaling ← enable_of bytes
  Ok (events.EnableAutoscale pool scaling)
event_of (asks.Pool pools.DisableAutoscale pool) body = Ok (events.DisableAutoscale pool)
event_of (asks.Pool pools.EvaluateAutoscale pool) body = do
  bytes ← required_body body
  formula ← evaluate_of bytes
  Ok (events.EvaluateAutoscale pool formula)
event_of (asks.Job jobs.Patch job) body = do
  bytes ← required_body body
  patch ← patch_of bytes
  Ok (events.PatchJob job patch)
event_of (asks.Job jobs.Disable job) body = do
  bytes ← required_body body
  option ← disable_of bytes
  Ok (events.DisableJob job option)
event_of (asks.Job jobs.Enable job) body = Ok (events.EnableJob job)
event_of (asks.Job jobs.Terminate job) body = do
  reason ← reason_if body
  Ok (events.TerminateJob job reason)
event_of (asks.Job jobs.Delete job) body = Ok (events.DeleteJob job)
event_of (asks.Job jobs.AddTask job) body = do
  bytes ← required_body body
  task ← task_of bytes
  Ok (events.AddTask job task)
event_of (asks.Job jobs.AddTasks job) body = do
  bytes ← required_body body
  tasks ← collection_of bytes
  Ok (events.AddTasks job tasks)
event_of (asks.Task tasks.Delete job task) body = Ok (events.DeleteTask job task)
event_of (asks.Task tasks.Terminate job task) body = Ok (events.TerminateTask job task)
event_of (asks.Task tasks.Reactivate job task) body = Ok (events.ReactivateTask job task)
