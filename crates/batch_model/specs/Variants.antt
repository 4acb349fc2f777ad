-- The rows' types and their variants, under names that differ from each other.
-- Source: this project's own.
pub use Rattle.bt_rows.specs.State.{State, empty_state}
pub use Rattle.bt_rows.specs.declared.pool.Alloc.{Alloc}
pub use Rattle.bt_rows.specs.declared.pool.Alloc.TheVariants.{Steady, Resizing, Stopping}
pub use Rattle.bt_rows.specs.declared.pool.Fill.{Fill}
pub use Rattle.bt_rows.specs.declared.pool.Fill.TheVariants.{Spread, Pack}
pub use Rattle.bt_base.specs.declared.dealloc_option.Dealloc.{Dealloc}
pub use Rattle.bt_base.specs.declared.dealloc_option.Dealloc.TheVariants.{Requeue as ByRequeue, Terminate as ByTerminate, TaskCompletion, RetainedData}
pub use Rattle.bt_rows.specs.declared.pool.ResizeError.{ResizeError}
pub use Rattle.bt_rows.specs.declared.pool.ResizeError.TheVariants.{AllocationTimedOut, ResizeStopped}
pub use Rattle.bt_rows.specs.declared.pool.StartTask.{StartTask}
pub use Rattle.bt_rows.specs.declared.pool.PoolRow.{PoolRow}
pub use Rattle.bt_rows.specs.declared.node.NodeStage.{NodeStage}
pub use Rattle.bt_rows.specs.declared.node.NodeStage.TheVariants.{Starting, Usable, StartFailed, Leaving}
pub use Rattle.bt_rows.specs.declared.node.NodeRow.{NodeRow}
pub use Rattle.bt_rows.specs.declared.reply.NodeState.{NodeState}
pub use Rattle.bt_rows.specs.declared.reply.NodeState.TheVariants.{Starting as StartingNode, WaitingForStartTask, StartTaskFailed, Idle, Running as RunningNode, LeavingPool}
pub use Rattle.bt_rows.specs.declared.job.JobState.{JobState}
pub use Rattle.bt_rows.specs.declared.job.JobState.TheVariants.{Active as JobActive, Disabling, Disabled, Enabling, Terminating, Completed as JobCompleted}
pub use Rattle.bt_rows.specs.declared.job.JobState.TheVariants.{Deleting}
pub use Rattle.bt_rows.specs.declared.job.ReleaseTask.{ReleaseTask}
pub use Rattle.bt_rows.specs.declared.job.JobRow.{JobRow}
pub use Rattle.bt_rows.specs.declared.task.JobAction.{JobAction}
pub use Rattle.bt_rows.specs.declared.task.JobAction.TheVariants.{Nothing as NoAction, Disable as ToDisable, Terminate as ToTerminate}
pub use Rattle.bt_rows.specs.declared.task.Given.{Given}
pub use Rattle.bt_rows.specs.declared.task.Options.{Options}
pub use Rattle.bt_rows.specs.declared.task.Multi.{Multi}
pub use Rattle.bt_rows.specs.declared.task.TaskStage.{TaskStage}
pub use Rattle.bt_rows.specs.declared.task.TaskStage.TheVariants.{Active, Placed, Completed}
pub use Rattle.bt_rows.specs.declared.task.Want.{Want}
pub use Rattle.bt_rows.specs.declared.task.Want.TheVariants.{Requeue as WantRequeue, Terminate as WantTerminate, Wall as WantWall, Delete as WantDelete}
pub use Rattle.bt_rows.specs.declared.task.How.{How}
pub use Rattle.bt_rows.specs.declared.task.How.TheVariants.{Ended as ByEnding, Terminated as ByTermination, Wall as ByWall}
pub use Rattle.bt_rows.specs.declared.task.Closed.{Closed}
pub use Rattle.bt_rows.specs.declared.task.TaskRow.{TaskRow}
pub use Rattle.bt_rows.specs.declared.reply.TaskState.{TaskState}
pub use Rattle.bt_rows.specs.declared.reply.TaskState.TheVariants.{Active as ActiveTask, Preparing, Running as RunningTask, Completed as CompletedTask}
pub use Rattle.bt_rows.specs.declared.run.Ending.{Ending}
pub use Rattle.bt_rows.specs.declared.run.Ending.TheVariants.{Code, NoCode, NotStarted}
pub use Rattle.bt_rows.specs.declared.run.RunKind.{RunKind}
pub use Rattle.bt_rows.specs.declared.run.RunKind.TheVariants.{Start as StartRun, Prep as PrepRun, Task as TaskRun, Coordination as CoordinationRun}
pub use Rattle.bt_rows.specs.declared.run.RunKind.TheVariants.{Release as ReleaseRun}
pub use Rattle.bt_rows.specs.declared.run.RunState.{RunState}
pub use Rattle.bt_rows.specs.declared.run.RunState.TheVariants.{Waiting, Queued, Taken, Ended, Withdrawn}
pub use Rattle.bt_rows.specs.declared.run.RunRow.{RunRow}
pub use Rattle.bt_rows.specs.declared.prep.PrepState.{PrepState}
pub use Rattle.bt_rows.specs.declared.prep.PrepState.TheVariants.{Running as PrepRunning, Completed as PrepCompleted, Failed as PrepFailed}
pub use Rattle.bt_rows.specs.declared.prep.ReleaseState.{ReleaseState}
pub use Rattle.bt_rows.specs.declared.prep.ReleaseState.TheVariants.{No as NoRelease, Running as ReleaseRunning, Done as ReleaseDone}
pub use Rattle.bt_rows.specs.declared.prep.PrepRow.{PrepRow}
pub use Rattle.bt_base.specs.declared.pool_metric.Metric.{Metric}
pub use Rattle.bt_base.specs.declared.pool_metric.Metric.TheVariants.{CpuPercent, ActiveTasks}
pub use Rattle.bt_rows.specs.declared.sample.SampleRow.{SampleRow}
pub use Rattle.bt_rows.specs.declared.scale.ScaleRow.{ScaleRow}
