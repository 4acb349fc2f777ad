use Rattle.std.proofs.Common.{◌≡◌, ◌+◌, drop}
use Rattle.batch_model.specs.Limits.{needs_limit}
use Rattle.batch_model.specs.WellFormed.{needs_length}
use Rattle.task_requests.proofs.task.are_long.Given as goal

-- what is left of the limit, beside the ids that are left
abbrev pub invariant-loop-need : goal.invariant-loop-need
invariant-loop-need l = needs_length (drop l.need-index l.needs) + needs_limit ≡ needs_length l.needs + l.left
