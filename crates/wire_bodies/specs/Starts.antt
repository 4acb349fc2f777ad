-- Start tasks in the body of `add-pool`.
use Rattle.std.specs.Prelude.{Option, Some, None, Result, Ok, pos, negsuc, true}
use Rattle.serde_json.specs.Data.{Data}
use Rattle.bt_base.specs.Fails.{◌>>=◌}
use Rattle.bt_rows.specs.declared.limits.TheConstants.{RETRY_LIMIT}
use Rattle.bt_rows.specs.declared.member.Member.TheVariants as names
use Rattle.bt_rows.specs.declared.pool.StartTask.{StartTask}
use Rattle.bt_rows.specs.declared.refusal.Refusal.{Refusal}
use Rattle.wire_members.specs.Members.{command_member, signed_member, flag_member}

-- the members in this order: by default it is not run again, and tasks wait for it
unfoldable pub start_in : Data → Result StartTask Refusal
start_in d = do
  line ← command_member (Some d) names.CommandLine
  retries ← signed_member (Some d) names.MaxTaskRetryCount (negsuc 0) RETRY_LIMIT (pos 0)
  wait ← flag_member (Some d) names.WaitForSuccess true
  Ok (record { line = line; retries = retries; wait = wait })

-- a start task, if its object is there
unfoldable pub start_if : Option Data → Result (Option StartTask) Refusal
start_if None = Ok None
start_if (Some d) = do
  start ← start_in d
  Ok (Some start)
