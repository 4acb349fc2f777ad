-- The body of `add-job`.
use Rattle.std.specs.Prelude.{ℕ, List, Option, Some, None, Result, Ok, pos, negsuc, false, is_some, unwrap_or}
use Rattle.serde_json.specs.Data.{Data}
use Rattle.bt_base.specs.Fails.{◌>>=◌}
use Rattle.bt_rows.specs.declared.member.Member.TheVariants as names
use Rattle.bt_rows.specs.declared.event.JobSpec.{JobSpec}
use Rattle.bt_rows.specs.declared.event.Limits.{Limits}
use Rattle.bt_rows.specs.declared.refusal.Refusal.{Refusal}
use Rattle.wire_members.specs.Body.{object_of}
use Rattle.wire_members.specs.Members.{id_member, flag_member, object_member}
use Rattle.wire_bodies.specs.JobMembers.{priority_if, parallel_if, limits_if, on_all_if, on_fail_if}
use Rattle.wire_bodies.specs.JobTasks.{preparation_if, release_if}

-- no wall time and no retries, if there are no limits
abbrev pub limits_or_none : Option Limits → Limits
limits_or_none limits = unwrap_or limits (record { retries = pos 0; wall = None })

-- the members in this order: a job that by default has priority 0, no limits, no retries and no actions
unfoldable pub job_spec_in : Data → Result JobSpec Refusal
job_spec_in d = do
  priority ← priority_if d
  parallel ← parallel_if d
  limits ← limits_if d
  deps ← flag_member (Some d) names.UsesTaskDependencies false
  on_all ← on_all_if d
  on_fail ← on_fail_if d
  prep ← preparation_if d
  release ← release_if (is_some prep) d
  place ← object_member (Some d) names.PoolInfo
  pool ← id_member place names.PoolId
  Ok (record { pool = pool; priority = unwrap_or priority (pos 0); parallel = unwrap_or parallel (negsuc 0); retries = (limits_or_none limits).retries; wall = (limits_or_none limits).wall; deps = deps; on_all = unwrap_or on_all false; on_fail = unwrap_or on_fail false; prep = prep; release = release })

-- the job's id, and the job
unfoldable pub job_in : Data → Result (List ℕ × JobSpec) Refusal
job_in d = do
  id ← id_member (Some d) names.Id
  spec ← job_spec_in d
  Ok (id, spec)

-- the job that the bytes of a body are, and its id
unfoldable pub job_of : List ℕ → Result (List ℕ × JobSpec) Refusal
job_of bytes = do
  d ← object_of bytes
  job_in d
