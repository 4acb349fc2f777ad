-- The ids in a path, which are not percent-decoded.
use Rattle.std.specs.Prelude.{ℕ, List, Result, Ok, Err}
use Rattle.std.specs.Option.{option_and_then}
use Rattle.std.specs.Result.{result_ok}
use Rattle.bt_base.specs.Fails.{◌>>=◌}
use Rattle.bt_base.specs.Ids.{read_id}
use Rattle.bt_rows.specs.declared.member.Member.TheVariants as names
use Rattle.bt_rows.specs.declared.refusal.Refusal.{Refusal}
use Rattle.wire_members.specs.Members.{or_invalid}
use Rattle.http_routes.specs.Targets.{segment_at}

-- the id that is the segment of the path at this place
abbrev pub id_at : ℕ → List ℕ → Result (List ℕ) Refusal
id_at place path = or_invalid names.Id (option_and_then (λ text. result_ok (read_id text)) (segment_at place path))

-- the id in `/pools/{pool}..` or `/jobs/{job}..`
abbrev pub first_id : List ℕ → Result (List ℕ) Refusal
first_id path = id_at 2 path

-- the ids in `/jobs/{job}/tasks/{task}..`
unfoldable pub job_and_task : List ℕ → Result (List ℕ × List ℕ) Refusal
job_and_task path = do
  job ← first_id path
  task ← id_at 4 path
  Ok (job, task)
