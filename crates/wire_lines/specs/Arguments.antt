-- The arguments of a line.
use Rattle.std.specs.Prelude.{ℕ, List, Option, Some, None, Result, Ok, Err, is_some, if◌then◌else◌}
use Rattle.std.specs.Result.{result_ok}
use Rattle.bt_base.specs.Fails.{◌>>=◌}
use Rattle.bt_base.specs.Utf8.{utf8_text}
use Rattle.bt_base.specs.Ids.{read_id}
use Rattle.bt_rows.specs.declared.member.Member.TheVariants as names
use Rattle.bt_rows.specs.declared.refusal.Refusal.{Refusal}
use Rattle.bt_rows.specs.declared.refusal.Refusal.TheVariants.{UnreadableBody}
use Rattle.wire_members.specs.Members.{or_invalid}
use Rattle.wire_operations.specs.declared.operation.BodyRule.{BodyRule}
use Rattle.wire_operations.specs.Operations.{allows}
use Rattle.wire_lines.specs.Parts.{just_two, one_part, first_word, arguments}

-- the value; if there is none, the line is not a valid request
abbrev pub or_unreadable : {A : Type 0} → Option A → Result A Refusal
or_unreadable (Some a) = Ok a
or_unreadable None = Err UnreadableBody

-- an id among a line's arguments
unfoldable pub id_argument : List ℕ → Result (List ℕ) Refusal
id_argument bytes = do
  text ← or_unreadable (utf8_text bytes)
  or_invalid names.Id (result_ok (read_id text))

-- an id that is the only argument of a line
unfoldable pub lone_id : List ℕ → Result (List ℕ) Refusal
lone_id text = do
  id ← or_unreadable (one_part text)
  id_argument id

-- an id, and the body after it if a space comes after the id
abbrev pub id_with : List ℕ → Option (List ℕ) → Result (List ℕ × Option (List ℕ)) Refusal
id_with text body = id_argument text >>= λ id. Ok (id, body)

-- the same, if a body may be there, or may be absent, by this rule
unfoldable pub id_and_body : BodyRule → List ℕ → Result (List ℕ × Option (List ℕ)) Refusal
id_and_body rule text =
    if allows rule (is_some (arguments text)) then id_with (first_word text) (arguments text)
    else Err UnreadableBody

-- the ids of a job and of a task of it, which are the only arguments of a line
unfoldable pub job_and_task : List ℕ → Result (List ℕ × List ℕ) Refusal
job_and_task text = do
  parts ← or_unreadable (just_two text)
  job ← id_argument parts.0
  task ← id_argument parts.1
  Ok (job, task)
