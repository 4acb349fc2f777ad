-- What a line of a script is.
use Rattle.std.specs.Prelude.{ℕ, Bool, true, List, [], ◌∷◌, length, Option, Some, None, option_map, Result, Ok, Err, nat_lt, ◌==◌, codes, if◌then◌else◌}
use Rattle.std.specs.Str.{bytes_eq}
use Rattle.bt_base.specs.Fails.{◌>>=◌}
use Rattle.bt_rows.specs.declared.event.EventKind.{EventKind}
use Rattle.bt_rows.specs.declared.event.EventKind.TheVariants as events
use Rattle.bt_rows.specs.declared.refusal.Refusal.{Refusal}
use Rattle.bt_rows.specs.declared.refusal.Refusal.TheVariants.{UnreadableBody}
use Rattle.wire_lines.specs.declared.line.TheConstants.{LINE_LIMIT}
use Rattle.wire_lines.specs.declared.line.LineRequest.{LineRequest}
use Rattle.wire_lines.specs.declared.line.LineRequest.TheVariants.{Skip, Call, Look}
use Rattle.wire_lines.specs.declared.line.LineWord.{LineWord}
use Rattle.wire_lines.specs.declared.line.LineWord.TheVariants as words
use Rattle.wire_lines.specs.declared.look.ReadWord.{ReadWord}
use Rattle.wire_lines.specs.Parts.{two_parts, just_two, first_word, arguments}
use Rattle.wire_lines.specs.Reads.{read_word_in, read_with}
use Rattle.wire_lines.specs.Endings.{moment_in, ending_in}
use Rattle.wire_lines.specs.Arguments.{or_unreadable, id_and_body, job_and_task}
use Rattle.wire_lines.specs.Samples.{pool_and_percentage}
use Rattle.bt_base.specs.Digits.{number_in}
use Rattle.wire_operations.specs.declared.operation.Asked.TheVariants as asks
use Rattle.wire_operations.specs.declared.operation.Operation.{Operation}
use Rattle.wire_operations.specs.declared.operation.Operation.TheVariants.{Service, Pool, Job, Task}
use Rattle.wire_operations.specs.Operations.{operation_in, pool_body, job_body, event_of}

-- the word with this text: `take`, `end`, `sample` or the name of an operation
unfoldable pub word_in : List ℕ → Option LineWord
word_in text =
    if bytes_eq text (codes "take") then Some words.Take
    else if bytes_eq text (codes "end") then Some words.End
    else if bytes_eq text (codes "sample") then Some words.Sample
    else option_map (λ operation. words.Operation operation) (operation_in text)

-- the event of an operation and the text after its name
unfoldable pub operation_with : Operation → List ℕ → Result EventKind Refusal
operation_with (Service operation) text = event_of (asks.Service operation) (Some text)
operation_with (Pool operation) text = do
  parts ← id_and_body (pool_body operation) text
  event_of (asks.Pool operation parts.0) parts.1
operation_with (Job operation) text = do
  parts ← id_and_body (job_body operation) text
  event_of (asks.Job operation parts.0) parts.1
operation_with (Task operation) text = do
  ids ← job_and_task text
  event_of (asks.Task operation ids.0 ids.1) None

-- the event of a word and the text after it
unfoldable pub event_with : LineWord → List ℕ → Result EventKind Refusal
event_with (words.Operation operation) text = operation_with operation text
event_with words.Take text = do
  run ← or_unreadable (number_in text)
  Ok (events.Take run)
event_with words.End text = do
  parts ← or_unreadable (just_two text)
  run ← or_unreadable (number_in parts.0)
  ending ← or_unreadable (ending_in parts.1)
  Ok (events.End run ending)
event_with words.Sample text = do
  parts ← pool_and_percentage text
  Ok (events.Sample parts.0 parts.1)

-- a word, a space and its arguments
unfoldable pub event_with_arguments : List ℕ → Result EventKind Refusal
event_with_arguments text = do
  parts ← or_unreadable (two_parts text)
  word ← or_unreadable (word_in parts.0)
  event_with word parts.1

-- a word and its arguments; `tick` takes none
unfoldable pub event_in : List ℕ → Result EventKind Refusal
event_in text = if bytes_eq text (codes "tick") then Ok events.Tick else event_with_arguments text

-- an event at a moment
abbrev pub call_at : ℕ → List ℕ → Result LineRequest Refusal
call_at moment text = event_in text >>= λ event. Ok (Call moment event)

-- a read, which uses no moment
abbrev pub look_by : ReadWord → Option (List ℕ) → Result LineRequest Refusal
look_by word text = read_with word text >>= λ read. Ok (Look read)

-- a read if there is a word of one, and else an event
abbrev pub look_or_call : Option ReadWord → ℕ → List ℕ → Result LineRequest Refusal
look_or_call (Some word) moment text = look_by word (arguments text)
look_or_call None moment text = call_at moment text

-- a read, or an event at a moment
unfoldable pub request_at : ℕ → List ℕ → Result LineRequest Refusal
request_at moment text = look_or_call (read_word_in (first_word text)) moment text

-- a moment, a space, and a read or an event
unfoldable pub request_in : List ℕ → Result LineRequest Refusal
request_in text = do
  parts ← or_unreadable (two_parts text)
  moment ← or_unreadable (moment_in parts.0)
  request_at moment parts.1

-- an empty line, or one that begins with `#`
abbrev pub is_skipped : List ℕ → Bool
is_skipped [] = true
is_skipped (b ∷ line) = b == 35

-- a line that is not skipped has at most 1,048,576 bytes
unfoldable pub line_of : List ℕ → Result LineRequest Refusal
line_of line =
    if is_skipped line then Ok Skip
    else if nat_lt LINE_LIMIT (length line) then Err UnreadableBody
    else request_in line
