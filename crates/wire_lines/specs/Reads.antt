-- The reads of lines.
use Rattle.std.specs.Prelude.{ℕ, List, [], ◌∷◌, Option, Some, None, Result, Ok, Err, codes}
use Rattle.std.specs.List.{find}
use Rattle.std.specs.Str.{bytes_eq}
use Rattle.bt_base.specs.Fails.{◌>>=◌}
use Rattle.bt_rows.specs.declared.refusal.Refusal.{Refusal}
use Rattle.bt_rows.specs.declared.refusal.Refusal.TheVariants.{UnreadableBody}
use Rattle.table_reads.specs.declared.request.Listing.{Listing}
use Rattle.table_reads.specs.declared.request.Read.{Read}
use Rattle.table_reads.specs.declared.request.Read.TheVariants as reads
use Rattle.table_reads.specs.declared.request.TheConstants.{MAX_RESULTS}
use Rattle.wire_lines.specs.declared.look.ReadWord.{ReadWord}
use Rattle.wire_lines.specs.declared.look.ReadWord.TheVariants as words
use Rattle.wire_lines.specs.Arguments.{lone_id, job_and_task}

-- the text of a word
unfoldable pub read_word_text : ReadWord → List ℕ
read_word_text words.GetPool = codes "get-pool"
read_word_text words.ListPools = codes "list-pools"
read_word_text words.ListNodes = codes "list-nodes"
read_word_text words.GetJob = codes "get-job"
read_word_text words.ListJobs = codes "list-jobs"
read_word_text words.GetTask = codes "get-task"
read_word_text words.ListTasks = codes "list-tasks"
read_word_text words.TaskCounts = codes "task-counts"

-- the words, each once
abbrev pub all_read_words : List ReadWord
all_read_words =
    words.GetPool ∷ words.ListPools ∷ words.ListNodes ∷ words.GetJob ∷ words.ListJobs ∷ words.GetTask ∷ words.ListTasks
    ∷ words.TaskCounts ∷ []

-- the word with this text
unfoldable pub read_word_in : List ℕ → Option ReadWord
read_word_in text = find (λ word. bytes_eq text (read_word_text word)) all_read_words

-- a list from its beginning, with the greatest number of items
abbrev pub whole_list : Listing
whole_list = record { count = MAX_RESULTS; after = None }

-- the read of a word without arguments
abbrev pub bare_read : ReadWord → Result Read Refusal
bare_read words.ListPools = Ok (reads.ListPools whole_list)
bare_read words.ListJobs = Ok (reads.ListJobs whole_list)
bare_read words.GetPool = Err UnreadableBody
bare_read words.ListNodes = Err UnreadableBody
bare_read words.GetJob = Err UnreadableBody
bare_read words.GetTask = Err UnreadableBody
bare_read words.ListTasks = Err UnreadableBody
bare_read words.TaskCounts = Err UnreadableBody

-- the read of a word with these arguments
unfoldable pub read_with_arguments : ReadWord → List ℕ → Result Read Refusal
read_with_arguments words.GetPool text = do
  pool ← lone_id text
  Ok (reads.GetPool pool)
read_with_arguments words.ListPools text = Err UnreadableBody
read_with_arguments words.ListNodes text = do
  pool ← lone_id text
  Ok (reads.ListNodes pool whole_list)
read_with_arguments words.GetJob text = do
  job ← lone_id text
  Ok (reads.GetJob job)
read_with_arguments words.ListJobs text = Err UnreadableBody
read_with_arguments words.GetTask text = do
  ids ← job_and_task text
  Ok (reads.GetTask ids.0 ids.1)
read_with_arguments words.ListTasks text = do
  job ← lone_id text
  Ok (reads.ListTasks job whole_list)
read_with_arguments words.TaskCounts text = do
  job ← lone_id text
  Ok (reads.TaskCounts job)

-- the read of a word and of the arguments after it, if a space follows it
abbrev pub read_with : ReadWord → Option (List ℕ) → Result Read Refusal
read_with word None = bare_read word
read_with word (Some text) = read_with_arguments word text
