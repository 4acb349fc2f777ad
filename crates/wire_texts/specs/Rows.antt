-- The lines of rows that depend on no other row.
use Rattle.std.specs.Prelude.{ℕ, List, [], ◌∷◌, codes}
use Rattle.std.specs.Fmt.{decimal, signed_decimal}
use Rattle.batch_model.specs.Variants.{PoolRow, JobRow, RunRow, PrepRow, ScaleRow}
use Rattle.wire_texts.specs.Lines.{line}
use Rattle.wire_words.specs.Words.{pool_state_word, alloc_word, fill_word, job_state_word, run_kind_word, run_state_word, run_ending_text, prep_state_word, release_state_word, text_or_dash}

-- pool ID STATE ALLOC DEDICATED LOW SLOTS FILL
unfoldable pub pool_line : PoolRow → List ℕ
pool_line pool = line (codes "pool" ∷ pool.id ∷ pool_state_word pool.deleting ∷ alloc_word pool.alloc ∷ decimal pool.dedicated ∷ decimal pool.low ∷ decimal pool.slots ∷ fill_word pool.fill ∷ [])

-- job ID POOL STATE PRIORITY REASON
unfoldable pub job_line : JobRow → List ℕ
job_line job = line (codes "job" ∷ job.id ∷ job.pool ∷ job_state_word job.state ∷ signed_decimal job.priority ∷ text_or_dash job.reason ∷ [])

-- run N KIND NODE JOB TASK STATE ENDING
unfoldable pub run_line : RunRow → List ℕ
run_line run = line (codes "run" ∷ decimal run.number ∷ run_kind_word run.kind ∷ decimal run.node ∷ text_or_dash run.job ∷ text_or_dash run.task ∷ run_state_word run.state ∷ run_ending_text run.state ∷ [])

-- prep JOB NODE STATE RELEASE
unfoldable pub prep_line : PrepRow → List ℕ
prep_line prep = line (codes "prep" ∷ prep.job ∷ decimal prep.node ∷ prep_state_word prep.state ∷ release_state_word prep.release ∷ [])

-- scale POOL INTERVAL NEXT
unfoldable pub scale_line : ScaleRow → List ℕ
scale_line scale = line (codes "scale" ∷ scale.pool ∷ decimal scale.interval ∷ decimal scale.next ∷ [])
