-- Tasks that fit, by the tables and by the ledger.
use Rattle.std.specs.Prelude.{◌≡◌, ℕ, Bool, ◌&&◌, not, List, Option, Some, is_some}
use Rattle.std.specs.Option.{option_and_then}
use Rattle.batch_model.specs.Finding.{only_if}
use Rattle.batch_model.specs.Rows.{pool_of}
use Rattle.std.specs.List.{find}
use Rattle.bt_rows.specs.Keys.{same_pool}
use Rattle.slot_ledger.specs.declared.ledger.Entry.{Entry}
use Rattle.slot_ledger.specs.Ledgers.{chosen}
use Rattle.batch_model.specs.Placing.{is_placeable, choice}
use Rattle.batch_model.specs.Readiness.{is_unblocked}
use Rattle.batch_model.specs.Variants.{State, PoolRow, JobRow, TaskRow}
use Rattle.task_index.specs.Active.{is_active_within}

-- the pool is the row with its id
abbrev pub IsPoolRow : State → PoolRow → Type 0
IsPoolRow s pool = find (λ row. same_pool row pool) s.pools ≡ Some pool

-- the job's pool, if it is not being deleted
abbrev pub open_pool : State → JobRow → Option PoolRow
open_pool s job = option_and_then (λ pool. only_if (not pool.deleting) (Some pool)) (pool_of s job.pool)

-- a ready task of the job for which a node is chosen
abbrev pub fits_in : State → JobRow → PoolRow → TaskRow → Bool
fits_in s job pool task = is_placeable s job task && is_some (choice s job pool task.slots)

-- the same by a ledger
abbrev pub fits_by : State → List Entry → JobRow → PoolRow → TaskRow → Bool
fits_by s entries job pool task = is_placeable s job task && is_some (chosen entries pool.id pool.fill task.slots)

-- a ready task of the job, without instances, that asks for at most the given number of slots
abbrev pub is_ready_within : State → List ℕ → ℕ → TaskRow → Bool
is_ready_within s job most task = is_active_within job most task && is_unblocked s task
