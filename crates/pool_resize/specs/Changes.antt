-- The changes that delete a pool, and those that drop one.
use Rattle.std.specs.Prelude.{Bool, List, ℕ, ◌∷◌, ◌++◌}
use Rattle.bt_base.specs.Ids.{same}
use Rattle.bt_rows.specs.declared.tables.Change.{Change}
use Rattle.bt_rows.specs.declared.tables.Change.TheVariants.{DropPool, PutPool}
use Rattle.batch_model.specs.Dues.{is_start_run_of}
use Rattle.batch_model.specs.PoolEvents.{deleted_pool}
use Rattle.batch_model.specs.Variants.{State, PoolRow, SampleRow, ScaleRow}
use Rattle.row_changes.specs.Puts.{changes_where, run_drop, sample_drop, scale_drop}

-- a scaling of the pool
abbrev pub is_scale_of : List ℕ → ScaleRow → Bool
is_scale_of pool scale = same scale.pool pool

-- a sample of the pool
abbrev pub is_sample_in : List ℕ → SampleRow → Bool
is_sample_in pool sample = same sample.pool pool

-- the put of the pool that is being deleted, and the drop of its scaling
abbrev pub deletion : PoolRow → State → List Change
deletion pool s = PutPool (deleted_pool pool) ∷ changes_where scale_drop (is_scale_of pool.id) s.scales

-- the drops of its row, its samples and its start runs
abbrev pub removal : List ℕ → State → List Change
removal pool s =
    DropPool pool ∷ changes_where sample_drop (is_sample_in pool) s.samples ++ changes_where run_drop (is_start_run_of pool) s.runs
