-- The changes that delete a pool lead to the tables in which it is being deleted, and those that drop one to the tables without it.
use Rattle.std.proofs.Common.{◌≡◌, ℕ, List, ◌∷◌, ◌++◌, Some, filter, not, refl, ◌∙◌, ap}
use Rattle.bt_rows.specs.Changes.{apply_change, apply_changes}
use Rattle.bt_rows.specs.declared.tables.Change.{Change}
use Rattle.bt_rows.specs.declared.tables.Change.TheVariants.{DropPool, PutPool}
use Rattle.batch_model.specs.Dues.{drop_pool, is_start_run_of}
use Rattle.batch_model.specs.Leaving.{leave}
use Rattle.batch_model.specs.PoolEvents.{deleted_pool, is_leaving_from, pool_deleted}
use Rattle.batch_model.specs.Rows.{is_pool, pool_of, put_pool}
use Rattle.batch_model.specs.WellFormed.{KeysAreDistinct}
use Rattle.batch_model.specs.Variants.{State, PoolRow, ByRequeue}
use Rattle.machine_plans.specs.Plans.{with_moment}
use Rattle.machine_plans.proofs.DuePuts.{pool_changed}
use Rattle.row_changes.specs.Puts.{changes_where, run_drop, sample_drop, scale_drop}
use Rattle.row_changes.proofs.ListPuts.{apply_append, runs_dropped}
use Rattle.row_changes.proofs.PoolDrops.{samples_dropped, scales_dropped}
use Rattle.row_changes.proofs.RowDropped.{pool_dropped}
use Rattle.pool_resize.specs.Changes.{deletion, is_sample_in, is_scale_of, removal}

module _ (pool : PoolRow) (s : State) (keys : KeysAreDistinct s) where
  -- the tables without so much of what is dropped

  abbrev no_pool : State
  no_pool = record s { pools = filter (λ row. not (is_pool pool.id row)) s.pools }

  abbrev no_samples : State
  no_samples = record no_pool { samples = filter (λ sample. not (is_sample_in pool.id sample)) s.samples }

  pub removed : apply_changes (removal pool.id s) s ≡ drop_pool pool s
  removed =
      apply_append (DropPool pool.id ∷ changes_where sample_drop (is_sample_in pool.id) s.samples) (changes_where run_drop (is_start_run_of pool.id) s.runs) s
      ∙ ap (apply_changes (changes_where run_drop (is_start_run_of pool.id) s.runs))
      (ap (apply_changes (changes_where sample_drop (is_sample_in pool.id) s.samples)) (pool_dropped pool.id s keys.pools)
      ∙ samples_dropped (is_sample_in pool.id) no_pool keys.samples)
      ∙ runs_dropped (is_start_run_of pool.id) no_samples keys.runs

  -- nodes leave, and then the pool is being deleted: this is the same the other way round
  module _ (now : ℕ) (there : pool_of s pool.id ≡ Some pool) where
    abbrev left : State
    left = leave ByRequeue (is_leaving_from pool.id) (with_moment now s)

    abbrev put : State
    put = put_pool (deleted_pool pool) left

    put_made : apply_change (PutPool (deleted_pool pool)) left ≡ put
    put_made =
        ap (λ pools. record left { pools = pools })
        (ap (λ (t : State). t.pools) (pool_changed (is_pool pool.id) pool (deleted_pool pool) s keys there refl))

    pub deleted : (changes : List Change) → apply_changes changes (with_moment now s) ≡ left → apply_changes (changes ++ deletion pool s) (with_moment now s) ≡ pool_deleted (with_moment now s) pool
    deleted changes leads =
        apply_append changes (deletion pool s) (with_moment now s)
        ∙ ap (apply_changes (deletion pool s)) leads
        ∙ ap (apply_changes (changes_where scale_drop (is_scale_of pool.id) s.scales)) put_made
        ∙ scales_dropped (is_scale_of pool.id) put keys.scales
