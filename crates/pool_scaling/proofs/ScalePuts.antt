-- What puts and drops of rows that say how pools scale make of the tables.
use Rattle.std.proofs.Common.{◌≡◌, ℕ, Bool, true, false, not, List, [], ◌∷◌, Option, Some, None, cond, filter, is_some, refl, sym, ◌∙◌, ap}
use Rattle.std.specs.List.{list_any, find}
use Rattle.bt_base.proofs.SameIds.{same_equiv}
use Rattle.bt_rows.specs.Changes.{apply_change}
use Rattle.bt_rows.specs.Keys.{same_scale, same_scale_equiv}
use Rattle.bt_rows.specs.Lists.{AreDistinct, drop_row}
use Rattle.bt_rows.specs.declared.tables.Change.TheVariants.{DropScale, PutPool, PutScale}
use Rattle.bt_rows.proofs.DistinctRows.{found_first}
use Rattle.batch_model.specs.Rows.{is_pool, pool_of, put_pool}
use Rattle.batch_model.specs.Scaling.{add_scale_row, drop_scale, is_scale, put_scale, scale_of}
use Rattle.batch_model.specs.WellFormed.{KeysAreDistinct, scales}
use Rattle.batch_model.specs.Variants.{State, PoolRow, ScaleRow}
use Rattle.machine_plans.proofs.DuePuts.{pool_changed}
use Rattle.model_lists.proofs.Putting.{put_row-found, put_row-new}
use Rattle.model_lists.proofs.RowLists.{any_found, find_none, find_test, none_weaker}
use Rattle.model_lists.proofs.Tests.{or_false_first, or_false_second}

-- a pool scales exactly if a search finds its row
pub scales_by_row : (s : State) (pool : List ℕ) → is_some (scale_of s pool) ≡ scales s pool
scales_by_row s pool = by_row (scale_of s pool) refl
  where
    by_row : (found : Option ScaleRow) → scale_of s pool ≡ found → is_some found ≡ scales s pool
    by_row None e = sym (find_none (is_scale pool) s.scales e)
    by_row (Some scale) e = sym (any_found (is_scale pool) (is_scale pool) scale s.scales e (find_test (is_scale pool) scale s.scales e))

-- a row in the place of the one of its pool
pub scale_changed : (pool : List ℕ) (old row : ScaleRow) (s : State) → KeysAreDistinct s → scale_of s pool ≡ Some old → row.pool ≡ old.pool
    → apply_change (PutScale row) s ≡ put_scale row s
scale_changed pool old row s keys found id =
    ap (λ scales. record s { scales = scales })
    (put_row-found same_scale same_scale_equiv (λ (other : ScaleRow). same_scale other row) (λ (scale : ScaleRow). row) old same_key same_key s.scales keys.scales
    first)
  where
    same_key : (x : ScaleRow) → same_scale x row ≡ same_scale x old
    same_key x = rw id refl

    first : find (λ (other : ScaleRow). same_scale other row) s.scales ≡ Some old
    first = rw id (found_first same_scale same_scale_equiv (is_scale pool) old s.scales keys.scales found)

-- a row of a pool that has none
pub scale_added : (row : ScaleRow) (s : State) → scales s row.pool ≡ false → apply_change (PutScale row) s ≡ add_scale_row row s
scale_added row s none = ap (λ scales. record s { scales = scales }) (put_row-new (is_scale row.pool) row s.scales none)

-- a pool in its place, in tables whose pools are those of others
pub pool_put_after : (pool row : PoolRow) (s : State) (rows : List ScaleRow) → KeysAreDistinct s → pool_of s pool.id ≡ Some pool → row.id ≡ pool.id
    → apply_change (PutPool row) (record s { scales = rows }) ≡ put_pool row (record s { scales = rows })
pool_put_after pool row s rows keys there id =
    ap (λ pools. record s { pools = pools; scales = rows })
    (ap (λ (t : State). t.pools) (pool_changed (is_pool pool.id) pool row s keys there id))

-- the drop of the row of a pool

module _ (pool : List ℕ) where
  all_stay : (rows : List ScaleRow) → list_any (is_scale pool) rows ≡ false → filter (λ scale. not (is_scale pool scale)) rows ≡ rows
  all_stay [] h = refl
  all_stay (scale ∷ rows) h =
      first (is_scale pool scale) (or_false_first (is_scale pool scale) (list_any (is_scale pool) rows) h)
      (all_stay rows (or_false_second (is_scale pool scale) (list_any (is_scale pool) rows) h))
    where
      first : (b : Bool) → b ≡ false → filter (λ scale. not (is_scale pool scale)) rows ≡ rows
          → cond (not b) (scale ∷ filter (λ scale. not (is_scale pool scale)) rows) (filter (λ scale. not (is_scale pool scale)) rows) ≡ scale ∷ rows
      first true e k = cc
      first false e k = ap (λ rest. scale ∷ rest) k

  dropped : (rows : List ScaleRow) → AreDistinct same_scale rows → drop_row (is_scale pool) rows ≡ filter (λ scale. not (is_scale pool scale)) rows
  dropped [] d = refl
  dropped (scale ∷ rows) d = first (is_scale pool scale) refl (dropped rows d.1)
    where
      first : (b : Bool) → is_scale pool scale ≡ b → drop_row (is_scale pool) rows ≡ filter (λ scale. not (is_scale pool scale)) rows
          → cond b rows (scale ∷ drop_row (is_scale pool) rows)
          ≡ cond (not b) (scale ∷ filter (λ scale. not (is_scale pool scale)) rows) (filter (λ scale. not (is_scale pool scale)) rows)
      first true e k =
          sym
          (all_stay rows
          (none_weaker (same_scale scale) (is_scale pool)
          (λ other h. same_equiv.congr scale.pool pool other.pool e ∙ (same_equiv.symm pool other.pool ∙ h)) rows d.0))
      first false e k = ap (λ rest. scale ∷ rest) k

pub scale_dropped : (pool : List ℕ) (s : State) → KeysAreDistinct s → apply_change (DropScale pool) s ≡ drop_scale pool s
scale_dropped pool s keys = ap (λ scales. record s { scales = scales }) (dropped pool s.scales keys.scales)
