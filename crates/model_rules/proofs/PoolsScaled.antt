-- The formula of a pool is evaluated: the tables stay sound, and the rank falls.
use Rattle.std.proofs.Common.{◌≡◌, ℕ, ◌+◌, ◌≤◌, ◌<◌, Bool, true, false, not, ◌&&◌, nat_eq, nat_le, List, Option, Some, None, Result, Ok, Err, find, cond, count_by, option_map}
use Rattle.std.proofs.Common.{refl, sym, ◌∙◌, ap, subst, arith}
use Rattle.std.specs.List.{find}
use Rattle.std.specs.Option.{option_map_or}
use Rattle.std.proofs.lemmas.Bool.Decides.{nat_tests}
use Rattle.bt_base.proofs.SameIds.{same_equiv}
use Rattle.bt_base.proofs.Turns.{lex_lt, lex_first}
use Rattle.bt_base.specs.declared.dealloc_option.Dealloc.{Dealloc}
use Rattle.bt_rows.specs.declared.due.Due.TheVariants.{PoolScaled}
use Rattle.bt_rows.specs.declared.limits.TheConstants.{LEAST_INTERVAL, GREATEST_INTERVAL}
use Rattle.bt_rows.specs.Keys.{same_pool, same_pool_equiv}
use Rattle.bt_rows.specs.Ranges.{passes_if_some, is_start_in_range, is_formula_text, is_slot_count, is_target, is_interval, is_resize_timeout}
use Rattle.bt_rows.proofs.DistinctRows.{found_first}
use Rattle.formula_eval.specs.declared.outcome.Outcome.{Outcome}
use Rattle.formula_eval.specs.declared.outcome.Targets.{Targets}
use Rattle.batch_model.specs.Rows.{put_pool}
use Rattle.batch_model.specs.Pools.{is_steady, resizing_from, staying_count}
use Rattle.batch_model.specs.Formulas.{formula_ran, ran_text}
use Rattle.batch_model.specs.Scaling.{is_scale, scale_of, put_scale, lacks_sample, is_to_sample, is_due, is_to_scale, is_scaling, evaluated_now, retargeted_to}
use Rattle.batch_model.specs.Scaling.{scaled_after, given_by, pool_scaled, scale_pool, scale_first}
use Rattle.batch_model.specs.Measure.{rank}
use Rattle.batch_model.specs.Sound.{IsSound}
use Rattle.batch_model.specs.Steps.{DueStep}
use Rattle.batch_model.specs.WellFormed.{is_past_if_some, is_pool_past, is_pool_in_range, is_pool_valid, is_scale_in_range}
use Rattle.batch_model.specs.Variants.{State, PoolRow, Alloc, Resizing, ResizeError, ScaleRow}
use Rattle.model_lists.proofs.Tests.{and_true, and_first, and_second, or_first}
use Rattle.model_lists.proofs.RowLists.{each_any, each_found, find_test}
use Rattle.model_lists.proofs.ChangedRows.{changed, find_change}
use Rattle.model_lists.proofs.KeyedLists.{sum_by-put_row}
use Rattle.model_lists.proofs.NextNumbers.{is_not_after_itself}
use Rattle.model_lists.proofs.RowSums.{sum_agree, sum_less_where}
use Rattle.model_tables.proofs.PoolPut.{sound_pool_put}
use Rattle.model_tables.proofs.ScalesPut.{scales_put, sound_scale_put}
use Rattle.model_rules.proofs.NodeCounts.{one_if}
use Rattle.model_rules.proofs.OutcomesLimited.{are_targets_in_range, formula_limited}
use Rattle.model_rules.proofs.Rules.{IsDueKept, from_map, from_then}

-- what an evaluation gave is within the limits
abbrev IsGivenInRange : Option (Targets × Dealloc) → Type 0
IsGivenInRange None = Unit {0}
IsGivenInRange (Some given) = are_targets_in_range given.0 ≡ true

-- the next evaluation is not due yet
not_yet : (now every : ℕ) → nat_le LEAST_INTERVAL every ≡ true → nat_le (now + every) now ≡ false
not_yet now every h = grind (arith, nat_tests)

-- a test beside one that fails counts nothing
counts_none : (a b : Bool) → b ≡ false → one_if (a && b) ≡ 0
counts_none true b e = rw e refl
counts_none false b e = refl

module _ (seats : ℕ) (s : State) (h : IsSound seats s) (pool : PoolRow) (found : find (is_scaling s) s.pools ≡ Some pool) (scale : ScaleRow)
    (there : scale_of s pool.id ≡ Some scale) (text : List ℕ) where
  -- it is steady, is not being deleted, and its formula's moment has come
  passes : is_scaling s pool ≡ true
  passes = find_test (is_scaling s) pool s.pools found

  to_scale : is_to_scale s pool ≡ true
  to_scale = and_second (is_steady pool.alloc) (is_to_scale s pool) passes

  live : not pool.deleting ≡ true
  live = and_first (not pool.deleting) _ to_scale

  -- it is valid
  valid : is_pool_valid s.moment pool ≡ true
  valid = each_found (is_pool_valid s.moment) (is_scaling s) pool s.pools found h.limited.rows.pools

  range : is_pool_in_range pool ≡ true
  range = and_first (is_pool_in_range pool) (is_pool_past s.moment pool) valid

  past : is_pool_past s.moment pool ≡ true
  past = and_second (is_pool_in_range pool) (is_pool_past s.moment pool) valid

  timed : (is_slot_count pool.slots && is_target pool.dedicated && nat_eq pool.low 0 && is_resize_timeout pool.usual_timeout) ≡ true
  timed = and_first _ (is_resize_timeout pool.timeout) (and_first _ (passes_if_some is_start_in_range pool.start) range)

  -- the row after the evaluation
  abbrev next_scale : ScaleRow
  next_scale = evaluated_now s.moment text scale

  -- it is in its range
  scale_in_range : is_scale_in_range scale ≡ true
  scale_in_range = each_found is_scale_in_range (is_scale pool.id) scale s.scales there h.limited.rows.scales

  -- the tables with it
  abbrev put : State
  put = put_scale next_scale s

  sound_put : IsSound seats put
  sound_put = sound_scale_put s next_scale seats scale_in_range h

  -- the row of a pool with other targets and another resize
  abbrev row_with : ℕ → ℕ → Dealloc → Alloc → ℕ → ℕ → Option ResizeError → PoolRow
  row_with target few given_option given_alloc from limit why = record pool {
    dedicated = target;
    low = few;
    option = given_option;
    alloc = given_alloc;
    began = from;
    timeout = limit;
    error = why;
  }

  -- how pools scale afterwards

  found_scale : (id : List ℕ) → scale_of put id ≡ option_map (changed (is_scale scale.pool) (λ (old : ScaleRow). next_scale)) (scale_of s id)
  found_scale id =
      find_change (is_scale scale.pool) (λ (old : ScaleRow). next_scale) (is_scale id) (λ one e. sym (same_equiv.congr one.pool scale.pool id e)) s.scales

  next_later : is_due s.moment next_scale ≡ false
  next_later =
      not_yet s.moment scale.interval
      (and_first (nat_le LEAST_INTERVAL scale.interval) (nat_le scale.interval GREATEST_INTERVAL)
      (and_second (is_formula_text scale.formula) (is_interval scale.interval) scale_in_range))

  -- no pool is to be scaled that was not before
  scaled_at_most : (other : PoolRow) → one_if (is_to_scale put other) ≤ one_if (is_to_scale s other)
  scaled_at_most other = rw (found_scale other.id) (by_row (not other.deleting) (scale_of s other.id))
    where
      by_key : (a b : Bool) (row : ScaleRow) → one_if (a && is_due s.moment (cond b next_scale row)) ≤ one_if (a && is_due s.moment row)
      by_key a true row =
          let none : one_if (a && is_due s.moment next_scale) ≡ 0 = counts_none a (is_due s.moment next_scale) next_later in
          omega (arith, none)
      by_key a false row = omega arith

      by_row : (a : Bool) (row : Option ScaleRow)
          → one_if (a && option_map_or (is_due s.moment) (option_map (changed (is_scale scale.pool) (λ (old : ScaleRow). next_scale)) row) false)
          ≤ one_if (a && option_map_or (is_due s.moment) row false)
      by_row a None = omega arith
      by_row a (Some row) = by_key a (is_scale scale.pool row) row

  -- the pool is to be scaled no more
  scaled_no_more : one_if (is_to_scale put pool) ≡ 0
  scaled_no_more =
      counts_none (not pool.deleting) (option_map_or (is_due s.moment) (scale_of put pool.id) false)
      (ap (λ row. option_map_or (is_due s.moment) row false)
      (found_scale pool.id ∙ ap (λ row. option_map (changed (is_scale scale.pool) (λ (old : ScaleRow). next_scale)) row) there)
      ∙ (ap (λ b. is_due s.moment (cond b next_scale scale)) (same_equiv.refl scale.pool) ∙ next_later))

  -- a pool less is to be scaled, and as many are to be sampled
  fewer_to_scale : count_by (is_to_scale put) s.pools < count_by (is_to_scale s) s.pools
  fewer_to_scale =
      let none = scaled_no_more in
      let one : one_if (is_to_scale s pool) ≡ 1 = rw to_scale refl in
      sum_less_where (λ other. true) (λ other. one_if (is_to_scale put other)) (λ other. one_if (is_to_scale s other)) (λ other e. scaled_at_most other)
      (is_scaling s) pool s.pools (each_any (λ other. true) (λ other. refl) s.pools) found (omega (arith, none, one))

  same_to_sample : count_by (is_to_sample put) s.pools ≡ count_by (is_to_sample s) s.pools
  same_to_sample =
      sum_agree (λ other. one_if (is_to_sample put other)) (λ other. one_if (is_to_sample s other))
      (λ (other : PoolRow). ap (λ b. one_if (not other.deleting && (b && lacks_sample s other))) (scales_put s next_scale other.id)) s.pools

  -- with such a row

  module _ (target few : ℕ) (given_option : Dealloc) (given_alloc : Alloc) (from limit : ℕ) (why : Option ResizeError) where
    abbrev row : PoolRow
    row = row_with target few given_option given_alloc from limit why

    -- the tables with it
    abbrev after : State
    after = put_pool row put

    -- within the limits it is valid
    row_valid : is_target target ≡ true → nat_eq few 0 ≡ true → is_resize_timeout limit ≡ true → nat_le from s.moment ≡ true
        → is_pool_valid s.moment row ≡ true
    row_valid a b c d =
        let slots : is_slot_count pool.slots ≡ true = and_first _ _ (and_first _ _ (and_first _ (is_resize_timeout pool.usual_timeout) timed)) in
        and_true
        (and_true (and_true (and_true (and_true (and_true slots a) b) (and_second _ (is_resize_timeout pool.usual_timeout) timed)) c)
        (and_second _ (passes_if_some is_start_in_range pool.start) range))
        (and_true d (and_second (nat_le pool.began s.moment) (is_past_if_some s.moment pool.enabled) past))

    sound_row : is_pool_valid s.moment row ≡ true → IsSound seats after
    sound_row row_is_valid = sound_pool_put put row pool (is_scaling s) found refl seats refl refl row_is_valid (or_first _ live) sound_put

    -- the rank falls
    falls_row : lex_lt (rank after) (rank s) ≡ true
    falls_row =
        let first = found_first same_pool same_pool_equiv (is_scaling s) pool s.pools h.consistent.keys.pools found in
        let sampled =
        sum_by-put_row same_pool same_pool_equiv pool s.pools h.consistent.keys.pools first (λ other. one_if (is_to_sample put other)) row (λ x. refl)
        in
        let scaled =
        sum_by-put_row same_pool same_pool_equiv pool s.pools h.consistent.keys.pools first (λ other. one_if (is_to_scale put other)) row (λ x. refl)
        in
        let fewer = fewer_to_scale in
        let alike = same_to_sample in
        lex_first _ _ _ _ (omega (arith, sampled, scaled, fewer, alike)) refl

    -- the line names the pool
    row_kept : is_pool_valid s.moment row ≡ true → IsDueKept seats s (record { due = PoolScaled pool.id text; state = after })
    row_kept row_is_valid = record {
      sound = sound_row row_is_valid;
      falls = falls_row;
      places = tt;
      ends = tt;
      releases = tt;
    }

  -- an evaluation that gave this
  after_kept : (given : Option (Targets × Dealloc)) → IsGivenInRange given → IsDueKept seats s (scaled_after s pool scale text given)
  after_kept None in_range = row_kept pool.dedicated pool.low pool.option pool.alloc pool.began pool.timeout pool.error valid
  after_kept (Some given) in_range = by_nodes (nat_eq (staying_count s pool.id) given.0.dedicated)
    where
      target : is_target given.0.dedicated ≡ true
      target = and_first (is_target given.0.dedicated) (nat_eq given.0.low 0) in_range

      few : nat_eq given.0.low 0 ≡ true
      few = and_second (is_target given.0.dedicated) (nat_eq given.0.low 0) in_range

      by_nodes : (b : Bool)
          → IsDueKept seats s (record {
            due = PoolScaled pool.id text;
            state = put_pool (cond b (retargeted_to given pool) (resizing_from s.moment pool.usual_timeout (retargeted_to given pool))) put;
          })
      by_nodes true =
          row_kept given.0.dedicated given.0.low given.1 pool.alloc pool.began pool.timeout pool.error
          (row_valid given.0.dedicated given.0.low given.1 pool.alloc pool.began pool.timeout pool.error target few
          (and_second _ (is_resize_timeout pool.timeout) (and_first _ (passes_if_some is_start_in_range pool.start) range))
          (and_first (nat_le pool.began s.moment) (is_past_if_some s.moment pool.enabled) past))
      by_nodes false =
          row_kept given.0.dedicated given.0.low given.1 Resizing s.moment pool.usual_timeout None
          (row_valid given.0.dedicated given.0.low given.1 Resizing s.moment pool.usual_timeout None target few (and_second _ (is_resize_timeout pool.usual_timeout) timed) (is_not_after_itself s.moment))

module _ (seats : ℕ) (s : State) (h : IsSound seats s) where
  -- the formula's results are within the limits
  given_in_range : (pool : PoolRow) (ran : Result Outcome (List ℕ)) → ((outcome : Outcome) → ran ≡ Ok outcome → are_targets_in_range outcome.targets ≡ true)
      → IsGivenInRange (given_by ran)
  given_in_range pool (Ok outcome) limited = limited outcome refl
  given_in_range pool (Err text) limited = tt

  -- U12
  pub scale_first_kept : (step : DueStep) → scale_first s ≡ Some step → IsDueKept seats s step
  scale_first_kept step e =
      let pool = from_then (scale_pool s) (find (is_scaling s) s.pools) step e in
      let scale = from_map (pool_scaled s pool.0) (scale_of s pool.0.id) step pool.1 in
      let range : is_pool_in_range pool.0 ≡ true =
      and_first (is_pool_in_range pool.0) (is_pool_past s.moment pool.0)
      (each_found (is_pool_valid s.moment) (is_scaling s) pool.0 s.pools pool.2 h.limited.rows.pools)
      in
      subst (IsDueKept seats s) scale.1
      (after_kept seats s h pool.0 pool.2 scale.0 scale.2 (ran_text (formula_ran s pool.0 scale.0.formula)) (given_by (formula_ran s pool.0 scale.0.formula))
      (given_in_range pool.0 (formula_ran s pool.0 scale.0.formula) (λ outcome. formula_limited s pool.0 scale.0.formula outcome range)))
