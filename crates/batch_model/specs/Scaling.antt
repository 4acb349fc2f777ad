-- Automatic scaling of pools: when their formulas are evaluated, and the events and due rules that do so.
-- Source: Azure Batch REST reference, Enable, Disable and Evaluate Pool Auto Scale, and its documentation of automatic scaling; due
-- rules, and that one sample is taken each half minute, are this project's own.
use Rattle.std.specs.Prelude.{ℕ, ◌+◌, Bool, false, not, ◌&&◌, nat_eq, nat_le, nat_lt, List, [], ◌∷◌, ◌++◌, filter, find, Option, Some, None, is_none, unwrap_or, Result, Ok, Err, if◌then◌else◌}
use Rattle.std.specs.Option.{option_map, option_map_or, option_and_then}
use Rattle.bt_base.specs.Ids.{same}
use Rattle.bt_rows.specs.declared.limits.TheConstants.{DEFAULT_INTERVAL}
use Rattle.bt_rows.specs.declared.event.Scaling.{Scaling}
use Rattle.bt_rows.specs.declared.event.ScaleSpec.{ScaleSpec}
use Rattle.bt_rows.specs.declared.refusal.Refusal.{Refusal}
use Rattle.bt_rows.specs.declared.refusal.Refusal.TheVariants.{PoolBeingDeleted, PoolBeingResized, PoolDoesNotScale, AutoscaleTooSoon}
use Rattle.bt_rows.specs.declared.reply.Reply.TheVariants.{Results}
use Rattle.bt_rows.specs.declared.due.Due.TheVariants.{Sampled, PoolScaled}
use Rattle.formula_eval.specs.declared.outcome.Targets.{Targets}
use Rattle.formula_eval.specs.declared.outcome.Outcome.{Outcome}
use Rattle.batch_model.specs.Finding.{first_of, at_row, change_where}
use Rattle.batch_model.specs.Rows.{put_pool}
use Rattle.batch_model.specs.Pools.{is_steady, resizing_from, staying_count}
use Rattle.batch_model.specs.Samples.{label_of, newest_label, sample_refusal, new_sample, add_sample}
use Rattle.batch_model.specs.Metrics.{sampled_metrics, add_samples}
use Rattle.batch_model.specs.Formulas.{formula_ran, ran_text, formula_refusal}
use Rattle.batch_model.specs.Steps.{Answered, DueStep, refuse_if}
use Rattle.batch_model.specs.Answers.{refuse, answer}
use Rattle.batch_model.specs.WellFormed.{scales}
use Rattle.batch_model.specs.Variants.{State, PoolRow, Dealloc, CpuPercent, ActiveTasks, ScaleRow}
use Rattle.std.specs.Prelude.{ℤ}

-- the row says how the pool scales
abbrev pub is_scale : List ℕ → ScaleRow → Bool
is_scale pool scale = same scale.pool pool

-- how the pool scales, if it scales automatically
abbrev pub scale_of : State → List ℕ → Option ScaleRow
scale_of s pool = find (is_scale pool) s.scales

-- the row in place of the one of its pool
abbrev pub put_scale : ScaleRow → State → State
put_scale scale s = record s { scales = change_where (is_scale scale.pool) (λ old. scale) s.scales }

-- the row at the end
abbrev pub add_scale_row : ScaleRow → State → State
add_scale_row scale s = record s { scales = s.scales ++ scale ∷ [] }

-- the pool does not scale automatically any more
abbrev pub drop_scale : List ℕ → State → State
drop_scale pool s = record s { scales = filter (λ scale. not (is_scale pool scale)) s.scales }

-- 15 minutes from one evaluation to the next, if a request states no interval
abbrev pub usual_interval : ℕ
usual_interval = DEFAULT_INTERVAL

-- a formula that is to be evaluated now
abbrev pub new_scale : ℕ → List ℕ → List ℕ → ℕ → ScaleRow
new_scale now in_pool text every = record { pool = in_pool; formula = text; interval = every; next = now; last = None }

-- a new pool scales as it is told, if it is
abbrev pub add_given_scale : List ℕ → Option Scaling → State → State
add_given_scale pool None s = s
add_given_scale pool (Some scaling) s = add_scale_row (new_scale s.moment pool scaling.formula scaling.interval) s

-- the refusal of the formula that a new pool is given
abbrev pub given_refusal : Option Scaling → Option Refusal
given_refusal given = option_and_then (λ (scaling : Scaling). formula_refusal scaling.formula) given

-- the given parts in place of the old ones; the formula is to be evaluated now
abbrev pub rescaled : ℕ → ScaleSpec → ScaleRow → ScaleRow
rescaled now spec scale = record scale {
  formula = unwrap_or spec.formula scale.formula;
  interval = unwrap_or spec.interval scale.interval;
  next = now;
}

-- a pool that scales automatically keeps its row, with the given parts, and another gets one for the formula
abbrev pub scaled_by : ScaleSpec → List ℕ → Option ScaleRow → State → State
scaled_by spec pool (Some old) s = put_scale (rescaled s.moment spec old) s
scaled_by spec pool None s =
    at_row (λ formula. add_scale_row (new_scale s.moment pool formula (unwrap_or spec.interval usual_interval))) spec.formula s

-- automatic scaling was enabled now
abbrev pub enabled_now : ℕ → PoolRow → PoolRow
enabled_now now pool = record pool { enabled = Some now }

-- the pool scales by the given parts from now on
abbrev pub autoscale_enabled : State → ScaleSpec → PoolRow → State
autoscale_enabled s spec pool = put_pool (enabled_now s.moment pool) (scaled_by spec pool.id (scale_of s pool.id) s)

-- automatic scaling was enabled less than 30 seconds ago
abbrev pub too_soon : ℕ → ℕ → Option Refusal
too_soon now since = refuse_if (nat_lt now (since + 30000)) (AutoscaleTooSoon since)

-- no formula is given, and none is there
abbrev pub lacks_formula : State → ScaleSpec → PoolRow → Bool
lacks_formula s spec pool = is_none spec.formula && not (scales s pool.id)

-- why a pool does not scale by the given parts, in order
abbrev pub enable_autoscale_refusals : State → ScaleSpec → PoolRow → List (Option Refusal)
enable_autoscale_refusals s spec pool =
    refuse_if pool.deleting PoolBeingDeleted
    ∷ refuse_if (not (is_steady pool.alloc)) PoolBeingResized
    ∷ option_and_then (too_soon s.moment) pool.enabled
    ∷ refuse_if (lacks_formula s spec pool) PoolDoesNotScale
    ∷ option_and_then formula_refusal spec.formula
    ∷ []

-- `enable-autoscale`
abbrev pub enable_autoscale : State → ScaleSpec → PoolRow → Answered
enable_autoscale s spec pool = answer s (enable_autoscale_refusals s spec pool) 200 (autoscale_enabled s spec pool)

-- why a pool is not changed that is to scale automatically, in order
abbrev pub scaling_refusals : State → PoolRow → List (Option Refusal)
scaling_refusals s pool =
    refuse_if pool.deleting PoolBeingDeleted
    ∷ refuse_if (not (scales s pool.id)) PoolDoesNotScale
    ∷ []

-- `disable-autoscale`
abbrev pub disable_autoscale : State → PoolRow → Answered
disable_autoscale s pool = answer s (scaling_refusals s pool) 200 (drop_scale pool.id s)

-- the results text of a formula over the pool, or its fault, and the tables as they are
abbrev pub formula_shown : State → List ℕ → PoolRow → Answered
formula_shown s text pool = record { reply = Results (ran_text (formula_ran s pool text)); state = s }

-- why a formula is not evaluated over a pool, in order
abbrev pub evaluate_refusals : State → List ℕ → PoolRow → List (Option Refusal)
evaluate_refusals s text pool =
    refuse_if pool.deleting PoolBeingDeleted
    ∷ refuse_if (not (scales s pool.id)) PoolDoesNotScale
    ∷ formula_refusal text
    ∷ []

-- `evaluate-autoscale`
abbrev pub evaluate_autoscale : State → List ℕ → PoolRow → Answered
evaluate_autoscale s text pool =
    option_map_or (λ refusal. refuse refusal s) (first_of (evaluate_refusals s text pool)) (formula_shown s text pool)

-- why no sample of the processors is taken
abbrev pub sample_refusals : State → PoolRow → List (Option Refusal)
sample_refusals s pool = option_and_then (sample_refusal (label_of s.moment)) (newest_label s pool.id CpuPercent) ∷ []

-- `sample`: the processors' percentage now, in millionths
abbrev pub sample_pool : State → ℤ → PoolRow → Answered
sample_pool s percentage pool = answer s (sample_refusals s pool) 200 (add_sample (new_sample s pool.id CpuPercent percentage) s)

-- U1: a pool that scales automatically is sampled, once in each half minute

-- no sample of the active tasks has the label of now
abbrev pub lacks_sample : State → PoolRow → Bool
lacks_sample s pool = not (option_map_or (nat_le (label_of s.moment)) (newest_label s pool.id ActiveTasks) false)

-- scales automatically, is not deleted, and lacks samples of now
abbrev pub is_to_sample : State → PoolRow → Bool
is_to_sample s pool = not pool.deleting && (scales s pool.id && lacks_sample s pool)

-- the line names the pool and the label; each metric but that of the processors is sampled
abbrev pub pool_sampled : State → PoolRow → DueStep
pool_sampled s pool = record { due = Sampled pool.id (label_of s.moment); state = add_samples s pool sampled_metrics s }

-- the first such pool
abbrev pub sample_first : State → Option DueStep
sample_first s = option_map (pool_sampled s) (find (is_to_sample s) s.pools)

-- U12: the formula of a steady pool is evaluated when its moment has come

-- its moment has come
abbrev pub is_due : ℕ → ScaleRow → Bool
is_due now scale = nat_le scale.next now

-- is not deleted, and has a formula whose moment has come
abbrev pub is_to_scale : State → PoolRow → Bool
is_to_scale s pool = not pool.deleting && option_map_or (is_due s.moment) (scale_of s pool.id) false

-- steady, with such a formula
abbrev pub is_scaling : State → PoolRow → Bool
is_scaling s pool = is_steady pool.alloc && is_to_scale s pool

-- the next evaluation is one interval from now, and the text of the last one is kept
abbrev pub evaluated_now : ℕ → List ℕ → ScaleRow → ScaleRow
evaluated_now now text scale = record scale { next = now + scale.interval; last = Some text }

-- with these targets and this option
abbrev pub retargeted_to : Targets × Dealloc → PoolRow → PoolRow
retargeted_to given pool = record pool { dedicated = given.0.dedicated; low = given.0.low; option = given.1 }

-- it resizes from now, within its usual time, unless the number of its staying nodes is its target
abbrev pub resized_unless_reached : State → PoolRow → PoolRow
resized_unless_reached s pool =
    if nat_eq (staying_count s pool.id) pool.dedicated then pool else resizing_from s.moment pool.usual_timeout pool

-- what an evaluation that gave this makes of the pool: a fault gives nothing, and leaves it
abbrev pub pool_after : State → PoolRow → Option (Targets × Dealloc) → PoolRow
pool_after s pool None = pool
pool_after s pool (Some given) = resized_unless_reached s (retargeted_to given pool)

-- the tables after an evaluation that gave this and has this text, and the line, which names the pool and has the text
abbrev pub scaled_after : State → PoolRow → ScaleRow → List ℕ → Option (Targets × Dealloc) → DueStep
scaled_after s pool scale text given = record {
  due = PoolScaled pool.id text;
  state = put_pool (pool_after s pool given) (put_scale (evaluated_now s.moment text scale) s);
}

-- the targets and the option of results; a fault gives none
abbrev pub given_by : Result Outcome (List ℕ) → Option (Targets × Dealloc)
given_by (Ok outcome) = Some (outcome.targets, outcome.option)
given_by (Err text) = None

-- the same, of results or of the text of a fault
abbrev pub scaled_by_results : State → PoolRow → ScaleRow → Result Outcome (List ℕ) → DueStep
scaled_by_results s pool scale ran = scaled_after s pool scale (ran_text ran) (given_by ran)

-- the pool's formula is evaluated
abbrev pub pool_scaled : State → PoolRow → ScaleRow → DueStep
pool_scaled s pool scale = scaled_by_results s pool scale (formula_ran s pool scale.formula)

-- by its row
abbrev pub scale_pool : State → PoolRow → Option DueStep
scale_pool s pool = option_map (pool_scaled s pool) (scale_of s pool.id)

-- the first such pool
abbrev pub scale_first : State → Option DueStep
scale_first s = option_and_then (scale_pool s) (find (is_scaling s) s.pools)
