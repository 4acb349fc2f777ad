-- Automatic scaling in the bodies of `add-pool`, `enable-autoscale` and `evaluate-autoscale`.
use Rattle.std.specs.Prelude.{ℕ, Bool, true, false, List, Option, Some, None, Result, Ok, Err, option_map, if◌then◌else◌}
use Rattle.serde_json.specs.Data.{Data}
use Rattle.bt_base.specs.Fails.{◌>>=◌}
use Rattle.bt_rows.specs.declared.limits.TheConstants.{LEAST_INTERVAL, GREATEST_INTERVAL, DEFAULT_INTERVAL}
use Rattle.bt_rows.specs.declared.member.Member.TheVariants as names
use Rattle.bt_rows.specs.declared.event.Scaling.{Scaling}
use Rattle.bt_rows.specs.declared.event.ScaleSpec.{ScaleSpec}
use Rattle.bt_rows.specs.declared.refusal.Refusal.{Refusal}
use Rattle.bt_rows.specs.declared.refusal.Refusal.TheVariants.{InvalidPropertyValue}
use Rattle.bt_rows.specs.Ranges.{passes_if_some, is_formula_text}
use Rattle.wire_members.specs.Body.{object_of}
use Rattle.wire_members.specs.Durations.{limited_duration_if, limited_duration_member}
use Rattle.wire_members.specs.Members.{flag_member, is_true, or_invalid, text_member}

-- a formula, if there is one, has at most 8,192 bytes
abbrev pub if_formula : Option (List ℕ) → Result (Option (List ℕ)) Refusal
if_formula formula = if passes_if_some is_formula_text formula then Ok formula else Err (InvalidPropertyValue names.AutoScaleFormula)

-- the formula; None if it is absent
unfoldable pub formula_if : Data → Result (Option (List ℕ)) Refusal
formula_if d = do
  formula ← text_member (Some d) names.AutoScaleFormula
  if_formula formula

-- ---- the body of `add-pool`

-- the pool is to scale automatically
abbrev pub scales : Data → Bool
scales d = is_true (Some d) names.EnableAutoScale

-- the formula of a pool that scales is required; that of another one is not used
abbrev pub used_formula : Bool → Option (List ℕ) → Result (Option (List ℕ)) Refusal
used_formula false formula = Ok None
used_formula true None = Err (InvalidPropertyValue names.AutoScaleFormula)
used_formula true (Some formula) = Ok (Some formula)

-- the time from one evaluation to the next, 5 minutes to 168 hours, by default 15 minutes
abbrev pub interval_member : Data → Result ℕ Refusal
interval_member d = limited_duration_member (Some d) names.AutoScaleEvaluationInterval LEAST_INTERVAL GREATEST_INTERVAL DEFAULT_INTERVAL

-- how a pool scales, if it does; all three members are read, whether it does or not
unfoldable pub scaling_if : Data → Result (Option Scaling) Refusal
scaling_if d = do
  _ ← flag_member (Some d) names.EnableAutoScale false
  stated ← formula_if d
  used ← used_formula (scales d) stated
  interval ← interval_member d
  Ok (option_map (λ formula. record { formula = formula; interval = interval }) used)

-- ---- the body of `enable-autoscale`

-- the time from one evaluation to the next, 5 minutes to 168 hours; None if it is absent
abbrev pub interval_if : Data → Result (Option ℕ) Refusal
interval_if d = limited_duration_if (Some d) names.AutoScaleEvaluationInterval LEAST_INTERVAL GREATEST_INTERVAL

-- the members in this order, none of them required and each without a default
unfoldable pub enable_in : Data → Result ScaleSpec Refusal
enable_in d = do
  formula ← formula_if d
  interval ← interval_if d
  Ok (record { formula = formula; interval = interval })

-- the formula and the interval that the bytes of a body are
unfoldable pub enable_of : List ℕ → Result ScaleSpec Refusal
enable_of bytes = do
  d ← object_of bytes
  enable_in d

-- ---- the body of `evaluate-autoscale`

-- the formula, which is required
unfoldable pub evaluate_in : Data → Result (List ℕ) Refusal
evaluate_in d = do
  formula ← formula_if d
  or_invalid names.AutoScaleFormula formula

-- the formula that the bytes of a body are
unfoldable pub evaluate_of : List ℕ → Result (List ℕ) Refusal
evaluate_of bytes = do
  d ← object_of bytes
  evaluate_in d
