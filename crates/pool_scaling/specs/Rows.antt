-- How a pool scales by a request.
use Rattle.std.specs.Prelude.{◌≡◌, ℕ, List, Option, Some, None, unwrap_or, Result, Ok, Err}
use Rattle.std.specs.Option.{option_map}
use Rattle.bt_base.specs.declared.fail.Fail.{Fail}
use Rattle.bt_base.specs.declared.fail.Fail.TheVariants.{Memory, Why}
use Rattle.bt_rows.specs.declared.event.ScaleSpec.{ScaleSpec}
use Rattle.bt_rows.specs.declared.refusal.Refusal.{Refusal}
use Rattle.bt_rows.specs.declared.refusal.Refusal.TheVariants.{PoolDoesNotScale}
use Rattle.batch_model.specs.Scaling.{usual_interval, new_scale, rescaled}
use Rattle.batch_model.specs.Variants.{ScaleRow}

-- the row by which the pool scales from now on, if a formula is given or there
abbrev pub given_row : ℕ → ScaleSpec → List ℕ → Option ScaleRow → Option ScaleRow
given_row now spec pool (Some old) = Some (rescaled now spec old)
given_row now spec pool None = option_map (λ formula. new_scale now pool formula (unwrap_or spec.interval usual_interval)) spec.formula

-- the row, or that there is none, unless memory ran out
abbrev pub IsGivenRow : Option ScaleRow → Result ScaleRow (Fail Refusal) → Type 0
IsGivenRow given (Ok row) = given ≡ Some row
IsGivenRow given (Err Memory) = Unit {0}
IsGivenRow given (Err (Why refusal)) = (given ≡ None) × (refusal ≡ PoolDoesNotScale)
