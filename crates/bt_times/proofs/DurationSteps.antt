-- The duration of a text that shows a span.
use Rattle.std.proofs.Common.{◌≡◌, ℕ, List, Option, Some, false}
use Rattle.std.specs.Prelude.{Result}
use Rattle.std.specs.Str.{bytes_eq}
use Rattle.bt_base.specs.declared.fail.Fail.{Fail}
use Rattle.bt_times.specs.declared.fault.TimeFault.{TimeFault}
use Rattle.bt_times.specs.Durations.{read_duration, no_limit, span_shown, duration_of}

pub of_span : (text parts : List ℕ) (r : Result (Option ℕ) (Fail TimeFault)) → bytes_eq text no_limit ≡ false → span_shown text ≡ Some parts → r ≡ duration_of (Some parts) → r ≡ read_duration text
unfolding read_duration
of_span text parts r other shown h = rw (other, shown) h
