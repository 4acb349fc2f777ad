use Rattle.std.proofs.Common.{◌≡◌, Some, sym, ap, ◌∙◌}
use Rattle.std.specs.Option.{option_map}
use Rattle.jiff_fmt.specs.Units.{signed_magnitudes}
use Rattle.bt_times.specs.Durations.{no_limit, span_shown}
use Rattle.bt_times.proofs.DurationSteps.{of_span}
use Rattle.bt_times.proofs.durations.duration_ms.Goals as goal

pub returns-in-Some-clause-value : goal.returns-in-Some-clause-value
unfolding no_limit
returns-in-Some-clause-value c =
    let shown : span_shown c.args.text.now ≡ Some (signed_magnitudes c.in-Some.span) =
    sym (c.span_shown.ensures ∙ ap span_shown c.as_bytes.ensures.value) ∙ ap (option_map signed_magnitudes) c.in-Some.is in
    of_span c.args.text.now (signed_magnitudes c.in-Some.span) c.duration_of.result (sym c.eq.ensures ∙ c.if-eq.false) shown c.duration_of.ensures.value
