use Rattle.std.proofs.Common.{◌≡◌, ◌∙◌, ◌*◌, ◌+◌, arith}
use Rattle.std.specs.Prelude.{pos}
use Rattle.std.specs.Int.RustNames.{unsigned_abs}
use Rattle.std.proofs.lemmas.Int.{ints}
use Rattle.jiff_core.specs.Date.{weekday_of}
use Rattle.jiff_core.specs.DateTime.{civil_nanos}
use Rattle.bt_times.proofs.CivilSteps.{civil_is}
use Rattle.bt_times.proofs.civils.civil.Goals as goal

pub returns : goal.returns
returns c =
    let shown = c.from_nanosecond_in_range-shown.result in
    let nanos : civil_nanos shown ≡ pos (100 * unsigned_abs c.args.t) = c.from_nanosecond_in_range-shown.ensures ∙ omega (arith, ints) in
    let weekday : c.from-5.result ≡ weekday_of shown.date + 1 = omega (arith, ints) in
    let year : c.from-2.result ≡ unsigned_abs shown.date.year = omega (arith, ints) in
    rw (year, c.from-3.ensures, c.from-4.ensures, c.from-6.ensures, c.from-7.ensures, c.from-8.ensures)
    (civil_is shown (unsigned_abs c.args.t) c.from-5.result nanos weekday)
