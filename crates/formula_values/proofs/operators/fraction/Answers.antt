use Rattle.std.proofs.Common.{◌≡◌, arith, w64, ◌∙◌, ◌^◌, ◌≤◌, ◌*◌, mul-le-mul}
use Rattle.std.specs.Int.{w128}
use Rattle.std.specs.Prelude.{◌*ℤ◌}
use Rattle.std.specs.Int.RustNames.{FitsSigned, unsigned_abs, int_div}
use Rattle.std.proofs.lemmas.Int.{unsigned_abs-mul, fits_signed_from_abs, quot_is, to_z-of_z, ints}
use Rattle.formula_values.proofs.Fractions.{fraction_abs}
use Rattle.formula_values.proofs.operators.fraction.Goals as goal

pub returns : goal.returns
returns c =
    let fa : FitsSigned w64 c.args.a = c.ranges.a in
    let fb : FitsSigned w64 c.args.b = c.ranges.b in
    let fu : FitsSigned w64 c.args.under = c.ranges.under in
    let wa : FitsSigned w128 c.args.a = omega (arith, ints) in
    let wb : FitsSigned w128 c.args.b = omega (arith, ints) in
    let wu : FitsSigned w128 c.args.under = omega (arith, ints) in
    let near : unsigned_abs c.args.a ≤ 2 ^ 63 = omega (arith, ints) in
    let far : unsigned_abs c.args.b ≤ 2 ^ 63 = omega (arith, ints) in
    let both : unsigned_abs c.args.a * unsigned_abs c.args.b ≤ 2 ^ 63 * 2 ^ 63 = mul-le-mul near far in
    let product : unsigned_abs (c.args.a *ℤ c.args.b) ≤ 2 ^ 126 = rw (unsigned_abs-mul c.args.a c.args.b) (omega arith) in
    let wp : FitsSigned w128 (c.args.a *ℤ c.args.b) = fits_signed_from_abs w128 _ (omega arith) in
    let wq : FitsSigned w128 (int_div (c.args.a *ℤ c.args.b) c.args.under) =
    fits_signed_from_abs w128 _ (omega (arith, fraction_abs (c.args.a *ℤ c.args.b) c.args.under, product)) in
    let a : c.from.result ≡ c.args.a = c.from.ensures ∙ to_z-of_z w64 c.args.a fa in
    let b : c.from-2.result ≡ c.args.b = c.from-2.ensures ∙ to_z-of_z w64 c.args.b fb in
    let u : c.from-3.result ≡ c.args.under = c.from-3.ensures ∙ to_z-of_z w64 c.args.under fu in
    rw (a, b, u, to_z-of_z w128 c.args.a wa, to_z-of_z w128 c.args.b wb) (quot_is w128 (c.args.a *ℤ c.args.b) c.args.under wp wu wq)
