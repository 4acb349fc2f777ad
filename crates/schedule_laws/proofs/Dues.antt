-- The due occurrence is the greatest one at or before the moment.
use Rattle.std.proofs.Common.{◌≡◌, ℕ, ◌+◌, ◌-◌, ◌*◌, ◌/◌, ◌<◌, ◌≤◌, Bool, true, false, nat_le, Option, Some, None, refl, sym, arith, if◌then◌else◌}
use Rattle.std.proofs.lemmas.Bool.Decides.{nat_tests}
use Rattle.std.proofs.Math.Nat.{div-mul-le_self, le-div_iff_mul-le}
use Rattle.schedule_rows.specs.Occurrences.{passed_intervals, due_at, IsGreatestDue, HasNoDue, IsDue}
use Rattle.schedule_laws.specs.Laws.{IsPositive}

later_than : (first now more : ℕ) → nat_le first now ≡ false → nat_le (first + more) now ≡ false
later_than first now more e = grind (arith, nat_tests)

is_within : (first now : ℕ) → true ≡ nat_le first now → first ≤ now
is_within first now e = grind (arith, nat_tests)

none_due : (first : ℕ) (interval : Option ℕ) (now : ℕ) → nat_le first now ≡ false → HasNoDue first interval now
none_due first None now e j o = e
none_due first (Some i) now e j o = later_than first now (j * i) e

least_is : (j : ℕ) → j ≡ 0 → j ≤ 0
least_is j e = omega (arith, e)

at_most : (i j time : ℕ) → 0 < i → j * i ≤ time → j ≤ time / i
at_most i j time pos le = (le-div_iff_mul-le {k = i} {x = j} {y = time} pos).1 le

greatest : (first : ℕ) (interval : Option ℕ) (now : ℕ) → IsPositive interval → first ≤ now → IsGreatestDue first interval now (passed_intervals interval
    (now - first))
greatest first None now pos le = record { there = refl; due = le; greatest = λ j o h. least_is j o }
greatest first (Some i) now pos le = record {
  there = tt;
  due = omega (arith, le, div-mul-le_self (now - first) i);
  greatest = λ j o h. at_most i j (now - first) pos (omega (arith, h));
}

pub due_is : (first : ℕ) (interval : Option ℕ) (now : ℕ) → IsPositive interval → IsDue first interval now (due_at first interval now)
due_is first interval now pos = by_test (nat_le first now) refl
  where
    by_test : (b : Bool) → b ≡ nat_le first now → IsDue first interval now (if b then Some (passed_intervals interval (now - first)) else None)
    by_test true e = greatest first interval now pos (is_within first now e)
    by_test false e = none_due first interval now (sym e)
