-- Years and months counted off from the days that are over.
use Rattle.std.proofs.Common.{◌≡◌, ◌≢◌, ℕ, zero, suc, ◌+◌, ◌-◌, ◌*◌, ◌/◌, ◌%◌, ◌<◌, ◌≤◌, Bool, true, false, cond, refl, ap, ◌∙◌, arith}
use Rattle.std.specs.Prelude.{ℤ, pos, ◌≤ℤ◌, nat_lt}
use Rattle.std.specs.Int.RustNames.{unsigned_abs}
use Rattle.std.proofs.lemmas.Int.{ints, by_lt_z}
use Rattle.std.proofs.lemmas.Grind.{common_steps}
use Rattle.jiff_core.specs.Calendar.{IsCivilDate, days_in_year, days_in_month, days_of_months, day_of_year, day_count, days_from_civil, weekday_number}
use Rattle.jiff_core.proofs.CalendarLemmas.{day_count-day_of_year, day_count-next_year, day_count-year_is, day_of_year_bound, day_count-lt_year, days_of_months_mono, days_of_months_more, days_of_months-zero, days_from_civil-day_count, day_count-epoch}
use Rattle.jiff_core.specs.Date.{epoch_day, weekday_of}
use Rattle.jiff_core.specs.DateTime.{civil_nanos}
use Rattle.jiff_core.specs.declared.civil.datetime.DateTime.{DateTime}
use Rattle.jiff_core.proofs.DateLemmas.{civil}
use Rattle.jiff_core.proofs.DateTimeLemmas.{civil_nanos-parts, time_nanos_bound}
use Rattle.jiff_core.proofs.SignedLemmas.{signed_arith}
use Rattle.bt_times.specs.Civils.{year_after, month_after, civil_at, civil_of}

below_from_test : (a b : ℕ) → nat_lt a b ≡ true → a < b
below_from_test a b h = grind (arith, common_steps)

above_from_test : (a b : ℕ) → nat_lt a b ≡ false → b ≤ a
above_from_test a b h = grind (arith, common_steps)

pairs_same : (a b c d : ℕ) → a ≡ c → b ≡ d → ◌≡◌ {A = ℕ × ℕ} (a, b) (c, d)
pairs_same a b c d p q = cc

not_below : (a b : ℕ) → a ≤ b → (a < b → ⊥) → a ≡ b
not_below a b le h = omega arith

-- what is left of the days once the years are counted off is the place of the day in its year
here : (from y : ℕ) (m d days : ℕ) → IsCivilDate (pos y) m d → from ≡ y → day_count (pos y) m d ≡ day_count (pos from) 1 1 + days → ◌≡◌ {A = ℕ × ℕ} (from, days) (y, day_of_year (pos y) m d - 1)
here from y m d days date same e =
    let first : day_count (pos from) 1 1 ≡ day_count (pos y) 1 1 = ap (λ (n : ℕ). day_count (pos n) 1 1) same in
    let left : days ≡ day_of_year (pos y) m d - 1 = omega (arith, day_count-day_of_year (pos y) m d date.2.0, first) in
    pairs_same from days y (day_of_year (pos y) m d - 1) same left

-- a year more, or this one
year_step : (more from days y m d : ℕ) → IsCivilDate (pos y) m d → from ≤ y → from ≤ 9999 → day_count (pos y) m d ≡ day_count (pos from) 1 1 + days
    → (from < y → days_in_year (pos from) ≤ days → year_after more (from + 1) (days - days_in_year (pos from)) ≡ (y, day_of_year (pos y) m d - 1))
    → year_after (suc more) from days ≡ (y, day_of_year (pos y) m d - 1)
unfolding year_after
year_step more from days y m d date low year e next = by_test (nat_lt days (days_in_year (pos from))) refl
  where
    by_test : (b : Bool) → nat_lt days (days_in_year (pos from)) ≡ b → cond b (from, days) (year_after more (from + 1) (days - days_in_year (pos from))) ≡ (y, day_of_year (pos y) m d - 1)
    by_test true h =
        let under = below_from_test days (days_in_year (pos from)) h in
        let this : pos y ≡ pos from = day_count-year_is (pos from) (pos y) m d (omega (arith, ints)) date (omega arith) (omega arith) in
        here from y m d days date (omega (arith, ints)) e
    by_test false h =
        let over = above_from_test days (days_in_year (pos from)) h in
        let later : from ≢ y = λ same.
        let first : day_count (pos from) 1 1 ≡ day_count (pos y) 1 1 = ap (λ (n : ℕ). day_count (pos n) 1 1) same in
        let long : days_in_year (pos from) ≡ days_in_year (pos y) = ap (λ (n : ℕ). days_in_year (pos n)) same in
        omega (arith, day_count-day_of_year (pos y) m d date.2.0, first, long, day_of_year_bound (pos y) m d date) in
        next (omega arith) over

pub year_is : (more from days y m d : ℕ) → IsCivilDate (pos y) m d → from ≤ y → y ≤ from + more → y ≤ 9999 → day_count (pos y) m d ≡ day_count (pos from) 1 1 + days → year_after more from days ≡ (y, day_of_year (pos y) m d - 1)
unfolding year_after
year_is zero from days y m d date low high year e = here from y m d days date (omega arith) e
year_is (suc more) from days y m d date low high year e =
    year_step more from days y m d date low (omega arith) e
    (λ less over. year_is more (from + 1) (days - days_in_year (pos from)) y m d date (omega arith) (omega arith) year
    (omega (arith, day_count-next_year (pos from) (pos (from + 1)) (omega (arith, ints)) (omega (arith, ints)), over)))

not_later : (y : ℤ) (from days m d : ℕ) → 1 ≤ from → 1 ≤ d → day_of_year y m d ≡ days_of_months y (from - 1) + days + 1 → days < days_in_month y from → from < m → ⊥
not_later y from days m d first day e under less =
    omega (arith, days_of_months_more y from first, days_of_months_mono y from (m - 1) (omega arith))

this_month : (y : ℤ) (from days m d : ℕ) → from ≡ m → day_of_year y m d ≡ days_of_months y (from - 1) + days + 1 → days + 1 ≡ d
this_month y from days m d same e = omega (arith, ap (λ (n : ℕ). days_of_months y (n - 1)) same)

-- a month more, or this one
month_step : (more : ℕ) (y : ℤ) (from days m d : ℕ) → 1 ≤ from → from ≤ m → 1 ≤ d → d ≤ days_in_month y m → day_of_year y m d ≡ days_of_months y (from - 1) + days + 1
    → (from < m → days_in_month y from ≤ days → month_after more y (from + 1) (days - days_in_month y from) ≡ (m, d))
    → month_after (suc more) y from days ≡ (m, d)
unfolding month_after
month_step more y from days m d first low day last e next = by_test (nat_lt days (days_in_month y from)) refl
  where
    by_test : (b : Bool) → nat_lt days (days_in_month y from) ≡ b → cond b (from, days + 1) (month_after more y (from + 1) (days - days_in_month y from)) ≡ (m, d)
    by_test true h =
        let same = not_below from m low (not_later y from days m d first day e (below_from_test days (days_in_month y from) h)) in
        pairs_same from (days + 1) m d same (this_month y from days m d same e)
    by_test false h =
        let over = above_from_test days (days_in_month y from) h in
        let later : from ≢ m = λ same.
        let long : days_in_month y from ≡ days_in_month y m = ap (days_in_month y) same in
        omega (arith, this_month y from days m d same e, long) in
        next (omega arith) over

pub month_is : (more : ℕ) (y : ℤ) (from days m d : ℕ) → 1 ≤ from → from ≤ m → m ≤ from + more → 1 ≤ d → d ≤ days_in_month y m → day_of_year y m d ≡ days_of_months y (from - 1) + days + 1 → month_after more y from days ≡ (m, d)
unfolding month_after
month_is zero y from days m d first low high day last e =
    let same : from ≡ m = omega arith in
    pairs_same from (days + 1) m d same (this_month y from days m d same e)
month_is (suc more) y from days m d first low high day last e =
    month_step more y from days m d first low day last e
    (λ less over. month_is more y (from + 1) (days - days_in_month y from) m d (omega arith) (omega arith) (omega arith) day last
    (let same : from + 1 - 1 ≡ from = omega arith in omega (arith, days_of_months_more y from first, ap (days_of_months y) same, over)))

-- the parts of a date and of a time
pub parts_are : (y m d days seconds weekday hour minute second : ℕ) → IsCivilDate (pos y) m d → 1970 ≤ y → y ≤ 9999 → days_from_civil (pos y) m d ≡ pos days → seconds ≡ hour * 3600 + minute * 60 + second → minute < 60 → second < 60 → weekday ≡ weekday_number (pos days) + 1
    → record { year = y; month = m; day = d; weekday = weekday; hour = hour; minute = minute; second = second } ≡ civil_at days seconds
unfolding civil_at
parts_are y m d days seconds weekday hour minute second date low high e time below under week =
    let count : day_count (pos y) m d ≡ day_count (pos 1970) 1 1 + days =
    omega (arith, signed_arith, days_from_civil-day_count (pos y) m d, day_count-epoch, e) in
    let past = day_of_year (pos y) m d - 1 in
    let year : year_after 8029 1970 days ≡ (y, past) = year_is 8029 1970 days y m d date low (omega arith) high count in
    let month : month_after 11 (pos y) 1 past ≡ (m, d) =
    month_is 11 (pos y) 1 past m d (omega arith) date.1.0 (omega arith) date.2.0 date.2.1 (omega (arith, days_of_months-zero (pos y))) in
    let hours : hour ≡ seconds / 3600 = omega arith in
    let minutes : minute ≡ seconds / 60 % 60 = omega arith in
    let rest : second ≡ seconds % 60 = omega arith in
    rw (year, month) (cc)

-- the parts of the datetime that many units of 100 ns after 1970 began
pub civil_is : (dt : DateTime) (t weekday : ℕ) → civil_nanos dt ≡ pos (100 * t) → weekday ≡ weekday_of dt.date + 1
    → record { year = unsigned_abs dt.date.year; month = dt.date.month; day = dt.date.day; weekday = weekday; hour = dt.time.hour; minute = dt.time.minute; second = dt.time.second } ≡ civil_of t
civil_is dt t weekday nanos week =
    let y = unsigned_abs dt.date.year in
    let days = t / 10000000 / 86400 in
    let day : epoch_day dt.date ≡ pos days = omega (arith, signed_arith, civil_nanos-parts dt, time_nanos_bound dt.time) in
    let seconds : t / 10000000 % 86400 ≡ dt.time.hour * 3600 + dt.time.minute * 60 + dt.time.second =
    omega (arith, signed_arith, civil_nanos-parts dt, time_nanos_bound dt.time) in
    let date = civil dt.date in
    let since : pos 1970 ≤ℤ dt.date.year =
    by_lt_z dt.date.year (pos 1970)
    (λ before. absurd (omega (arith, signed_arith, day_count-lt_year dt.date.year dt.date.month dt.date.day (pos 1970) 1 1 date (omega arith) before, days_from_civil-day_count dt.date.year dt.date.month dt.date.day, day_count-epoch, day)))
    (λ after. after) in
    let year : dt.date.year ≡ pos y = omega (arith, ints) in
    let here : IsCivilDate (pos y) dt.date.month dt.date.day = rw year at date in
    let that : days_from_civil (pos y) dt.date.month dt.date.day ≡ pos days = rw year at day in
    parts_are y dt.date.month dt.date.day days (t / 10000000 % 86400) weekday dt.time.hour dt.time.minute dt.time.second here (omega (arith, ints)) (omega (arith, ints, here.0)) that seconds dt.time.minute_in dt.time.second_in (week ∙ ap (λ (n : ℤ). weekday_number n + 1) day)
