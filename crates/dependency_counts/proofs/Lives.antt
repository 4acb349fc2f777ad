-- Live tasks as rows of tables.
use Rattle.std.proofs.Common.{◌≡◌, Bool, true, false, ◌||◌, List, [], ◌∷◌, map, refl, ap}
use Rattle.std.specs.List.{list_any}
use Rattle.batch_model.specs.Variants.{TaskRow}
use Rattle.batch_model.specs.Readiness.{satisfies_others}
use Rattle.dependency_counts.specs.Counts.{Live, counted}

-- a task counts as satisfying exactly if it was said to
pub satisfies_counted : (live : Live) → satisfies_others (counted live) ≡ live.satisfies
satisfies_counted live = by_cases live live.satisfies refl
  where
    by_cases : (live : Live) (b : Bool) → live.satisfies ≡ b → satisfies_others (counted live) ≡ live.satisfies
    by_cases live true e = rw e refl
    by_cases live false e = rw e refl

-- a test of rows, over live tasks
pub any_counted : (p : TaskRow → Bool) (lives : List Live) → list_any p (map counted lives) ≡ list_any (λ live. p (counted live)) lives
any_counted p [] = refl
any_counted p (live ∷ lives) = ap (λ b. p (counted live) || b) (any_counted p lives)
