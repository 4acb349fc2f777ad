-- What the first pass has seen.
use Rattle.std.proofs.Common.{◌≡◌, ℕ, ◌+◌, List, [], ◌∷◌, map, refl, ap}
use Rattle.std.specs.Prelude.{None}
use Rattle.counted_lock.specs.Views.{places_from, unnumbered, stamped}

-- entries without numbers are themselves
pub all_unnumbered : {E : Type 0} (es : List E) → unnumbered (map (stamped None) es) ≡ es
all_unnumbered [] = refl
all_unnumbered (e ∷ es) = ap (λ z. e ∷ z) (all_unnumbered es)

-- they have no places
pub no_places : {E : Type 0} (k n : ℕ) (es : List E) → places_from k n (map (stamped None) es) ≡ []
no_places k n [] = refl
no_places k n (e ∷ es) = no_places (k + 1) n es
