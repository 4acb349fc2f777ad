-- A clock over a list of moments.
use Rattle.std.specs.Prelude.{◌≡◌, ◌-◌, ◌||◌, ℕ, List, [], ◌∷◌, Bool, not, nat_eq}

-- the moments that it will give, of which the last comes again and again; its pauses before the one that says that the service
-- is to end; and whether that has come
pub record ListClock : Type 0 where
  pub moments : List ℕ
  pub pauses : ℕ
  pub ended : Bool

-- the next moment; 0 if there is none
abbrev pub next_moment : List ℕ → ℕ
next_moment [] = 0
next_moment (moment ∷ moments) = moment

-- the moments after it
abbrev pub later_moments : List ℕ → List ℕ
later_moments [] = []
later_moments (moment ∷ []) = moment ∷ []
later_moments (moment ∷ next ∷ moments) = next ∷ moments

-- the clock gives the next moment
pub record GivesNext (old : ListClock) (moment : ℕ) (new : ListClock) : Type 0 where
  pub next : moment ≡ next_moment old.moments
  pub later : new.moments ≡ later_moments old.moments
  pub same_pauses : new.pauses ≡ old.pauses
  pub same_end : new.ended ≡ old.ended

-- a pause returns true while the clock has pauses left, and then has one fewer; else it returns false, and the clock has ended
pub record Pauses (old : ListClock) (goes_on : Bool) (new : ListClock) : Type 0 where
  pub same_moments : new.moments ≡ old.moments
  pub returned : goes_on ≡ not (nat_eq old.pauses 0)
  pub left : new.pauses ≡ old.pauses - 1
  pub ended : new.ended ≡ (old.ended || nat_eq old.pauses 0)
