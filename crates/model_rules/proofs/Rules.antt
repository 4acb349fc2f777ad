-- What each due rule keeps, and how it is put together: which rows a rule comes from, and the first of several rules.
use Rattle.std.proofs.Common.{◌≡◌, ℕ, Bool, true, false, List, [], ◌∷◌, Option, Some, None, find, is_some, option_map, option_and_then, ◌⊎◌}
use Rattle.std.proofs.Common.{inl, inr, refl}
use Rattle.bt_base.proofs.Turns.{lex_lt}
use Rattle.batch_model.specs.Finding.{or_else, first_of, find_map, only_if}
use Rattle.batch_model.specs.Steps.{DueStep}
use Rattle.batch_model.specs.Variants.{State}
use Rattle.batch_model.specs.Sound.{IsSound}
use Rattle.batch_model.specs.Measure.{rank}
use Rattle.batch_model.specs.Laws.{PlacesWithinSlots, EndsAtRest, ReleasesOnce}

-- the tables after the step are sound, its rank is lower, if it places a task, then within free slots, if it ends a job,
-- then one without placed tasks and unended runs, and if it makes a release run, then the first one of a prepared node
pub record IsDueKept (seats : ℕ) (s : State) (step : DueStep) : Type 0 where
  pub sound : IsSound seats step.state
  pub falls : lex_lt (rank step.state) (rank s) ≡ true
  pub places : PlacesWithinSlots s step.due step.state
  pub ends : EndsAtRest s step.due
  pub releases : ReleasesOnce s step.due

module _ {A B : Type 0} where
  -- a value made of another, which there is
  pub from_map : (f : A → B) (o : Option A) (y : B) → option_map f o ≡ Some y → (x : A) × (f x ≡ y) × (o ≡ Some x)
  from_map f None y h = cc
  from_map f (Some x) y h = (x, cc, refl)

  -- a value that another gives, where there is one
  pub from_then : (f : A → Option B) (o : Option A) (y : B) → option_and_then f o ≡ Some y → (x : A) × (f x ≡ Some y) × (o ≡ Some x)
  from_then f None y h = cc
  from_then f (Some x) y h = (x, h, refl)

module _ {A : Type 0} where
  -- the first that there is, of two
  pub from_else : (a b : Option A) (y : A) → or_else a b ≡ Some y → (a ≡ Some y) ⊎ (b ≡ Some y)
  from_else None b y h = inr h
  from_else (Some a) b y h = inl h

  -- a value under a condition
  pub from_only_if : (b : Bool) (o : Option A) (y : A) → only_if b o ≡ Some y → (b ≡ true) × (o ≡ Some y)
  from_only_if true o y h = (refl, h)
  from_only_if false o y h = cc

module _ {A Q : Type 0} where
  -- the first row that gives something, and what it gives
  abbrev First : (Q → Option A) → List Q → A → Type 0
  First give rows y = (x : Q) × (give x ≡ Some y) × (find (λ row. is_some (give row)) rows ≡ Some x)

  first_cons : (give : Q → Option A) (x : Q) (rows : List Q) (y : A) (o : Option A) → give x ≡ o → or_else o (find_map give rows) ≡ Some y
      → (find_map give rows ≡ Some y → First give rows y) → First give (x ∷ rows) y
  first_cons give x rows y None e h ih =
      let later = ih h in (later.0, later.1, rw e later.2)
  first_cons give x rows y (Some z) e h ih = let is : give x ≡ Some y = cc in (x, is, rw is refl)

  -- what the first row gives that gives something
  pub from_first : (give : Q → Option A) (rows : List Q) (y : A) → find_map give rows ≡ Some y → First give rows y
  from_first give [] y h = cc
  from_first give (x ∷ rows) y h = first_cons give x rows y (give x) refl h (from_first give rows y)

module _ {A : Type 0} (Q : A → Type 0) where
  -- what each of these gives is so
  abbrev pub AllGive : List (Option A) → Type 0
  AllGive [] = Unit {0}
  AllGive (one ∷ others) = ((y : A) → one ≡ Some y → Q y) × AllGive others

  -- so is the first that there is
  pub first_gives : (options : List (Option A)) → AllGive options → (y : A) → first_of options ≡ Some y → Q y
  first_gives [] all y e = cc
  first_gives (None ∷ others) all y e = first_gives others all.1 y e
  first_gives (Some one ∷ others) all y e = all.0 y e
