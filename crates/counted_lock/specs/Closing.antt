-- How the passes are gathered when a lock is closed.
use Rattle.std.specs.Prelude.{◌≡◌, ℕ, ◌<◌, ◌≤◌, List, [], ◌∷◌, ◌++◌, map, length, slice_index_or, All, Some}
use mathlib.Core.List.{IsPrefix}
use Rattle.atomic_table.specs.Table.{Me}
use Rattle.atomic_table.specs.Seated.{TableId}
use Rattle.counted_lock.specs.declared.views.Stage.TheVariants.{Free}
use Rattle.counted_lock.specs.declared.views.Stamped.{Stamped}
use Rattle.counted_lock.specs.declared.views.View.{View}
use Rattle.counted_lock.specs.Views.{places_of, unnumbered, entry_of, times_in}
use Rattle.counted_lock.specs.Passes.{PassState, numbers_of, lent}

module _ {S E O : Type 0} where
  -- a seat that gathers the parts of passes: it does not have the turn, and carries no slot
  pub record IsGatherer (me : Me S (View E O)) : Type 0 where
    pub free : me.0.stage ≡ Free
    pub carries : me.1 ≡ []

  -- a pass has lent its part to the seat, which has then seen what the pass has seen, and has no number twice in its parts
  pub record Lends (p : PassState E O) (me after : Me S (View E O)) : Type 0 where
    pub gatherer : IsGatherer after
    pub more : after.0.parts ≡ me.0.parts ++ p.number ∷ []
    pub kept : IsPrefix me.0.seen after.0.seen
    pub heard : IsPrefix p.seen after.0.seen
    pub distinct : (n : ℕ) → times_in n after.0.parts ≤ 1

module _ {E O : Type 0} where
  -- a pass of the lock with this table, which stands for itself alone
  pub record IsAt (t : TableId) (p : PassState E O) : Type 0 where
    pub table : p.table ≡ t
    pub real : (o : O) × (p.origin ≡ Some o)
    pub part : p.parts ≡ p.number ∷ []

  -- a pass of the lock with this table, which has lent its part
  pub record IsLentAt (t : TableId) (p : PassState E O) : Type 0 where
    pub table : p.table ≡ t
    pub real : (o : O) × (p.origin ≡ Some o)
    pub part : p.parts ≡ []

  -- the pass with its own number as its part
  abbrev pub whole : PassState E O → PassState E O
  whole p = record { table = p.table; number = p.number; origin = p.origin; seen = p.seen; parts = p.number ∷ [] }

  -- the pass is what it was before it lent its part
  abbrev pub TakesPart : PassState E O → PassState E O → Type 0
  TakesPart p q = q ≡ whole p

  -- each pass of a list has lent its part
  pub record AreLent (ps qs : List (PassState E O)) : Type 0 where
    pub count : length qs ≡ length ps
    pub each : (k : ℕ) (d : PassState E O) → k < length ps → slice_index_or qs k d ≡ lent (slice_index_or ps k d)

  -- each pass of a list has its part again
  pub record AreBack (ps qs : List (PassState E O)) : Type 0 where
    pub count : length qs ≡ length ps
    pub each : (k : ℕ) (d : PassState E O) → k < length ps → slice_index_or qs k d ≡ whole (slice_index_or ps k d)

-- What `close` returns: the journal of the object is the history without numbers. The history begins with what each of the passes has
-- seen. Under the number of a pass it has no entry that this pass has not seen, and without a number none but those that each of them has
-- seen. No two of the passes have the same number, and the history has no entries under any other number.
pub record IsShared {D E O : Type 0} (entries : D → List E) (object : D) (ps : List (PassState E O)) : Type 0 where
  pub history : List (Stamped E)
  pub journal : entries object ≡ map entry_of history
  pub seen : All (λ p. IsPrefix p.seen history) ps
  pub placed : All (λ p. places_of p.number history ≡ places_of p.number p.seen) ps
  pub opened : All (λ p. unnumbered history ≡ unnumbered p.seen) ps
  pub distinct : (n : ℕ) → times_in n (numbers_of ps) ≤ 1
  pub others : (n : ℕ) → times_in n (numbers_of ps) ≡ 0 → places_of n history ≡ []
