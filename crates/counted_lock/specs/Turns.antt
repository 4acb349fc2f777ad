-- What the functions do that make the steps. `me` is the view of a seat and the slots that it carries, `after` the same afterwards.
use Rattle.std.specs.Prelude.{◌≡◌, ℕ, ◌<◌, ◌≤◌, ◌^◌, false, List, [], ◌∷◌, ◌++◌, map, length, Option, Some, None}
use mathlib.Core.List.{IsPrefix}
use mathlib.Core.Option.{some}
use lib.ListN.{get_elem?}
use Rattle.atomic_table.specs.Table.{Me}
use Rattle.atomic_table.specs.Seated.{TableId}
use Rattle.atomic_table.specs.declared.shared.Shared.{Shared}
use Rattle.counted_lock.specs.declared.views.Stage.TheVariants.{Fresh, Holding}
use Rattle.counted_lock.specs.declared.views.Stamped.{Stamped}
use Rattle.counted_lock.specs.declared.views.View.{View}
use Rattle.counted_lock.specs.Views.{places_of, unnumbered, entry_of, stamped, staged, with_seen, with_spare, times_in, longer}

-- the table `t` has three words and one slot, and `z` is the same table
abbrev pub IsTable : TableId → TableId → Type 0
IsTable t z = (z ≡ t) × (t.words ≡ 3) × (t.slots ≡ 1)

module _ {S V K P : Type 0} where
  -- the same of a table as threads share it, and of the table of a seat
  abbrev pub IsBoard : Shared S V K P → TableId → Type 0
  IsBoard b z = IsTable b.table_id z

module _ {E O : Type 0} where
  -- the view has a number
  abbrev pub IsNumbered : View E O → Type 0
  IsNumbered v = (n : ℕ) × (v.number ≡ Some n)

  -- the view knows the origin of the object
  abbrev pub HasOrigin : View E O → Type 0
  HasOrigin v = (o : O) × (v.origin ≡ Some o)

-- the seat has seen a whole history, in which the pass has no entries that it had not seen, and which has no others without a number
pub record SeesWhole {S E O : Type 0} (me after : Me S (View E O)) : Type 0 where
  pub history : List (Stamped E)
  pub carried : after.1 ≡ me.1
  pub view : after.0 ≡ with_seen Fresh history me.0
  pub begins : IsPrefix me.0.seen history
  pub placed : (n : ℕ) → me.0.number ≡ Some n → places_of n history ≡ places_of n me.0.seen
  pub opened : (x : O) → me.0.origin ≡ Some x → unnumbered history ≡ unnumbered me.0.seen

module _ {D E O : Type 0} (entries : D → List E) (origin : D → O) where
  -- the object is out, and the seat holds the empty slot. The journal of the object is what the seat has seen
  pub record OutWith (me after : Me (Option D) (View E O)) (object : D) : Type 0 where
    pub view : after ≡ (staged Holding me.0, (0, None) ∷ [])
    pub journal : entries object ≡ map entry_of me.0.seen
    pub same_origin : (x : O) → me.0.origin ≡ Some x → origin object ≡ x

module _ {D E O : Type 0} (entries : D → List E) where
  -- the journal of the object in the slot has one entry more than the seat has seen, and fewer than 2^64
  abbrev pub EntersOne : Me (Option D) (View E O) → Type 0
  EntersOne me = (d : D) × (e : E) × (me.1 ≡ (0, Some d) ∷ []) × (entries d ≡ map entry_of me.0.seen ++ e ∷ []) × (length (entries d) < 2 ^ 64)

  -- then that entry is seen, under the number of the pass
  abbrev pub HasEntered : Me (Option D) (View E O) → Me (Option D) (View E O) → Type 0
  HasEntered me after = (after.1 ≡ me.1) × ((d : D) (e : E) → me.1 ≡ (0, Some d) ∷ [] → entries d ≡ map entry_of me.0.seen ++ e ∷ []
      → after.0 ≡ with_seen Holding (me.0.seen ++ stamped me.0.number e ∷ []) me.0)

  -- the object is in the slot that the seat holds. Its journal is what the seat has seen, and its origin the one that the seat knows
  abbrev pub IsBack : (D → O) → Me (Option D) (View E O) → Type 0
  IsBack origin me = (d : D) × (me.1 ≡ (0, Some d) ∷ []) × (entries d ≡ map entry_of me.0.seen) × ((x : O) → me.0.origin ≡ Some x → origin d ≡ x)
      × ((o : O) × (me.0.origin ≡ Some o))

  -- the object is in the slot that the seat holds, and the one entry that its journal had more is seen, under the number of the pass
  pub record SeesMore (v : View E O) (after : Me (Option D) (View E O)) (object : D) : Type 0 where
    pub entry : E
    pub journal : entries object ≡ map entry_of v.seen ++ entry ∷ []
    pub view : after ≡ (with_seen Holding (v.seen ++ stamped v.number entry ∷ []) v, (0, Some object) ∷ [])

  -- The object is in the slot. Its journal is what the view has seen, which has entries under the numbers in the parts of the view alone.
  -- No two of these are the same
  pub record Leaves (origin : D → O) (o : O) (v : View E O) (slots : List (Option D)) : Type 0 where
    pub object : D
    pub there : get_elem? slots 0 ≡ some (Some object)
    pub journal : entries object ≡ map entry_of v.seen
    pub same_origin : origin object ≡ o
    pub distinct : (n : ℕ) → times_in n v.parts ≤ 1
    pub others : (n : ℕ) → times_in n v.parts ≡ 0 → places_of n v.seen ≡ []

module _ {S E O : Type 0} where
  -- a number for a new pass was taken, which is above the seat's own and has no entries in what it has seen; or nothing was done
  abbrev pub TakesNumber : Me S (View E O) → Me S (View E O) → Option ℕ → Type 0
  TakesNumber me after (Some n) = (after ≡ (with_spare n me.0, me.1)) × ((m : ℕ) → me.0.number ≡ Some m → m < n) × (places_of n me.0.seen ≡ [])
  TakesNumber me after None = after ≡ me

  -- the seat has seen the longer of what it had seen and of what it was told, which both are prefixes of
  pub record CatchesUp (told : List (Stamped E)) (me after : Me S (View E O)) : Type 0 where
    pub view : after ≡ (
      record {
        number = me.0.number;
        spare = me.0.spare;
        parts = me.0.parts;
        sole = false;
        origin = me.0.origin;
        seen = longer me.0.seen told;
        told = [];
        stage = me.0.stage;
      },
      me.1,
    )
    pub begins : IsPrefix me.0.seen (longer me.0.seen told)
    pub heard : IsPrefix told (longer me.0.seen told)
    pub placed : (n : ℕ) → me.0.number ≡ Some n → places_of n (longer me.0.seen told) ≡ places_of n me.0.seen
    pub opened : (x : O) → me.0.origin ≡ Some x → unnumbered (longer me.0.seen told) ≡ unnumbered me.0.seen

module _ {D E O : Type 0} (entries : D → List E) (origin : D → O) where
  -- the same of the object that was taken out of the slot
  pub record LeavesObject (o : O) (v : View E O) (object : D) : Type 0 where
    pub journal : entries object ≡ map entry_of v.seen
    pub same_origin : origin object ≡ o
    pub distinct : (n : ℕ) → times_in n v.parts ≤ 1
    pub others : (n : ℕ) → times_in n v.parts ≡ 0 → places_of n v.seen ≡ []
