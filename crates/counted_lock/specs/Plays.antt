-- What each kind of step tells the seat that makes it. `me` is its view before the step and the slots that it carries, `after` the
-- same after the step, and `found` the word that the step found.
use Rattle.std.specs.Prelude.{◌≡◌, ◌≢◌, ℕ, ◌≤◌, ◌<◌, true, List, [], ◌∷◌, ◌++◌, map, length, Option, Some}
use mathlib.Core.List.{IsPrefix}
use Rattle.atomic_table.specs.Table.{Me}
use Rattle.counted_lock.specs.declared.views.Stage.TheVariants.{Free, Turn, Fresh, Holding}
use Rattle.counted_lock.specs.declared.views.Stamped.{Stamped}
use Rattle.counted_lock.specs.declared.views.View.{View}
use Rattle.counted_lock.specs.Views.{places_of, unnumbered, entry_of, stamped, staged, with_seen, with_spare, as_sole, times_in, longer, caught_up}

module _ {S E O : Type 0} (me : Me S (View E O)) (found : ℕ) (after : Me S (View E O)) where
  -- a swap of 1 into the gate: if the word was 0, the seat has the turn. It was 0 if the seat is known to stand for all passes
  pub record TurnTaken : Type 0 where
    pub carried : after.1 ≡ me.1
    pub taken : found ≡ 0 → after.0 ≡ staged Turn me.0
    pub busy : found ≢ 0 → after.0 ≡ me.0
    pub alone : me.0.sole ≡ true → found ≡ 0

  -- a load of the count in the turn: the seat has then seen the whole history, in which it has no entries that it had not seen,
  -- and which has no others without a number
  pub record Looked : Type 0 where
    pub history : List (Stamped E)
    pub carried : after.1 ≡ me.1
    pub view : after.0 ≡ with_seen Fresh history me.0
    pub begins : IsPrefix me.0.seen history
    pub placed : (n : ℕ) → me.0.number ≡ Some n → places_of n history ≡ places_of n me.0.seen
    pub opened : (x : O) → me.0.origin ≡ Some x → unnumbered history ≡ unnumbered me.0.seen
    pub counted : found ≡ length history

  -- a store of 0 into the gate: the seat does not have the turn any more
  pub record Released : Type 0 where
    pub carried : after.1 ≡ []
    pub view : after.0 ≡ staged Free me.0

  -- a load after the object was exchanged back: the seat does not hold the slot any more
  pub record GivenBack : Type 0 where
    pub carried : after.1 ≡ []
    pub view : after.0 ≡ staged Fresh me.0

  -- a compare-exchange on the passes made, from a number to the next: if it went through, that number is for a new pass. It is above the
  -- seat's own, and what the seat has seen has no entries under it
  pub record Numbered (old : ℕ) : Type 0 where
    pub carried : after.1 ≡ me.1
    pub made : found ≡ old → after.0 ≡ with_spare old me.0
    pub missed : found ≢ old → after.0 ≡ me.0
    pub above : found ≡ old → (n : ℕ) → me.0.number ≡ Some n → n < old
    pub unused : found ≡ old → places_of old me.0.seen ≡ []

  -- a load of the count outside of a turn: what a note has brought is seen. Of what was seen and what was brought, one is a prefix of
  -- the other, and the longer one stays. No number is twice in the parts of the seat
  pub record CaughtUp : Type 0 where
    pub carried : after.1 ≡ me.1
    pub view : after.0 ≡ caught_up me.0
    pub begins : IsPrefix me.0.seen (longer me.0.seen me.0.told)
    pub heard : IsPrefix me.0.told (longer me.0.seen me.0.told)
    pub placed : (n : ℕ) → me.0.number ≡ Some n → places_of n (longer me.0.seen me.0.told) ≡ places_of n me.0.seen
    pub opened : (x : O) → me.0.origin ≡ Some x → unnumbered (longer me.0.seen me.0.told) ≡ unnumbered me.0.seen
    pub distinct : (n : ℕ) → times_in n me.0.parts ≤ 1

  -- a load of the passes made: whether the seat stands for all of them
  pub record Counted : Type 0 where
    pub carried : after.1 ≡ me.1
    pub some : 0 < found
    pub within : length me.0.parts ≤ found
    pub all : found ≡ length me.0.parts → after.0 ≡ as_sole me.0
    pub fewer : found ≢ length me.0.parts → after.0 ≡ me.0

module _ {D E O : Type 0} (entries : D → List E) (origin : D → O) (me : Me (Option D) (View E O)) (found : ℕ) (after : Me (Option D) (View E O)) where
  -- a load before the object is exchanged for nothing: the seat holds the slot. The journal of the object is the history
  pub record SlotTaken : Type 0 where
    pub object : D
    pub carried : after.1 ≡ (0, Some object) ∷ []
    pub view : after.0 ≡ staged Holding me.0
    pub journal : entries object ≡ map entry_of me.0.seen
    pub same_origin : (x : O) → me.0.origin ≡ Some x → origin object ≡ x

  -- an add to the count: the entry that the object's journal has more than the history is added to the history, under the number of the
  -- pass. The object is the one in the slot that the seat carries
  pub record Entered : Type 0 where
    pub carried : after.1 ≡ me.1
    pub view : (d : D) (e : E) → me.1 ≡ (0, Some d) ∷ [] → entries d ≡ map entry_of me.0.seen ++ e ∷ []
        → after.0 ≡ with_seen Holding (me.0.seen ++ stamped me.0.number e ∷ []) me.0
