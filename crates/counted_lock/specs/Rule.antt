-- The rule of the counted lock over its words, its slot and the views of all passes, which holds between any two steps. It is this
-- project's own.
use Rattle.std.specs.Prelude.{◌≡◌, ℕ, ◌≤◌, ◌<◌, true, List, [], ◌∷◌, map, length, Option, Some, None}
use Rattle.std.specs.Prelude.{false}
use mathlib.Core.Option.{some, none}
use mathlib.Core.Option as maybe
use mathlib.Core.List.{IsPrefix}
use lib.ListN.{get_elem?}
use Rattle.atomic_table.specs.Table.{State}
use Rattle.counted_lock.specs.declared.views.Stage.TheVariants.{Free}
use Rattle.counted_lock.specs.declared.views.Stamped.{Stamped}
use Rattle.counted_lock.specs.declared.views.View.{View}
use Rattle.counted_lock.specs.Views.{turn_of, is_fresh, total, places_of, unnumbered, entry_of, stamped, turn_in, hold_in, parts_in, listed_in, owned_in}

-- the view of the first pass, which has seen the object's journal
abbrev pub first_view : {E O : Type 0} → O → List E → View E O
first_view o es = record { number = Some 0; spare = None; parts = 0 ∷ []; sole = false; origin = Some o; seen = map (stamped None) es; told = []; stage = Free }

-- What a view knows is so: `o` is the origin of the object, `h` the history, and `made` the number of passes made.
pub record Sees {E O : Type 0} (o : O) (h : List (Stamped E)) (made : ℕ) (v : View E O) : Type 0 where
  -- it knows the origin
  pub alike : (x : O) → v.origin ≡ Some x → o ≡ x
  -- it has seen a prefix of the history, and was told of one
  pub begins : IsPrefix v.seen h
  pub heard : IsPrefix v.told h
  -- if it has the turn and has loaded the count in it, it has seen the whole history
  pub whole : is_fresh v.stage ≡ true → v.seen ≡ h
  -- it has seen all entries under its number
  pub placed : (n : ℕ) → v.number ≡ Some n → places_of n h ≡ places_of n v.seen
  -- it has seen all entries without a number, if it knows the origin
  pub opened : (x : O) → v.origin ≡ Some x → unnumbered h ≡ unnumbered v.seen
  -- no entry has the number that it has for a new pass
  pub unused : (n : ℕ) → v.spare ≡ Some n → places_of n h ≡ []
  -- it has the turn only if it stands for a pass
  pub seated : turn_of v.stage ≤ length v.parts
  -- if it is known to stand for all passes, it does
  pub alone : v.sole ≡ true → length v.parts ≡ made

module _ {D E O : Type 0} (entries : D → List E) (origin : D → O) (about : D) where
  -- The slot is empty exactly if a view holds it, and then one view does. Otherwise it has the object, whose journal is the history without
  -- numbers, and whose origin is that of the opened object.
  abbrev pub Fits : List (Stamped E) → ℕ → maybe.Option (Option D) → Type 0
  Fits h holders none = holders ≡ 1
  Fits h holders (some x) = (holders ≡ 0) × ((d : D) × (x ≡ Some d) × (entries d ≡ map entry_of h) × (origin d ≡ origin about))

  -- the rule, of the history `h`, the gate, the passes made, the slot (none while a view holds it) and the views
  pub record Kept (h : List (Stamped E)) (gate made : ℕ) (home : maybe.Option (Option D)) (views : List (View E O)) : Type 0 where
    pub each : (i : ℕ) (v : View E O) → get_elem? views i ≡ some v → Sees (origin about) h made v
    -- the gate is 0 or 1. It is 1 exactly if a view has the turn, and no two views have it
    pub turns : total turn_in views ≡ gate
    pub gate_small : gate ≤ 1
    -- The views stand for as many passes as were made. No number is in the parts of two views, or twice in the parts of one, and no number
    -- from `made` on is in any. So each number below `made` is in the parts of exactly one view.
    pub parts : total parts_in views ≡ made
    pub some_made : 0 < made
    pub listed_once : (n : ℕ) → total (listed_in n) views ≤ 1
    pub listed_made : (n : ℕ) → made ≤ n → total (listed_in n) views ≡ 0
    -- no number is that of two views, or that of a view and for a new pass, or for two new passes
    pub once : (n : ℕ) → total (owned_in n) views ≤ 1
    -- a number that is not below the passes made is that of no view, is for no new pass, and has no entries
    pub unmade : (n : ℕ) → made ≤ n → (total (owned_in n) views ≡ 0) × (places_of n h ≡ [])
    -- a view that holds the slot has the turn and has loaded the count in it, by its stage
    pub slot : Fits h (total hold_in views) home

  -- the same of a state of the table: the count is the length of the history, and the other words are the gate and the passes made
  pub record IsKept (s : State (Option D) (View E O)) : Type 0 where
    pub history : List (Stamped E)
    pub gate : ℕ
    pub made : ℕ
    pub home : maybe.Option (Option D)
    pub words_are : s.words ≡ length history ∷ gate ∷ made ∷ []
    pub homes_are : s.homes ≡ home ∷ []
    pub kept : Kept history gate made home s.views
