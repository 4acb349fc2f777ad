-- The parts of views, the places of entries, and what steps make of views.
use Rattle.std.specs.Prelude.{ℕ, ◌+◌, ◌==◌, Bool, true, false, List, [], ◌∷◌, ◌++◌, length, nat_le, Option, Some, None}
use Rattle.counted_lock.specs.declared.views.Stage.{Stage}
use Rattle.counted_lock.specs.declared.views.Stage.TheVariants.{Free, Turn, Fresh, Holding}
use Rattle.counted_lock.specs.declared.views.Stamped.{Stamped}
use Rattle.counted_lock.specs.declared.views.View.{View}

-- 1 if the pass has the turn
abbrev pub turn_of : Stage → ℕ
turn_of Free = 0
turn_of Turn = 1
turn_of Fresh = 1
turn_of Holding = 1

-- 1 if the pass holds the slot
abbrev pub hold_of : Stage → ℕ
hold_of Free = 0
hold_of Turn = 0
hold_of Fresh = 0
hold_of Holding = 1

-- whether the pass has the turn and has loaded the count in it
abbrev pub is_fresh : Stage → Bool
is_fresh Free = false
is_fresh Turn = false
is_fresh Fresh = true
is_fresh Holding = true

-- 1 if it is true
abbrev pub one_if : Bool → ℕ
one_if true = 1
one_if false = 0

-- whether the number is n
abbrev pub is_number : Option ℕ → ℕ → Bool
is_number None n = false
is_number (Some m) n = m == n

-- the place k before the others, if it is one
abbrev pub placed_if : Bool → ℕ → List ℕ → List ℕ
placed_if true k rest = k ∷ rest
placed_if false k rest = rest

-- how often the number n is in the list
abbrev pub times_in : ℕ → List ℕ → ℕ
times_in n [] = 0
times_in n (m ∷ ns) = one_if (m == n) + times_in n ns

-- the first number of the list alone, if it has one
abbrev pub first_of : List ℕ → List ℕ
first_of [] = []
first_of (n ∷ ns) = n ∷ []

-- the list without its first number
abbrev pub rest_of : List ℕ → List ℕ
rest_of [] = []
rest_of (n ∷ ns) = ns

-- the sum of f over the list
abbrev pub total : {A : Type 0} → (A → ℕ) → List A → ℕ
total f [] = 0
total f (x ∷ xs) = f x + total f xs

module _ {E : Type 0} where
  -- the places of the entries under the number n; the place of the first entry is k
  abbrev pub places_from : ℕ → ℕ → List (Stamped E) → List ℕ
  places_from k n [] = []
  places_from k n (x ∷ xs) = placed_if (is_number x.maker n) k (places_from (k + 1) n xs)

  -- the places of the entries under the number n, from 0
  abbrev pub places_of : ℕ → List (Stamped E) → List ℕ
  places_of n h = places_from 0 n h

  -- the entry without its number
  abbrev pub entry_of : Stamped E → E
  entry_of x = x.entry

  -- the entry under this number, or under none
  abbrev pub stamped : Option ℕ → E → Stamped E
  stamped n e = record { entry = e; maker = n }

module _ {E : Type 0} where
  -- the entry before the others, if it has no number
  abbrev pub opened_if : Option ℕ → E → List E → List E
  opened_if None e rest = e ∷ rest
  opened_if (Some n) e rest = rest

  -- the entries without a number, in order: those of the journal at the opening
  abbrev pub unnumbered : List (Stamped E) → List E
  unnumbered [] = []
  unnumbered (x ∷ xs) = opened_if x.maker x.entry (unnumbered xs)

module _ {E : Type 0} where
  -- the second list if it is true, else the first
  abbrev pub longer_if : Bool → List (Stamped E) → List (Stamped E) → List (Stamped E)
  longer_if true xs ys = ys
  longer_if false xs ys = xs

  -- the longer of two lists
  abbrev pub longer : List (Stamped E) → List (Stamped E) → List (Stamped E)
  longer xs ys = longer_if (nat_le (length xs) (length ys)) xs ys

module _ {E O : Type 0} where
  -- 1 if the view has the turn
  abbrev pub turn_in : View E O → ℕ
  turn_in v = turn_of v.stage

  -- 1 if the view holds the slot
  abbrev pub hold_in : View E O → ℕ
  hold_in v = hold_of v.stage

  -- the number of passes that the view stands for
  abbrev pub parts_in : View E O → ℕ
  parts_in v = length v.parts

  -- how often the number n is one of the passes that the view stands for
  abbrev pub listed_in : ℕ → View E O → ℕ
  listed_in n v = times_in n v.parts

  -- how often the number n is the view's own or for a new pass
  abbrev pub owned_in : ℕ → View E O → ℕ
  owned_in n v = one_if (is_number v.number n) + one_if (is_number v.spare n)

  -- the view in another stage
  abbrev pub staged : Stage → View E O → View E O
  staged s v = record { number = v.number; spare = v.spare; parts = v.parts; sole = v.sole; origin = v.origin; seen = v.seen; told = v.told; stage = s }

  -- the view in another stage, which has seen this
  abbrev pub with_seen : Stage → List (Stamped E) → View E O → View E O
  with_seen s h v = record { number = v.number; spare = v.spare; parts = v.parts; sole = v.sole; origin = v.origin; seen = h; told = v.told; stage = s }

  -- the view with a number for a new pass, which it stands for until then
  abbrev pub with_spare : ℕ → View E O → View E O
  with_spare n v = record {
    number = v.number;
    spare = Some n;
    parts = n ∷ v.parts;
    sole = v.sole;
    origin = v.origin;
    seen = v.seen;
    told = v.told;
    stage = v.stage;
  }

  -- the view without that number, which is the first of its parts
  abbrev pub without_spare : View E O → View E O
  without_spare v = record {
    number = v.number;
    spare = None;
    parts = rest_of v.parts;
    sole = v.sole;
    origin = v.origin;
    seen = v.seen;
    told = v.told;
    stage = v.stage;
  }

  -- the view of the new pass with that number
  abbrev pub new_pass : View E O → View E O
  new_pass v = record { number = v.spare; spare = None; parts = first_of v.parts; sole = false; origin = v.origin; seen = v.seen; told = []; stage = Free }

  -- the view, standing for the passes with the numbers ns
  abbrev pub with_parts : List ℕ → View E O → View E O
  with_parts ns v = record { number = v.number; spare = v.spare; parts = ns; sole = false; origin = v.origin; seen = v.seen; told = v.told; stage = v.stage }

  -- a note of what the view has seen, which stands for the passes with the numbers ns
  abbrev pub note : List ℕ → View E O → View E O
  note ns v = record { number = None; spare = None; parts = ns; sole = false; origin = v.origin; seen = v.seen; told = []; stage = Free }

  -- a view that is used up, or new: it knows nothing
  abbrev pub spent : View E O
  spent = record { number = None; spare = None; parts = []; sole = false; origin = None; seen = []; told = []; stage = Free }

  -- the view, known to stand for all passes
  abbrev pub as_sole : View E O → View E O
  as_sole v = record { number = v.number; spare = v.spare; parts = v.parts; sole = true; origin = v.origin; seen = v.seen; told = v.told; stage = v.stage }

  -- the view after it has taken in another: it stands for its own passes and then for those of the other, and is told what that one
  -- has seen
  abbrev pub joined : View E O → View E O → View E O
  joined v w = record {
    number = v.number;
    spare = v.spare;
    parts = v.parts ++ w.parts;
    sole = false;
    origin = v.origin;
    seen = v.seen;
    told = w.seen;
    stage = v.stage;
  }

  -- the view after it has seen what it was told
  abbrev pub caught_up : View E O → View E O
  caught_up v = record {
    number = v.number;
    spare = v.spare;
    parts = v.parts;
    sole = v.sole;
    origin = v.origin;
    seen = longer v.seen v.told;
    told = [];
    stage = v.stage;
  }
