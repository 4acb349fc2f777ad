-- What contracts see of a pass and of a lock. The terms are this project's own.
use Rattle.std.specs.Prelude.{◌≡◌, ◌<◌, ◌≤◌, ℕ, false, List, [], ◌∷◌, map, length, Option, Some, None}
use Rattle.std.specs.Option.{unwrap_or}
use Rattle.atomic_table.specs.Table.{Me}
use Rattle.atomic_table.specs.Seated.{TableId}
use Rattle.counted_lock.specs.declared.views.Stage.TheVariants.{Free, Holding}
use Rattle.counted_lock.specs.declared.views.Stamped.{Stamped}
use Rattle.counted_lock.specs.declared.views.View.{View}
use Rattle.counted_lock.specs.Views.{places_of}
use Rattle.counted_lock.specs.Turns.{IsNumbered}

-- A pass: the table of its lock, its number, the origin of the lock's object, and the prefix of the history that it has seen. The places
-- of its entries are those of its number in what it has seen. Of a value that takes the place of a pass, the origin is None.
pub record PassState (E O : Type 0) : Type 0 where
  pub table : TableId
  pub number : ℕ
  pub origin : Option O
  pub seen : List (Stamped E)
  -- its own number alone; no number while that is lent to the seat that closes the lock
  pub parts : List ℕ

-- a lock: its table, which tells it from all other locks, and the origin of its object
pub record LockIdentity (O : Type 0) : Type 0 where
  pub table : TableId
  pub origin : O

module _ {E O : Type 0} where
  -- what contracts see of a pass at this table with these views, of which there is one, or none if it only takes the place of a pass
  abbrev pub pass_of : TableId → List (View E O) → PassState E O
  pass_of t [] = record { table = t; number = 0; origin = None; seen = []; parts = [] }
  pass_of t (v ∷ vs) = record { table = t; number = unwrap_or v.number 0; origin = v.origin; seen = v.seen; parts = v.parts }

  -- the view of a pass between two steps of a turn: it has a number, none for a new pass, and one part, or none while that is lent
  pub record IsPlain (v : View E O) : Type 0 where
    pub numbered : IsNumbered v
    pub no_spare : v.spare ≡ None
    pub few_parts : length v.parts ≤ 1
    pub not_sole : v.sole ≡ false
    pub not_told : v.told ≡ []

  -- the view of a pass between two calls, when it does not have the turn
  pub record IsIdleView (v : View E O) : Type 0 where
    pub plain : IsPlain v
    pub free : v.stage ≡ Free

  -- what a pass with this number keeps: one view, or none if it only takes the place of a pass
  abbrev pub IsIdle : ℕ → List (View E O) → Type 0
  IsIdle n [] = n ≡ 0
  IsIdle n (v ∷ vs) = (vs ≡ []) × IsIdleView v × (v.number ≡ Some n)

  -- what a pass in a turn keeps: it has the turn, has loaded the count in it, and holds the slot, which is empty
  pub record IsHolding {D : Type 0} (me : Me (Option D) (View E O)) : Type 0 where
    pub plain : IsPlain me.0
    pub holding : me.0.stage ≡ Holding
    pub out : me.1 ≡ (0, None) ∷ []

  -- the lock made the pass, which is in no call
  abbrev pub IsPassOf : LockIdentity O → PassState E O → Type 0
  IsPassOf l p = (p.table ≡ l.table) × (p.origin ≡ Some l.origin) × (p.parts ≡ p.number ∷ [])

  -- the new pass `q` that was split from `p`: its number is greater, it has no entries, and it has seen what `p` has seen
  pub record IsNew (p q : PassState E O) : Type 0 where
    pub above : p.number < q.number
    pub blank : places_of q.number q.seen ≡ []
    pub seen : q.seen ≡ p.seen

  -- the numbers of the passes, in their order
  abbrev pub numbers_of : List (PassState E O) → List ℕ
  numbers_of ps = map (λ p. p.number) ps

  -- the pass while its part is lent
  abbrev pub lent : PassState E O → PassState E O
  lent p = record { table = p.table; number = p.number; origin = p.origin; seen = p.seen; parts = [] }
