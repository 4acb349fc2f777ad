-- Workers that are given passes, work with them, and hand them back.
use Rattle.std.specs.Prelude.{◌≡◌, ◌<◌, ℕ, false, List, [], length, nat_eq, slice_index_or}
use Rattle.std.specs.List.{list_any}
use mathlib.Core.List.{IsPrefix}
use Rattle.bt_rows.specs.Lists.{AreDistinct}
use Rattle.counted_lock.specs.Passes.{LockIdentity, IsPassOf}
use Rattle.counted_lock.specs.declared.views.Stamped.{Stamped}
use Rattle.counted_lock.specs.Views.{places_of, unnumbered}
use Rattle.batch_desk.specs.declared.entry.Entry.{Entry}
use Rattle.shared_desk.specs.Openings.{Opening}
use Rattle.shared_desk.specs.Sharing.{Caller, calls_of}
use Rattle.batch_serve.specs.declared.worker.Worker.{Worker}

-- elements of two lists of the same length stand in a relation, place by place
pub record AtEach {A : Type 0} (r : A → A → Type 0) (old new : List A) : Type 0 where
  pub count : length new ≡ length old
  pub each : (k : ℕ) (d : A) → k < length old → r (slice_index_or old k d) (slice_index_or new k d)

module _ {W : Type 0} where
  -- the worker was given a pass of the desk that has made no calls, and is the same otherwise
  pub record IsGiven (desk : LockIdentity Opening) (old new : Worker W) : Type 0 where
    pub pass : IsPassOf desk new.pass
    pub fresh : places_of new.pass.number new.pass.seen ≡ []
    pub kind : new.kind ≡ old.kind

  -- the worker has a pass of the desk, and what it needs before it works
  pub record CanWork (can_work : W → Type 0) (desk : LockIdentity Opening) (worker : Worker W) : Type 0 where
    pub pass : IsPassOf desk worker.pass
    pub ready : can_work worker.kind

  -- the worker is the same, but perhaps for its pass
  abbrev pub IsSameKind : Worker W → Worker W → Type 0
  IsSameKind old new = new.kind ≡ old.kind

module _ {W : Type 0} (worked : LockIdentity Opening → Caller → W → Caller → W → Type 0) (desk : LockIdentity Opening) where
  -- the worker did its work with its pass, which is then as that leaves it
  pub record WorksWithPass (old new : Worker W) : Type 0 where
    pub pass : IsPassOf desk new.pass
    pub number : new.pass.number ≡ old.pass.number
    pub work : worked desk old.pass old.kind new.pass new.kind

  -- The worker did its work with a pass of the desk, under this number, that had made no calls before. What the pass had then seen is the
  -- beginning of the history, which has no other calls under this number.
  pub record Serves (history : List (Stamped Entry)) (number : ℕ) (old new : Worker W) : Type 0 where
    pub before : Caller
    pub after : Caller
    pub given : IsPassOf desk before
    pub numbered : before.number ≡ number
    pub same : after.number ≡ number
    pub fresh : places_of before.number before.seen ≡ []
    pub work : worked desk before old.kind after new.kind
    pub stands : IsPrefix after.seen history
    pub placed : places_of number history ≡ places_of number after.seen

  -- Each worker did its work with a pass under a number of its own: the k-th worker under the k-th of these numbers, of which there are as many
  -- as workers, and no two are the same. The entries are the calls of one history, of which each pass has seen the beginning. The history has no
  -- calls under another number, and none without a number.
  pub record AllServe (entries : List Entry) (old new : List (Worker W)) : Type 0 where
    pub history : List (Stamped Entry)
    pub journal : entries ≡ calls_of history
    pub numbers : List ℕ
    pub distinct : AreDistinct nat_eq numbers
    pub numbered : length numbers ≡ length old
    pub count : length new ≡ length old
    pub each : (k : ℕ) (d : Worker W) → k < length old → Serves history (slice_index_or numbers k 0) (slice_index_or old k d) (slice_index_or new k d)
    pub others : (n : ℕ) → list_any (nat_eq n) numbers ≡ false → places_of n history ≡ []
    pub opened : unnumbered history ≡ []
