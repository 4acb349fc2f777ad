-- Where the runs that a lane's spawner was given stand in a journal, and the first tick of a timer.
use Rattle.std.specs.Prelude.{◌≡◌, ◌≤◌, ℕ, All, List, [], ◌∷◌, ◌++◌, length, Option, Some, None}
use Rattle.bt_rows.specs.declared.event.EventKind.TheVariants.{Take, End, Tick}
use Rattle.bt_rows.specs.declared.refusal.Refusal.{Refusal}
use Rattle.bt_rows.specs.declared.run.Ending.{Ending}
use Rattle.batch_desk.specs.declared.entry.Entry.{Entry}
use Rattle.batch_desk.specs.declared.entry.Mark.TheVariants.{Done}
use Rattle.child_runs.specs.declared.ran.ChildRun.{ChildRun}
use Rattle.child_runs.specs.Runs.{told_ending}
use Rattle.batch_crew.specs.declared.cut.LaneEnd.{LaneEnd}
use Rattle.batch_crew.specs.declared.cut.LaneEnd.TheVariants.{Ended}

-- the call took the run with this number: it was made, and not refused
pub record IsTake (number : ℕ) (entry : Entry) : Type 0 where
  pub event : entry.event ≡ Take number
  pub accepted : entry.mark ≡ Done None

-- the call told this ending of the run with this number: it was made
pub record IsEnd (number : ℕ) (ending : Ending) (entry : Entry) : Type 0 where
  pub event : entry.event ≡ End number ending
  pub refusal : Option Refusal
  pub made : entry.mark ≡ Done refusal

-- the journal has the call that took the run
pub record IsTaken (entries : List Entry) (run : ChildRun) : Type 0 where
  pub before : List Entry
  pub taken : Entry
  pub after : List Entry
  pub place : entries ≡ before ++ taken ∷ after
  pub takes : IsTake run.number taken

-- the journal has the call that took the run, and after it the call that told how its child program ended
pub record TakesAndEnds (entries : List Entry) (run : ChildRun) : Type 0 where
  pub before : List Entry
  pub taken : Entry
  pub between : List Entry
  pub ended : Entry
  pub after : List Entry
  pub places : entries ≡ before ++ taken ∷ between ++ ended ∷ after
  pub takes : IsTake run.number taken
  pub ending : Ending
  pub told : told_ending run.how ≡ Some ending
  pub ends : IsEnd run.number ending ended

-- The journal has these two calls for each of the runs, in order: those of a run stand after those of the runs before it. So no two runs have
-- the same call.
pub data StandInOrder : List Entry → List ChildRun → Type 0 where
  none : (entries : List Entry) → StandInOrder entries []
  more : (before rest : List Entry) (runs : List ChildRun) (run : ChildRun)
      → StandInOrder before runs → TakesAndEnds rest run → StandInOrder (before ++ rest) (runs ++ run ∷ [])

module _ {S : Type 0} (ran : S → ChildRun → S → Type 0) where
  -- the spawner was given these runs, one after the other
  pub data AreGiven : S → List ChildRun → S → Type 0 where
    none : (s : S) → AreGiven s [] s
    more : (s t u : S) (runs : List ChildRun) (run : ChildRun) → AreGiven s runs t → ran t run u → AreGiven s (runs ++ run ∷ []) u

  -- Each run that the spawner was given was taken in the journal, and its ending was told after that. The last one alone may lack that
  -- ending, and only if the lane did not end as `Ended`.
  pub record RunsStand (entries : List Entry) (s t : S) (end : Option LaneEnd) : Type 0 where
    pub whole : List ChildRun
    pub last : List ChildRun
    pub few : length last ≤ 1
    pub given : AreGiven s (whole ++ last) t
    pub each : All (TakesAndEnds entries) whole
    pub in_order : StandInOrder entries whole
    pub taken : All (IsTaken entries) last
    pub ended : end ≡ Some Ended → last ≡ []

-- the journal has a tick at the first moment that the clock gave
pub record TicksFirst {C : Type 0} (gives : C → ℕ → C → Type 0) (entries : List Entry) (clock : C) : Type 0 where
  pub moment : ℕ
  pub later : C
  pub gave : gives clock moment later
  pub before : List Entry
  pub tick : Entry
  pub after : List Entry
  pub place : entries ≡ before ++ tick ∷ after
  pub at : tick.moment ≡ moment
  pub event : tick.event ≡ Tick
