-- The turns of a timer, by what its pass has seen, its stopper and its clock, before and after.
use Rattle.std.specs.Prelude.{◌≡◌, ◌+◌, ◌<◌, ◌≤◌, ◌-◌, ◌^◌, ℕ, Bool, true, false, not, nat_eq, nat_le, List, [], ◌∷◌, ◌++◌, length, filter, Option, Some, None, Result, Ok, Err}
use Rattle.std.specs.List.{list_any}
use mathlib.Core.List.{IsPrefix}
use Rattle.bt_base.specs.Causes.{Rose}
use Rattle.bt_rows.specs.Lists.{AreDistinct}
use Rattle.bt_rows.specs.declared.event.EventKind.TheVariants.{Tick}
use Rattle.batch_desk.specs.declared.answer.Answer.{Answer}
use Rattle.batch_desk.specs.declared.answer.Answer.TheVariants.{Done, KeeperFault, JournalFull, Memory}
use Rattle.batch_desk.specs.declared.entry.Entry.{Entry}
use Rattle.child_runs.specs.Stops.{Stop}
use Rattle.run_index.specs.Seats.{asked_runs}
use Rattle.counted_lock.specs.declared.views.Stamped.{Stamped}
use Rattle.shared_desk.specs.Openings.{Opening}
use Rattle.shared_desk.specs.Sharing.{Caller, Asked, SeesLegal, LooksAsked, tables_after}
use Rattle.batch_crew.specs.declared.cut.Cut.{Cut}
use Rattle.batch_crew.specs.declared.cut.Cut.TheVariants.{JournalFull as Full, Memory as NoMemory}
use Rattle.batch_crew.specs.declared.cut.LaneEnd.{LaneEnd}
use Rattle.batch_crew.specs.declared.cut.LaneEnd.TheVariants as end
use Rattle.batch_crew.specs.declared.ticking.TheConstants.{TICK_GAP_MS}

-- a tick is due at once, and again so many milliseconds after the last one
abbrev pub is_tick_due : Option ℕ → ℕ → Bool
is_tick_due None moment = true
is_tick_due (Some last) moment = nat_le (last + TICK_GAP_MS) moment

-- what came of a tick, by the answer to the call; one that a keeper fault left undone is not made again before the next is due
abbrev pub tick_outcome : Answer → Result (Unit {0}) Cut
tick_outcome (Done reply dues stop) = Ok tt
tick_outcome KeeperFault = Ok tt
tick_outcome JournalFull = Err Full
tick_outcome Memory = Err NoMemory

module _ (o : Opening) where
  -- the pass made a tick at this moment
  pub record Ticks (p q : Caller) (moment : ℕ) (now : Option ℕ) (outcome : Result (Unit {0}) Cut) : Type 0 where
    pub answer : Answer
    pub asked : Asked o p q moment Tick answer
    pub came : outcome ≡ tick_outcome answer
    pub last : now ≡ Some moment

  -- a tick if one is due, and else nothing
  abbrev pub TicksWhen : Bool → Caller → Option ℕ → Caller → ℕ → Option ℕ → Result (Unit {0}) Cut → Type 0
  TicksWhen true p last q moment now outcome = Ticks p q moment now outcome
  TicksWhen false p last q moment now outcome = (q ≡ p) × (now ≡ last) × (outcome ≡ Ok tt)

  -- the clock gave a moment, and a tick was made then if one was due
  pub record TicksIfDue {C : Type 0} (gives : C → ℕ → C → Type 0) (p : Caller) (c : C) (last : Option ℕ) (q : Caller) (d : C) (now : Option ℕ)
      (outcome : Result (Unit {0}) Cut) : Type 0 where
    pub moment : ℕ
    pub given : gives c moment d
    pub ticks : TicksWhen (is_tick_due last moment) p last q moment now outcome

  -- what cuts a turn short after a tick with this outcome: the tick, or else that memory ran out at the look or after it
  abbrev pub CutsBy : Result (Unit {0}) Cut → Caller → Caller → Cut → Type 0
  CutsBy (Ok u) ticked q cut = SeesLegal o ticked q × (cut ≡ NoMemory)
  CutsBy (Err why) ticked q cut = (q ≡ ticked) × (cut ≡ why)

-- whether the number is one of these
abbrev pub is_in : List ℕ → ℕ → Bool
is_in numbers number = list_any (λ n. nat_eq n number) numbers

-- how many of these numbers are not among the others
abbrev pub left_out : List ℕ → List ℕ → ℕ
left_out numbers others = length (filter (λ n. not (is_in others n)) numbers)

module _ {P : Type 0} (stopped : P → Stop → P → Type 0) (faults : P → ℕ) where
  -- a run that is asked to stop: its child program is stopped, unless it was before; a stop that failed counts a fault
  pub data StopsRun (number : ℕ) : List ℕ → P → List ℕ → P → Type 0 where
    known : (done : List ℕ) (s : P) → is_in done number ≡ true → StopsRun number done s done s
    stops : (done : List ℕ) (s t : P) → is_in done number ≡ false → stopped s (record { number = number; done = true }) t → faults s ≤ faults t
        → StopsRun number done s (done ++ number ∷ []) t
    fails : (done : List ℕ) (s t : P) → is_in done number ≡ false → stopped s (record { number = number; done = false }) t → faults s ≤ faults t
        → Rose (faults s) (faults t) → StopsRun number done s done t

  -- all these runs, in order
  pub data StopRuns : List ℕ → List ℕ → P → List ℕ → P → Type 0 where
    none : (done : List ℕ) (s : P) → StopRuns [] done s done s
    more : (number : ℕ) (numbers done middle now : List ℕ) (s t u : P)
        → StopsRun number done s middle t → StopRuns numbers middle t now u → StopRuns (number ∷ numbers) done s now u

-- a timer between two turns: its pass, its stopper and its clock, the moment of its last tick, and the runs that it stopped
pub record TimerState (P C : Type 0) : Type 0 where
  pub pass : Caller
  pub stopper : P
  pub clock : C
  pub last : Option ℕ
  pub stopped : List ℕ

module _ {P C : Type 0} where
  -- a timer that has made no turn
  abbrev pub timer_at_start : Caller → P → C → TimerState P C
  timer_at_start p s c = record { pass = p; stopper = s; clock = c; last = None; stopped = [] }

  -- the timer after its clock paused
  abbrev pub after_pause : TimerState P C → C → TimerState P C
  after_pause t c = record { pass = t.pass; stopper = t.stopper; clock = c; last = t.last; stopped = t.stopped }

module _ (o : Opening) {P C : Type 0} (stopped : P → Stop → P → Type 0) (faults : P → ℕ) (gives : C → ℕ → C → Type 0) where
  -- a whole turn: a tick if one is due, a look at the runs that are asked to stop, and a stop of each that was not stopped before
  pub record IsTimerTurn (old new : TimerState P C) : Type 0 where
    pub ticked : Caller
    pub ticks : TicksIfDue o gives old.pass old.clock old.last ticked new.clock new.last (Ok tt)
    pub asked : List ℕ
    pub looks : LooksAsked o ticked new.pass (Ok asked)
    pub stops : StopRuns stopped faults asked old.stopped old.stopper new.stopped new.stopper

  -- a turn that was cut short before a stop
  pub record IsTimerCut (cut : Cut) (old new : TimerState P C) : Type 0 where
    pub ticked : Caller
    pub outcome : Result (Unit {0}) Cut
    pub ticks : TicksIfDue o gives old.pass old.clock old.last ticked new.clock new.last outcome
    pub cuts : CutsBy o outcome ticked new.pass cut
    pub same_stopper : new.stopper ≡ old.stopper
    pub same_stopped : new.stopped ≡ old.stopped

  -- what a turn came to
  abbrev pub IsTimerTurned : TimerState P C → TimerState P C → Result (Unit {0}) Cut → Type 0
  IsTimerTurned old new (Ok u) = IsTimerTurn old new
  IsTimerTurned old new (Err cut) = IsTimerCut cut old new

  module _ (pauses : C → Bool → C → Type 0) where
    -- whole turns, one after the other, each followed by a pause of the clock, after which the timer goes on
    pub data AreTimerTurns (start : TimerState P C) : TimerState P C → Type 0 where
      none : AreTimerTurns start start
      more : (before turned : TimerState P C) (paused : C) → AreTimerTurns start before → IsTimerTurn before turned → pauses turned.clock true paused
          → AreTimerTurns start (after_pause turned paused)

    -- whole turns, the last of which was followed by the pause that said that the service is to end
    pub record EndsAfterTurn (start now : TimerState P C) : Type 0 where
      pub before : TimerState P C
      pub turned : TimerState P C
      pub turns : AreTimerTurns start before
      pub turn : IsTimerTurn before turned
      pub pause : pauses turned.clock false now.clock
      pub paused : now ≡ after_pause turned now.clock

    -- whole turns, and then one that is cut short
    pub record EndsInTurn (cut : Cut) (start now : TimerState P C) : Type 0 where
      pub before : TimerState P C
      pub turns : AreTimerTurns start before
      pub last : IsTimerCut cut before now

    -- all turns of a timer, by why it ended
    abbrev pub IsTimer : TimerState P C → TimerState P C → LaneEnd → Type 0
    IsTimer start now end.Ended = EndsAfterTurn start now
    IsTimer start now end.JournalFull = EndsInTurn Full start now
    IsTimer start now end.Memory = EndsInTurn NoMemory start now

-- the run was asked to stop in the tables after a beginning of what the pass has seen
pub record WasAsked (o : Opening) (q : Caller) (number : ℕ) : Type 0 where
  pub before : List (Stamped Entry)
  pub begins : IsPrefix before q.seen
  pub asked : is_in (asked_runs (tables_after o before)) number ≡ true

-- all runs that are asked to stop in the tables after what the pass has seen were stopped, but at most as many as stops failed; this says
-- nothing once the count of faults is at the end of its type
abbrev pub AreAllStopped : Opening → Caller → List ℕ → (before now : ℕ) → Type 0
AreAllStopped o q stopped before now = now < 2 ^ 64 - 1 → left_out (asked_runs (tables_after o q.seen)) stopped + before ≤ now

module _ (o : Opening) {P C : Type 0} (stopped : P → Stop → P → Type 0) (faults : P → ℕ) (gives : C → ℕ → C → Type 0) (pauses : C → Bool → C → Type 0) where
  -- a timer: its turns, and what they make of the runs that are asked to stop
  pub record RunsTimer (p : Caller) (s : P) (c : C) (q : Caller) (t : P) (d : C) (why : LaneEnd) : Type 0 where
    pub last : Option ℕ
    pub numbers : List ℕ
    pub turns : IsTimer o stopped faults gives pauses (timer_at_start p s c) (record { pass = q; stopper = t; clock = d; last = last; stopped = numbers }) why
    pub distinct : AreDistinct nat_eq numbers
    pub asked : (number : ℕ) → is_in numbers number ≡ true → WasAsked o q number
    pub all : why ≡ end.Ended → AreAllStopped o q numbers (faults s) (faults t)
