-- The turns of a lane, by what its pass has seen, its clock and its spawner, before and after.
use Rattle.std.specs.Prelude.{◌≡◌, ℕ, Bool, true, false, Option, Some, None, Result, Ok, Err}
use Rattle.std.specs.Option.{option_map_or}
use Rattle.bt_rows.specs.declared.event.EventKind.TheVariants.{Take, End}
use Rattle.bt_rows.specs.declared.run.Ending.{Ending}
use Rattle.batch_desk.specs.declared.answer.Answer.{Answer}
use Rattle.batch_desk.specs.declared.answer.Answer.TheVariants.{Done, KeeperFault, JournalFull, Memory}
use Rattle.batch_desk.specs.History.{refusal_of}
use Rattle.child_runs.specs.declared.ran.ChildRun.{ChildRun}
use Rattle.child_runs.specs.declared.ran.Ran.{Ran}
use Rattle.child_runs.specs.Runs.{told_ending, HasStartCause}
use Rattle.bt_rows.specs.declared.reply.QueuedRun.{QueuedRun}
use Rattle.shared_desk.specs.Openings.{Opening}
use Rattle.shared_desk.specs.Sharing.{Caller, Asked, SeesLegal, LooksAt}
use Rattle.batch_crew.specs.declared.cut.Cut.{Cut}
use Rattle.batch_crew.specs.declared.cut.Cut.TheVariants.{JournalFull as Full, Memory as NoMemory}
use Rattle.batch_crew.specs.declared.cut.LaneEnd.{LaneEnd}
use Rattle.batch_crew.specs.declared.cut.LaneEnd.TheVariants as end
use Rattle.batch_crew.specs.declared.turning.Turned.{Turned}
use Rattle.batch_crew.specs.declared.turning.Turned.TheVariants.{Rested, Ran as HasRun}

-- whether a run was taken, by the answer to the call: it was exactly if the call was made and not refused
abbrev pub take_outcome : Answer → Result Bool Cut
take_outcome (Done reply dues stop) = Ok (option_map_or (λ _. false) (refusal_of reply) true)
take_outcome KeeperFault = Ok false
take_outcome JournalFull = Err Full
take_outcome Memory = Err NoMemory

-- whether the ending of a run was told, by the answer to the call; None if a keeper fault left it undone, so that it is told again
abbrev pub tell_outcome : Answer → Option (Result (Unit {0}) Cut)
tell_outcome (Done reply dues stop) = Some (Ok tt)
tell_outcome KeeperFault = None
tell_outcome JournalFull = Some (Err Full)
tell_outcome Memory = Some (Err NoMemory)

-- a spawner was given a child program, by its relation; that the child program was not started has its cause, that the count of faults rose
pub record RanFor {S : Type 0} (ran : S → ChildRun → S → Type 0) (faults : S → ℕ) (before : S) (run : ChildRun) (now : S) : Type 0 where
  pub by : ran before run now
  pub cause : HasStartCause (faults before) (faults now) run.how

-- the child program of a queued run, and how it ended
abbrev pub child_of : QueuedRun → Ran → ChildRun
child_of run how = record { number = run.number; words = run.words; how = how }

-- a pass, and the clock that gives the moments of its calls
pub record TimedCaller (C : Type 0) : Type 0 where
  pub pass : Caller
  pub clock : C

module _ (o : Opening) {C : Type 0} (gives : C → ℕ → C → Type 0) where
  -- the pass asked for the run with this number, once, at the moment that the clock gave, and this is what it came to
  pub record Takes (p q : TimedCaller C) (number : ℕ) (taken : Result Bool Cut) : Type 0 where
    pub moment : ℕ
    pub given : gives p.clock moment q.clock
    pub answer : Answer
    pub asked : Asked o p.pass q.pass moment (Take number) answer
    pub outcome : taken ≡ take_outcome answer

  -- the pass told the ending of the run, once, at the moment that the clock gave, and this is what it came to
  pub record TellsOnce (p q : TimedCaller C) (number : ℕ) (ending : Ending) (told : Option (Result (Unit {0}) Cut)) : Type 0 where
    pub moment : ℕ
    pub given : gives p.clock moment q.clock
    pub answer : Answer
    pub asked : Asked o p.pass q.pass moment (End number ending) answer
    pub outcome : told ≡ tell_outcome answer

  -- the ending was told some times, perhaps none, and each time a keeper fault left the call undone
  pub data AreFaults (number : ℕ) (ending : Ending) : TimedCaller C → TimedCaller C → Type 0 where
    none : (p : TimedCaller C) → AreFaults number ending p p
    more : (p q r : TimedCaller C) → AreFaults number ending p q → TellsOnce q r number ending None → AreFaults number ending p r

  -- the ending was told until no keeper fault left the call undone
  pub record Tells (p q : TimedCaller C) (number : ℕ) (ending : Ending) (told : Result (Unit {0}) Cut) : Type 0 where
    pub again : TimedCaller C
    pub faults : AreFaults number ending p again
    pub last : TellsOnce again q number ending (Some told)

-- the pass looked at the seat, and this is the queued run that it was shown; the clock was not asked
pub record Shows (o : Opening) (seat : ℕ) {C : Type 0} (p q : TimedCaller C) (run : Option QueuedRun) : Type 0 where
  pub looks : LooksAt o p.pass q.pass seat (Ok run)
  pub same_clock : q.clock ≡ p.clock

-- the clock paused, and this is what the pause returned; no call was made
pub record Rests {C : Type 0} (pauses : C → Bool → C → Type 0) (p q : TimedCaller C) (goes_on : Bool) : Type 0 where
  pub paused : pauses p.clock goes_on q.clock
  pub same_pass : q.pass ≡ p.pass

module _ (o : Opening) (seat : ℕ) {C : Type 0} (gives : C → ℕ → C → Type 0) where
  -- the pass saw the queued run, and took it
  pub record Starts (p q : TimedCaller C) (run : QueuedRun) : Type 0 where
    pub seen : TimedCaller C
    pub shown : Shows o seat p seen (Some run)
    pub taken : Takes o gives seen q run.number (Ok true)

  -- nothing is run: no run is queued at the seat, or the one that the pass saw was not taken
  pub data IsRest : TimedCaller C → TimedCaller C → Type 0 where
    idles : (p q : TimedCaller C) → Shows o seat p q None → IsRest p q
    misses : (p m q : TimedCaller C) (run : QueuedRun) → Shows o seat p m (Some run) → Takes o gives m q run.number (Ok false) → IsRest p q

module _ (o : Opening) (seat : ℕ) {S C : Type 0} (ran : S → ChildRun → S → Type 0) (gives : C → ℕ → C → Type 0) where
  -- a run is taken, its child program runs, once, and its ending is told
  pub record RunsOne (p : TimedCaller C) (s : S) (q : TimedCaller C) (t : S) : Type 0 where
    pub started : TimedCaller C
    pub run : QueuedRun
    pub how : Ran
    pub ending : Ending
    pub starts : Starts o seat gives p started run
    pub runs : ran s (child_of run how) t
    pub told : told_ending how ≡ Some ending
    pub tells : Tells o gives started q run.number ending (Ok tt)

  -- a turn that is cut short: at the look, at the take, after a run without an ending, or where the ending is told
  pub data IsCut : Cut → TimedCaller C → S → TimedCaller C → S → Type 0 where
    unseen : (p q : TimedCaller C) (s : S) → SeesLegal o p.pass q.pass → q.clock ≡ p.clock → IsCut NoMemory p s q s
    untaken : (p m q : TimedCaller C) (s : S) (run : QueuedRun) (cut : Cut)
        → Shows o seat p m (Some run) → Takes o gives m q run.number (Err cut) → IsCut cut p s q s
    unrun : (p q : TimedCaller C) (s t : S) (run : QueuedRun) (how : Ran)
        → Starts o seat gives p q run → ran s (child_of run how) t → told_ending how ≡ None → IsCut NoMemory p s q t
    untold : (p k q : TimedCaller C) (s t : S) (run : QueuedRun) (how : Ran) (ending : Ending) (cut : Cut)
        → Starts o seat gives p k run → ran s (child_of run how) t → told_ending how ≡ Some ending
        → Tells o gives k q run.number ending (Err cut) → IsCut cut p s q t

  -- what a turn came to, before the pause that follows one in which nothing is run
  abbrev pub IsTurned : TimedCaller C → S → TimedCaller C → S → Result Turned Cut → Type 0
  IsTurned p s q t (Ok Rested) = IsRest o seat gives p q × (t ≡ s)
  IsTurned p s q t (Ok HasRun) = RunsOne p s q t
  IsTurned p s q t (Err cut) = IsCut cut p s q t

  module _ (pauses : C → Bool → C → Type 0) where
    -- a whole turn: nothing is run, and the clock then pauses, and the lane goes on; or a run
    pub data IsTurn : TimedCaller C → S → TimedCaller C → S → Type 0 where
      rests : (p r q : TimedCaller C) (s : S) → IsRest o seat gives p r → Rests pauses r q true → IsTurn p s q s
      runs : (p q : TimedCaller C) (s t : S) → RunsOne p s q t → IsTurn p s q t

    -- turns one after the other
    pub data AreTurns : TimedCaller C → S → TimedCaller C → S → Type 0 where
      none : (p : TimedCaller C) (s : S) → AreTurns p s p s
      more : (p q r : TimedCaller C) (s t u : S) → AreTurns p s q t → IsTurn q t r u → AreTurns p s r u

    -- whole turns, and then one in which nothing is run, and whose pause says that the service is to end
    pub record EndsAtRest (p : TimedCaller C) (s : S) (q : TimedCaller C) (t : S) : Type 0 where
      pub before : TimedCaller C
      pub turns : AreTurns p s before t
      pub rested : TimedCaller C
      pub rest : IsRest o seat gives before rested
      pub pause : Rests pauses rested q false

    -- whole turns, and then one that is cut short
    pub record EndsCut (cut : Cut) (p : TimedCaller C) (s : S) (q : TimedCaller C) (t : S) : Type 0 where
      pub before : TimedCaller C
      pub so_far : S
      pub turns : AreTurns p s before so_far
      pub last : IsCut cut before so_far q t

    -- all turns of a lane, by why it ended
    abbrev pub IsLane : TimedCaller C → S → TimedCaller C → S → LaneEnd → Type 0
    IsLane p s q t end.Ended = EndsAtRest p s q t
    IsLane p s q t end.JournalFull = EndsCut Full p s q t
    IsLane p s q t end.Memory = EndsCut NoMemory p s q t
