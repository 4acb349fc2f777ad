-- What the turns of a timer leave.
use Rattle.std.proofs.Common.{◌≡◌, ℕ, ◌≤◌, true, false, Bool, Option, ◌⊎◌, inl, inr, List, [], ◌∷◌, sym, ap, subst, arith}
use Rattle.std.specs.Prelude.{nat_eq, Result, Ok, Err, Some}
use mathlib.Core.List.{IsPrefix}
use Rattle.bt_rows.specs.Lists.{AreDistinct}
use Rattle.bt_rows.specs.declared.event.EventKind.{EventKind}
use Rattle.batch_desk.specs.declared.answer.Answer.{Answer}
use Rattle.batch_desk.specs.declared.answer.Answer.TheVariants.{Done, KeeperFault, JournalFull, Memory}
use Rattle.batch_desk.specs.declared.entry.Entry.{Entry}
use Rattle.child_runs.specs.Stops.{Stop}
use Rattle.counted_lock.specs.Views.{stamped}
use Rattle.counted_lock.proofs.Prefixes.{prefix_self, prefix_trans, prefix_more}
use Rattle.shared_desk.specs.Openings.{Opening}
use Rattle.shared_desk.specs.Sharing.{Caller, Asked, Extends}
use Rattle.batch_crew.specs.declared.cut.Cut.{Cut}
use Rattle.batch_crew.specs.declared.cut.Cut.TheVariants.{JournalFull as Full, Memory as NoMemory}
use Rattle.batch_crew.specs.declared.cut.LaneEnd.{LaneEnd}
use Rattle.batch_crew.specs.declared.cut.LaneEnd.TheVariants as end
use Rattle.batch_crew.specs.Timers.{is_tick_due, TicksWhen, TicksIfDue, is_in, left_out, TimerState, timer_at_start, IsTimerTurn, IsTimerCut, CutsBy, AreTimerTurns, none, more}
use Rattle.batch_crew.specs.Ends.{end_of}
use Rattle.batch_crew.specs.Timers.{EndsAfterTurn, EndsInTurn, IsTimer, WasAsked, AreAllStopped, RunsTimer}
use Rattle.batch_crew.proofs.Stops.{few_left, from_all, distinct_all, later_all}

module _ (o : Opening) where
  -- a call that was entered begins with what was seen
  extends_begins : (p q : Caller) (e : Entry) (answer : Answer) → Extends o p q e answer → IsPrefix p.seen q.seen
  extends_begins p q e answer x = subst (λ h. IsPrefix p.seen h) (sym x.seen) (prefix_more p.seen x.before (stamped (Some p.number) e ∷ []) x.begins)

  -- a call, however it was answered, leaves what was seen
  pub asked_begins : (p q : Caller) (moment : ℕ) (event : EventKind) (answer : Answer) → Asked o p q moment event answer → IsPrefix p.seen q.seen
  asked_begins p q moment event (Done reply dues stop) a = extends_begins p q _ (Done reply dues stop) a
  asked_begins p q moment event KeeperFault a = extends_begins p q _ KeeperFault a
  asked_begins p q moment event JournalFull a = a.0.begins
  asked_begins p q moment event Memory a = a.begins

  -- a tick, or none
  ticks_begin : (due : Bool) (p q : Caller) (moment : ℕ) (last now : Option ℕ) (outcome : Result (Unit {0}) Cut) → TicksWhen o due p last q moment now outcome
      → IsPrefix p.seen q.seen
  ticks_begin true p q moment last now outcome t = asked_begins p q moment _ t.answer t.asked
  ticks_begin false p q moment last now outcome t = subst (λ z. IsPrefix p.seen z.seen) (sym t.0) (prefix_self p.seen)

  -- a run that was asked to stop stays one that was
  asked_more : (p q : Caller) (number : ℕ) → IsPrefix p.seen q.seen → WasAsked o p number → WasAsked o q number
  asked_more p q number begins was = record {
    before = was.before;
    begins = prefix_trans was.before p.seen q.seen was.begins begins;
    asked = was.asked;
  }

  module _ {P C : Type 0} (stopped : P → Stop → P → Type 0) (faults : P → ℕ) (gives : C → ℕ → C → Type 0) (pauses : C → Bool → C → Type 0) where
    -- what a timer keeps: no run is stopped twice, and each was asked to stop
    record Keeps (t : TimerState P C) : Type 0 where
      distinct : AreDistinct nat_eq t.stopped
      asked : (number : ℕ) → is_in t.stopped number ≡ true → WasAsked o t.pass number

    -- what the pass has seen before a turn it has seen after the tick
    tick_begins : (old : TimerState P C) (ticked : Caller) (clock : C) (now : Option ℕ) (outcome : Result (Unit {0}) Cut)
        → TicksIfDue o gives old.pass old.clock old.last ticked clock now outcome → IsPrefix old.pass.seen ticked.seen
    tick_begins old ticked clock now outcome t = ticks_begin (is_tick_due old.last t.moment) old.pass ticked t.moment old.last now outcome t.ticks

    keeps_turn : (old new : TimerState P C) → IsTimerTurn o stopped faults gives old new → Keeps old → Keeps new
    keeps_turn old new turn k = record {
      distinct = distinct_all stopped faults turn.stops k.distinct;
      asked = λ number h. by_case number (from_all stopped faults number turn.stops h);
    }
      where
        by_case : (number : ℕ) → ((is_in old.stopped number ≡ true) ⊎ (is_in turn.asked number ≡ true)) → WasAsked o new.pass number
        by_case number (inl a) = asked_more old.pass new.pass number
            (prefix_trans old.pass.seen turn.ticked.seen new.pass.seen (tick_begins old turn.ticked new.clock new.last (Ok tt) turn.ticks) turn.looks.sees.more.begins)
            (k.asked number a)
        by_case number (inr b) = record {
          before = new.pass.seen;
          begins = prefix_self new.pass.seen;
          asked = subst (λ numbers. is_in numbers number ≡ true) turn.looks.shown b;
        }

    keeps_all : (start : TimerState P C) {now : TimerState P C} → AreTimerTurns o stopped faults gives pauses start now → Keeps start → Keeps now
    keeps_all start none k = k
    keeps_all start (more before turned paused turns turn pause) k = let it = keeps_turn before turned turn (keeps_all start turns k) in
        record { distinct = it.distinct; asked = it.asked }

    -- a turn that is cut short keeps what the timer keeps
    cut_begins : (outcome : Result (Unit {0}) Cut) (ticked q : Caller) (cut : Cut) → CutsBy o outcome ticked q cut → IsPrefix ticked.seen q.seen
    cut_begins (Ok u) ticked q cut c = c.0.more.begins
    cut_begins (Err why) ticked q cut c = subst (λ z. IsPrefix ticked.seen z.seen) (sym c.0) (prefix_self ticked.seen)

    keeps_cut : (cut : Cut) (old new : TimerState P C) → IsTimerCut o stopped faults gives cut old new → Keeps old → Keeps new
    keeps_cut cut old new c k = record {
      distinct = subst (AreDistinct nat_eq) (sym c.same_stopped) k.distinct;
      asked = λ number h. asked_more old.pass new.pass number
          (prefix_trans old.pass.seen c.ticked.seen new.pass.seen (tick_begins old c.ticked new.clock new.last c.outcome c.ticks) (cut_begins c.outcome c.ticked new.pass cut c.cuts))
          (k.asked number (subst (λ numbers. is_in numbers number ≡ true) c.same_stopped h));
    }

    keeps_start : (p : Caller) (s : P) (c : C) → Keeps (timer_at_start p s c)
    keeps_start p s c = record { distinct = tt; asked = λ number h. absurd (cc h) }

    -- the count of faults does not fall over turns
    later_turns : (start : TimerState P C) {now : TimerState P C} → AreTimerTurns o stopped faults gives pauses start now → faults start.stopper ≤ faults now.stopper
    later_turns start none = omega arith
    later_turns start (more before turned paused turns turn pause) = let a = later_turns start turns in let b = later_all stopped faults turn.stops in omega arith

    -- a timer that ended after a whole turn
    ended : (start now : TimerState P C) → EndsAfterTurn o stopped faults gives pauses start now → AreAllStopped o now.pass now.stopped (faults start.stopper) (faults now.stopper)
    ended start now e = subst (λ z. AreAllStopped o z.pass z.stopped (faults start.stopper) (faults z.stopper)) (sym e.paused) (λ lt.
        let few = few_left stopped faults e.turn.stops lt in
        let le = later_turns start e.turns in
        let same = ap (λ xs. left_out xs e.turned.stopped) e.turn.looks.shown in
        omega arith)

    keeps_end : (why : LaneEnd) (start now : TimerState P C) → IsTimer o stopped faults gives pauses start now why → Keeps start → Keeps now
    keeps_end end.Ended start now e k = let it = keeps_turn e.before e.turned e.turn (keeps_all start e.turns k) in
        subst Keeps (sym e.paused) (record { distinct = it.distinct; asked = it.asked })
    keeps_end end.JournalFull start now e k = keeps_cut _ e.before now e.last (keeps_all start e.turns k)
    keeps_end end.Memory start now e k = keeps_cut _ e.before now e.last (keeps_all start e.turns k)

    all_stopped : (why : LaneEnd) (start now : TimerState P C) → IsTimer o stopped faults gives pauses start now why → why ≡ end.Ended
        → AreAllStopped o now.pass now.stopped (faults start.stopper) (faults now.stopper)
    all_stopped end.Ended start now e is = ended start now e
    all_stopped end.JournalFull start now e is = absurd (cc is)
    all_stopped end.Memory start now e is = absurd (cc is)

    -- a timer by all its turns
    pub runs_timer : (p : Caller) (s : P) (c : C) (q : Caller) (t : P) (d : C) (last : Option ℕ) (numbers : List ℕ) (why : LaneEnd)
        → IsTimer o stopped faults gives pauses (timer_at_start p s c) (record { pass = q; stopper = t; clock = d; last = last; stopped = numbers }) why
        → RunsTimer o stopped faults gives pauses p s c q t d why
    runs_timer p s c q t d last numbers why turns =
        let now : TimerState P C = record { pass = q; stopper = t; clock = d; last = last; stopped = numbers } in
        let kept = keeps_end why (timer_at_start p s c) now turns (keeps_start p s c) in
        record {
          last = last;
          numbers = numbers;
          turns = turns;
          distinct = kept.distinct;
          asked = kept.asked;
          all = all_stopped why (timer_at_start p s c) now turns;
        }

    -- a timer whose last turn was cut short, by why it ended
    pub cut_timer : (cut : Cut) (start now : TimerState P C) → EndsInTurn o stopped faults gives pauses cut start now → IsTimer o stopped faults gives pauses start now (end_of cut)
    cut_timer Full start now e = e
    cut_timer NoMemory start now e = e
