-- The first tick of a timer in what its pass has seen.
use Rattle.std.proofs.Common.{◌≡◌, ℕ, true, false, Bool, Option, List, [], ◌∷◌, ◌++◌, refl, sym, ap, subst, ◌∙◌, append_assoc}
use Rattle.std.specs.Prelude.{Result, Ok}
use mathlib.Core.List.{IsPrefix}
use Rattle.bt_rows.specs.declared.event.EventKind.TheVariants.{Tick}
use Rattle.batch_desk.specs.declared.answer.Answer.{Answer}
use Rattle.batch_desk.specs.declared.answer.Answer.TheVariants.{Done, KeeperFault, JournalFull, Memory}
use Rattle.batch_desk.specs.declared.entry.Entry.{Entry}
use Rattle.child_runs.specs.Stops.{Stop}
use Rattle.counted_lock.proofs.Prefixes.{prefix_self, prefix_trans}
use Rattle.shared_desk.specs.Openings.{Opening}
use Rattle.shared_desk.specs.Sharing.{Caller, calls_of, Asked}
use Rattle.batch_crew.specs.declared.cut.Cut.{Cut}
use Rattle.batch_crew.specs.declared.cut.LaneEnd.TheVariants as end
use Rattle.batch_crew.specs.Journals.{TicksFirst}
use Rattle.batch_crew.specs.Timers.{tick_outcome, TicksWhen, is_tick_due, TimerState, timer_at_start, IsTimerTurn, AreTimerTurns, none, more, RunsTimer}
use Rattle.batch_crew.proofs.Added.{calls_begin, Adds, adds_entry}
use Rattle.batch_crew.proofs.Turns.{asked_begins}

tick_stays : {C : Type 0} (gives : C → ℕ → C → Type 0) (entries all : List Entry) (clock : C) → IsPrefix entries all → TicksFirst gives entries clock
    → TicksFirst gives all clock
tick_stays gives entries all clock begins t = record {
  moment = t.moment;
  later = t.later;
  gave = t.gave;
  before = t.before;
  tick = t.tick;
  after = t.after ++ begins.0;
  place = sym begins.1 ∙ (ap (λ es. es ++ begins.0) t.place ∙ append_assoc t.before (t.tick ∷ t.after) begins.0);
  at = t.at;
  event = t.event;
}

-- a tick at this moment was entered, by a call that was made or that a keeper fault left undone
record AddsTick (p q : Caller) (moment : ℕ) : Type 0 where
  entry : Entry
  adds : Adds p q entry
  at : entry.moment ≡ moment
  event : entry.event ≡ Tick

module _ (o : Opening) where
  asked_tick : (p q : Caller) (moment : ℕ) (answer : Answer) → Asked o p q moment Tick answer → Ok tt ≡ tick_outcome answer → AddsTick p q moment
  asked_tick p q moment (Done reply dues stop) a is = record { entry = _; adds = adds_entry o p q _ (Done reply dues stop) a; at = refl; event = refl }
  asked_tick p q moment KeeperFault a is = record { entry = _; adds = adds_entry o p q _ KeeperFault a; at = refl; event = refl }
  asked_tick p q moment JournalFull a is = absurd (cc is)
  asked_tick p q moment Memory a is = absurd (cc is)

  due_begins : (due : Bool) (p q : Caller) (moment : ℕ) (last now : Option ℕ) (outcome : Result (Unit {0}) Cut)
      → TicksWhen o due p last q moment now outcome → IsPrefix p.seen q.seen
  due_begins true p q moment last now outcome t = asked_begins o p q moment Tick t.answer t.asked
  due_begins false p q moment last now outcome t = subst (λ z. IsPrefix p.seen z.seen) (sym t.0) (prefix_self p.seen)

  module _ {P C : Type 0} (stopped : P → Stop → P → Type 0) (faults : P → ℕ) (gives : C → ℕ → C → Type 0) (pauses : C → Bool → C → Type 0) where
    turn_begins : (old new : TimerState P C) → IsTimerTurn o stopped faults gives old new → IsPrefix old.pass.seen new.pass.seen
    turn_begins old new turn = prefix_trans old.pass.seen turn.ticked.seen new.pass.seen
        (due_begins (is_tick_due old.last turn.ticks.moment) old.pass turn.ticked turn.ticks.moment old.last new.last (Ok tt) turn.ticks.ticks)
        turn.looks.sees.more.begins

    -- after a first turn
    first_turn : (p : Caller) (s : P) (c : C) (new : TimerState P C) → IsTimerTurn o stopped faults gives (timer_at_start p s c) new
        → TicksFirst gives (calls_of new.pass.seen) c
    first_turn p s c new turn =
        let made = asked_tick p turn.ticked turn.ticks.moment turn.ticks.ticks.answer turn.ticks.ticks.asked turn.ticks.ticks.came in
        let goes = calls_begin turn.ticked.seen new.pass.seen turn.looks.sees.more.begins in
        tick_stays gives (calls_of turn.ticked.seen) (calls_of new.pass.seen) c goes (record {
          moment = turn.ticks.moment;
          later = new.clock;
          gave = turn.ticks.given;
          before = calls_of p.seen ++ made.adds.others;
          tick = made.entry;
          after = [];
          place = made.adds.place;
          at = made.at;
          event = made.event;
        })

    -- after any number of turns and one more
    some_turns : (p : Caller) (s : P) (c : C) {old : TimerState P C} (new : TimerState P C) → AreTimerTurns o stopped faults gives pauses (timer_at_start p s c) old
        → IsTimerTurn o stopped faults gives old new → TicksFirst gives (calls_of new.pass.seen) c
    some_turns p s c new none turn = first_turn p s c new turn
    some_turns p s c new (more before turned paused turns last pause) turn =
        tick_stays gives (calls_of turned.pass.seen) (calls_of new.pass.seen) c (calls_begin turned.pass.seen new.pass.seen (turn_begins _ new turn))
        (some_turns p s c turned turns last)

    -- the first tick of a timer that ended because its clock said so stands in a journal that begins with what its pass has seen
    pub timer_ticks : (entries : List Entry) (p : Caller) (s : P) (c : C) (q : Caller) (t : P) (d : C)
        → RunsTimer o stopped faults gives pauses p s c q t d end.Ended → IsPrefix (calls_of q.seen) entries → TicksFirst gives entries c
    timer_ticks entries p s c q t d timer begins =
        let turned = timer.turns.turned in
        let is : turned.pass ≡ q = sym (ap (λ (z : TimerState P C). z.pass) timer.turns.paused) in
        tick_stays gives (calls_of q.seen) entries c begins
        (subst (λ z. TicksFirst gives (calls_of z.seen) c) is (some_turns p s c turned timer.turns.turns timer.turns.turn))
