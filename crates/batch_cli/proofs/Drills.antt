-- A desk goes on by one call more of a drill.
use Rattle.std.proofs.Common.{◌≡◌, ◌≤◌, ◌<◌, ◌+◌, ◌-◌, ◌*◌, ℕ, suc, Bool, true, false, List, [], ◌∷◌, ◌++◌}
use Rattle.std.proofs.Common.{Option, Some, None, cond, length, refl, ap, ◌∙◌, sym, subst, arith, inl, inr, nat_lt, nat_eq}
use Rattle.std.specs.Prelude.{IsSomeAnd, IfSome, IfNone}
use Rattle.std.specs.Option.{option_map}
use Rattle.std.proofs.lemmas.Bool.{ltb-true}
use Rattle.std.proofs.lemmas.List.{length_push, append-nil}
use Rattle.std.proofs.lemmas.Option.{same_Some}
use Rattle.bt_rows.specs.declared.event.EventKind.{EventKind}
use Rattle.bt_rows.specs.declared.event.EventKind.TheVariants.{Take}
use Rattle.batch_model.specs.Variants.{State}
use Rattle.batch_desk.specs.declared.entry.Entry.{Entry}
use Rattle.batch_desk.specs.declared.entry.Stop.TheVariants.{Rest, KeeperFault as FaultStop, Memory as MemoryStop}
use Rattle.batch_desk.specs.declared.answer.Answer.{Answer}
use Rattle.batch_desk.specs.declared.answer.Answer.TheVariants.{Done, KeeperFault, JournalFull, Memory}
use Rattle.batch_desk.specs.Kept.{Desk}
use Rattle.batch_desk.specs.History.{asked_of, after_call, after_all, faults_of, fault_count}
use Rattle.batch_desk.specs.Answers.{AnswersCall, Enters, HasSameOpening, Begins, IsInOrder}
use Rattle.batch_cli.specs.Shown.{memory_stops, ran_out}
use Rattle.batch_cli.specs.Advance.{RoseBy}
use Rattle.batch_cli.specs.declared.drill.limits.TheConstants.{DRILL_MOMENT_MS}
use Rattle.run_index.specs.Queued.{lowest_queued}
use Rattle.batch_cli.specs.Drill.{Asked, asks, Drills, next_state}
use Rattle.batch_cli.specs.Drilling.{calls_left, turn_calls, MadeCall, SettledCall, StopsAt, Steps, StopsStep, before_call, in_call}
use Rattle.batch_cli.specs.Drilling.{DrillGoing, DrillWhole, DrillPart}
use Rattle.batch_cli.specs.declared.drill.stage.Stage.{Stage}
use Rattle.batch_cli.specs.declared.drill.stage.Stage.TheVariants.{AddingPool, AddingJob, AddingTask, Turning, Ending}
use Rattle.batch_cli.proofs.GoingOn.{stops_append, faults_append, same_on, settled_added}

-- what follows from what holds of the value that is there
some_and_then : {A : Type 0} {P Q : A → Type 0} (o : Option A) → ((a : A) → P a → Q a) → IsSomeAnd o P → IsSomeAnd o Q
some_and_then None f h = h
some_and_then (Some a) f h = f a h

-- the calls of a drill, and the next one
drills_push : (seats : ℕ) (es : List Entry) (stage : Stage) (s : State) (last next : Stage) (call : ℕ × EventKind) (e : Entry) →
    Drills stage seats s es last → asks last (after_all seats s es) ≡ Some (call, next) → asked_of e ≡ call → Drills stage seats s (es ++ e ∷ []) next
drills_push seats [] stage s last next call e d asked is =
    let here : asks stage s ≡ Some (call, next) = ap (λ at. asks at s) d ∙ asked in
    subst (λ o. IsSomeAnd o (λ a. (asked_of e ≡ a.0) × (a.1 ≡ next))) (sym here) (is, refl)
drills_push seats (x ∷ es) stage s last next call e d asked is =
    some_and_then (asks stage s) (λ a h. (h.0, drills_push seats es a.1 (after_call seats s x) last next call e h.1 asked is)) d

-- after a task, one call less is left
left_after_task : (number count x : ℕ) (b : Bool) → nat_lt number count ≡ b →
    suc (calls_left (cond b (AddingTask (number + 1) count x) (Turning (4 * count + 16) x))) ≡ suc (count - number) + turn_calls count
left_after_task number count x true h = omega (arith, ltb-true number count h)
left_after_task number count x false h = let le : count ≤ number = grind arith in omega arith

-- in a turn, one call less is left
left_in_turn : (left x : ℕ) (call : ℕ × EventKind) (next : Stage) (b : Bool) (lowest : Option ℕ) → nat_eq left 0 ≡ b →
    cond {A = Option Asked} b None (option_map (λ run. ((DRILL_MOMENT_MS, Take run), Ending run (left - 1) x)) lowest) ≡ Some (call, next) →
    2 * left ≡ suc (calls_left next)
left_in_turn left x call next true lowest h e = absurd (cc)
left_in_turn left x call next false None h e = absurd (cc)
left_in_turn left x call next false (Some run) h e =
    let n : Ending run (left - 1) x ≡ next = ap (λ a. a.1) (same_Some _ _ e) in
    let some : left ≡ 0 → ⊥ = λ z. grind (arith, z, h) in
    omega (arith, some, ap calls_left n)

-- each call leaves one call less
pub left_after : (stage next : Stage) (s : State) (call : ℕ × EventKind) → asks stage s ≡ Some (call, next) → calls_left stage ≡ suc (calls_left next)
left_after (AddingPool count) next s call e = let n = ap (λ a. calls_left a.1) (same_Some _ _ e) in omega (arith, n)
left_after (AddingJob count) next s call e = let n = ap (λ a. calls_left a.1) (same_Some _ _ e) in omega (arith, n)
left_after (AddingTask number count x) next s call e =
    let n = ap (λ a. calls_left a.1) (same_Some _ _ e) in
    omega (arith, n, left_after_task number count (next_state (next_state x)) (nat_lt number count) refl)
left_after (Turning left x) next s call e = left_in_turn left x call next (nat_eq left 0) (lowest_queued s.runs) refl e
left_after (Ending run left x) next s call e = let n = ap (λ a. calls_left a.1) (same_Some _ _ e) in omega (arith, n)

-- a call that has an entry
made_call : {K : Type 0} {old new : Desk K} {e : Entry} {answer : Answer} (faults : K → ℕ) → Enters old new e answer →
    RoseBy (faults_of e) (faults old.keeper) (faults new.keeper) → MadeCall faults old new (asked_of e)
made_call {K} {old} {new} {e} {answer} faults enters rose = record { entry = e; entries = enters.entries; asked = refl; rose = rose }

-- a call whose answer lets the drill go on
pub call_settles : {K : Type 0} {old new : Desk K} (faults : K → ℕ) (moment : ℕ) (event : EventKind) (answer : Answer) →
    faults old.keeper ≤ faults new.keeper → length old.entries < old.limit → AnswersCall faults old new moment event answer → ran_out answer ≡ false →
    SettledCall faults old new (moment, event)
unfolding made_call
call_settles faults moment event (Done reply dues Rest) later room a go = record { made = made_call faults a.0 (omega arith); settled = refl }
call_settles faults moment event (Done reply dues FaultStop) later room a go = record { made = made_call faults a.0 (a.1 refl); settled = refl }
call_settles faults moment event (Done reply dues MemoryStop) later room a go = absurd (cc)
call_settles faults moment event KeeperFault later room a go = record { made = made_call faults a.0 a.1; settled = refl }
call_settles faults moment event JournalFull later room a go = absurd (omega (arith, a.0))
call_settles faults moment event Memory later room a go = absurd (cc)

-- the tables of a desk in order are those after its journal
pub state_after : {K : Type 0} {told : K → Option State} {faults : K → ℕ} {start now : Desk K} → Begins start start.seats start.limit →
    HasSameOpening start now → IsInOrder told faults now → now.state ≡ after_all start.seats start.state now.entries
state_after {K} {told} {faults} {start} {now} begins same in_order =
    in_order.state
    ∙ ap (λ seats. after_all seats now.opened now.entries) same.seats
    ∙ ap (λ s. after_all start.seats s now.entries) (same.opened ∙ sym begins.state)

-- one call more was made
pub drill_on : {K : Type 0} {faults : K → ℕ} {start old new : Desk K} {count : ℕ} {stage : Stage} (next : Stage) → DrillGoing faults start old count stage →
    old.state ≡ after_all start.seats start.state old.entries → HasSameOpening old new → Steps faults old new stage next →
    DrillGoing faults start new count next
drill_on {K} {faults} {start} {old} {new} {count} {stage} next g state same step =
    let made = step.made.made in
    let e = made.entry in
    let asked : asks stage (after_all start.seats start.state old.entries) ≡ Some (step.call, next) = ap (asks stage) (sym state) ∙ step.asked in
    record {
      drills = subst (λ (es : List Entry). Drills (AddingPool count) start.seats start.state es next) (sym made.entries)
          (drills_push start.seats old.entries (AddingPool count) start.state stage next step.call e g.drills asked made.asked);
      calls = omega (arith, g.calls, left_after stage next old.state step.call step.asked, ap length made.entries, length_push old.entries e);
      rose = omega (arith, g.rose, made.rose, ap fault_count made.entries, faults_append old.entries (e ∷ []));
      settled = omega (arith, g.settled, step.made.settled, ap memory_stops made.entries, stops_append old.entries (e ∷ []));
      same = same_on g.same same;
    }

-- all calls were made
pub drill_ends : {K : Type 0} {faults : K → ℕ} {start now : Desk K} {count : ℕ} {stage : Stage} → DrillGoing faults start now count stage →
    now.state ≡ after_all start.seats start.state now.entries → asks stage now.state ≡ None → DrillWhole faults start now count
drill_ends {K} {faults} {start} {now} {count} {stage} g state none = record {
  drilled = record { begun = record { last = stage; drills = g.drills }; ended = ap (asks stage) (sym state) ∙ none };
  rose = g.rose;
  settled = g.settled;
  same = g.same;
}

-- the drill ends at a call
pub drill_stops : {K : Type 0} {faults : K → ℕ} {start old new : Desk K} {count : ℕ} {stage : Stage} → DrillGoing faults start old count stage →
    old.state ≡ after_all start.seats start.state old.entries → HasSameOpening old new → faults old.keeper ≤ faults new.keeper →
    StopsStep faults old new stage → DrillPart faults start new count
drill_stops {K} {faults} {start} {old} {new} {count} {stage} g state same later (before_call stays) = record {
  begun = record {
    last = stage;
    drills = subst (λ (es : List Entry). Drills (AddingPool count) start.seats start.state es stage) (sym stays.entries) g.drills;
  };
  rose = omega (arith, g.rose, later, ap fault_count stays.entries);
  settled = settled_added old.entries new.entries [] (stays.entries ∙ sym (append-nil old.entries)) (omega arith) g.settled;
  same = same_on g.same same;
}
drill_stops {K} {faults} {start} {old} {new} {count} {stage} g state same later (in_call call next asked made) =
    let e = made.entry in
    let at_all : asks stage (after_all start.seats start.state old.entries) ≡ Some (call, next) = ap (asks stage) (sym state) ∙ asked in
    record {
      begun = record {
        last = next;
        drills = subst (λ (es : List Entry). Drills (AddingPool count) start.seats start.state es next) (sym made.entries)
            (drills_push start.seats old.entries (AddingPool count) start.state stage next call e g.drills at_all made.asked);
      };
      rose = omega (arith, g.rose, made.rose, ap fault_count made.entries, faults_append old.entries (e ∷ []));
      settled = settled_added old.entries new.entries (e ∷ []) made.entries (omega arith) g.settled;
      same = same_on g.same same;
    }

-- the desk was left as it was at the call that is asked, or made it
pub step_stops : {K : Type 0} {faults : K → ℕ} {old new : Desk K} {stage next : Stage} {call : ℕ × EventKind} → asks stage old.state ≡ Some (call, next) →
    StopsAt faults old new call → StopsStep faults old new stage
step_stops {K} {faults} {old} {new} {stage} {next} {call} asked (inl stays) = before_call stays
step_stops {K} {faults} {old} {new} {stage} {next} {call} asked (inr made) = in_call call next asked made

-- the step to the stage that is there
pub step_at : {K : Type 0} {faults : K → ℕ} {old new : Desk K} {stage next : Stage} {after : Option Stage} → after ≡ Some next →
    IfSome after (Steps faults old new stage) → Steps faults old new stage next
step_at {K} {faults} {old} {new} {stage} {next} {after} e h = subst (λ o. IfSome o (Steps faults old new stage)) e h

-- what holds if there is no stage
pub end_at : {P : Type 0} (after : Option Stage) → ((next : Stage) → after ≡ Some next → ⊥) → IfNone after P → P
end_at None none h = h
end_at (Some next) none h = absurd (none next refl)
