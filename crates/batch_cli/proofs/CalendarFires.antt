-- Each call of the turns of schedules is shown, with its answer.
use Rattle.std.proofs.Common.{◌≡◌, ◌+◌, ◌||◌, ℕ, suc, Bool, true, false, List, [], ◌∷◌, ◌++◌, length, Option, Some, None, Result, refl, sym, ap, ◌∙◌}
use Rattle.std.proofs.Common.{arith, nat_eq, subst, if◌then◌else◌}
use Rattle.std.specs.List.{flat_map, list_any}
use Rattle.bt_base.specs.declared.memory.NoMemory.{NoMemory}
use Rattle.bt_rows.specs.declared.event.EventKind.{EventKind}
use Rattle.bt_rows.specs.declared.reply.Reply.{Reply}
use Rattle.batch_desk.specs.Exchanges.{Exchange, Called, Looked}
use Rattle.batch_desk.specs.Desks.{entries_of, call_entries}
use Rattle.batch_desk.specs.declared.answer.Answer.{Answer}
use Rattle.batch_desk.specs.declared.answer.Answer.TheVariants.{Done, KeeperFault, JournalFull, Memory}
use Rattle.batch_desk.specs.declared.entry.Stop.TheVariants.{Rest, KeeperFault as FaultStop, Memory as MemoryStop}
use Rattle.batch_cli.specs.Shown.{memory_stops, ran_out}
use Rattle.batch_cli.proofs.GoingOn.{stops_append}
use Rattle.schedule_rows.specs.Fires.{fire_of, fires_of}
use Rattle.schedule_rows.specs.Interactions.{Interaction, Ends, Passes, Asks, Looks, Reaches}
use Rattle.schedule_rows.specs.Jobs.{add_tasks_asked, patch_asked, job_read, has_tasks}
use Rattle.schedule_rows.specs.Occurrences.{firing_at, completed_at}
use Rattle.schedule_rows.specs.Rows.{Schedule}
use Rattle.schedule_rows.specs.Turns.{Part, outcome_of, is_made, is_free, fired_for, at_stage, after_patch, patches, after_tasks, adds_tasks}
use Rattle.schedule_rows.specs.Turns.{after_job, adds_job, after_look, adds_job_if_free, fires_for, fires, retries_stage, ends_turn}
use Rattle.schedule_rows.specs.Turns.{turn, turns}
use Rattle.schedule_rows.specs.declared.fire.Fire.{Fire}
use Rattle.schedule_rows.specs.declared.outcome.CallOutcome.{CallOutcome}
use Rattle.schedule_rows.specs.declared.outcome.CallOutcome.TheVariants.{Created, Made, Missed, OutOfMemory}
use Rattle.schedule_rows.specs.declared.stage.Stage.{Stage}
use Rattle.schedule_rows.specs.declared.stage.Stage.TheVariants.{Idle, Tasks, Patch}

-- a call of the event is one fire, with its answer
pub record IsOneFire (event : EventKind) (answer : Answer) : Type 0 where
  pub fire : Fire
  pub one : fire_of event answer ≡ fire ∷ []
  pub answered : fire.answer ≡ answer

-- each call of the interaction is one fire
abbrev pub FiresAll : Interaction → Type 0
FiresAll (Ends rows) = Unit {0}
FiresAll (Passes rows rest) = FiresAll rest
FiresAll (Asks rows moment event rest) = (answer : Answer) → IsOneFire event answer × FiresAll (rest answer)
FiresAll (Looks rows read rest) = (reply : Result Reply NoMemory) → FiresAll (rest reply)

abbrev FiresPart : Part → Type 0
FiresPart part = (put : Schedule → List Schedule) (next : Schedule → Interaction) → ((s : Schedule) → FiresAll (next s)) → FiresAll (part put next)

either : (b : Bool) (p q : Part) → FiresPart p → FiresPart q → FiresPart (λ put next. if b then p put next else q put next)
either true p q first second = first
either false p q first second = second

patches_fire : (now : ℕ) (s : Schedule) → FiresPart (patches now s)
patches_fire now s =
    either s.job.on_all (λ put next. Asks (put s) now (patch_asked s) (λ answer. after_patch s (outcome_of answer) put next)) (λ put next. next
    (at_stage Idle s))
    (λ put next h answer. (record { fire = _; one = refl; answered = refl }, h (if is_made (outcome_of answer) then at_stage Idle s else s)))
    (λ put next h. h (at_stage Idle s))

tasks_fire : (now : ℕ) (s : Schedule) → FiresPart (adds_tasks now s)
tasks_fire now s =
    either (has_tasks s) (λ put next. Asks (put s) now (add_tasks_asked s) (λ answer. after_tasks now s (outcome_of answer) put next)) (patches now
    (at_stage Patch s))
    (λ put next h answer. (
      record { fire = _; one = refl; answered = refl },
      either (is_made (outcome_of answer)) (patches now (at_stage Patch s)) (λ put' next'. next' s) (patches_fire now (at_stage Patch s)) (λ put' next' h'. h' s)
          put next h,
    ))
    (patches_fire now (at_stage Patch s))

after_job_fires : (now k : ℕ) (s : Schedule) (outcome : CallOutcome) → FiresPart (after_job now k s outcome)
after_job_fires now k s Created = tasks_fire now (at_stage Tasks (fired_for k s))
after_job_fires now k s Made = λ put next h. h (fired_for k s)
after_job_fires now k s Missed = λ put next h. h s
after_job_fires now k s OutOfMemory = λ put next h. h s

job_fires : (now k : ℕ) (s : Schedule) → FiresPart (adds_job now k s)
job_fires now k s put next h answer = (record { fire = _; one = refl; answered = refl }, after_job_fires now k s (outcome_of answer) put next h)

if_free_fires : (now k : ℕ) (s : Schedule) → FiresPart (adds_job_if_free now k s)
if_free_fires now k s =
    either (nat_eq s.number 0) (adds_job now k s) (λ put next. Looks (put s) (job_read s) (λ shown. after_look now k s shown put next)) (job_fires now k s)
    (λ put next h reply. either (is_free reply) (adds_job now k s) (λ put' next'. next' s) (job_fires now k s) (λ put' next' h'. h' s) put next h)

fires_for_fires : (now : ℕ) (s : Schedule) (due : Option ℕ) → FiresPart (fires_for now s due)
fires_for_fires now s None = λ put next h. h s
fires_for_fires now s (Some k) = if_free_fires now k s

stage_fires : (now : ℕ) (stage : Stage) (s : Schedule) → FiresPart (retries_stage now stage s)
stage_fires now Idle s = λ put next h. h s
stage_fires now Tasks s = tasks_fire now s
stage_fires now Patch s = patches_fire now s

turn_fires : (now : ℕ) (s : Schedule) → FiresPart (turn now s)
turn_fires now s put next h =
    stage_fires now s.stage s put (λ row. fires now row put (λ last. ends_turn now last put next))
    (λ row. fires_for_fires now row (firing_at now row) put (λ last. ends_turn now last put next) (λ last. h (completed_at now last)))

-- each call of the turns is one fire
pub turns_fire : (now : ℕ) (done rows : List Schedule) → FiresAll (turns now done rows)
turns_fire now done [] = tt
turns_fire now done (s ∷ rest) =
    turn_fires now s (λ row. done ++ row ∷ rest) (λ row. turns now (done ++ row ∷ []) rest) (λ row. turns_fire now (done ++ row ∷ []) rest)

-- a call among exchanges
abbrev pub calls_in : Exchange → List (ℕ × EventKind)
calls_in (Called moment event answer) = (moment, event) ∷ []
calls_in (Looked read reply) = []

abbrev pub any_ran_out : List Fire → Bool
any_ran_out fires = list_any (λ fire. ran_out fire.answer) fires

-- the fires are as many as the calls, and if no due steps of theirs stopped because memory ran out, none in the entries did
pub record FiresMatch (xs : List Exchange) : Type 0 where
  pub count : length (fires_of xs) ≡ length (flat_map calls_in xs)
  pub settled : any_ran_out (fires_of xs) ≡ false → memory_stops (flat_map entries_of xs) ≡ 0

pub stops_of_call : (moment : ℕ) (event : EventKind) (answer : Answer) → ran_out answer ≡ false → memory_stops (call_entries moment event answer) ≡ 0
stops_of_call moment event (Done reply dues Rest) h = refl
stops_of_call moment event (Done reply dues FaultStop) h = refl
stops_of_call moment event (Done reply dues MemoryStop) h = absurd (cc)
stops_of_call moment event KeeperFault h = refl
stops_of_call moment event JournalFull h = refl
stops_of_call moment event Memory h = absurd (cc)

pub or_left : (a b : Bool) → (a || b) ≡ false → a ≡ false
or_left false b h = refl
or_left true b h = h

pub or_right : (a b : Bool) → (a || b) ≡ false → b ≡ false
or_right false b h = h
or_right true b h = absurd (cc)

one_more : (moment : ℕ) (event : EventKind) (answer : Answer) (xs : List Exchange) → IsOneFire event answer → FiresMatch xs →
    FiresMatch (Called moment event answer ∷ xs)
one_more moment event answer xs one rest =
    let fires : fires_of (Called moment event answer ∷ xs) ≡ one.fire ∷ fires_of xs = ap (λ w. w ++ fires_of xs) one.one in
    record {
      count = ap length fires ∙ ap suc rest.count;
      settled = λ h.
          let all : (ran_out one.fire.answer || any_ran_out (fires_of xs)) ≡ false = sym (ap any_ran_out fires) ∙ h in
          let first : memory_stops (call_entries moment event answer) ≡ 0 = stops_of_call moment event answer
          (sym (ap ran_out one.answered) ∙ or_left (ran_out one.fire.answer) (any_ran_out (fires_of xs)) all) in
          stops_append (call_entries moment event answer) (flat_map entries_of xs)
          ∙ omega (arith, first, rest.settled (or_right (ran_out one.fire.answer) (any_ran_out (fires_of xs)) all));
    }

pub fires_match : (interaction point : Interaction) (xs : List Exchange) → FiresAll interaction → Reaches interaction xs point → FiresMatch xs
fires_match interaction point [] f h = record { count = refl; settled = λ none. refl }
fires_match (Ends rows) point (x ∷ xs) f h = absurd h
fires_match (Passes rows rest) point (x ∷ xs) f h = fires_match rest point (x ∷ xs) f h
fires_match (Asks rows moment event rest) point (Called at asked answer ∷ xs) f h =
    let more = fires_match (rest answer) point xs (f answer).1 h.2 in
    let P : EventKind → Type 0 = λ e. FiresMatch (Called at e answer ∷ xs) in
    subst P (sym h.1) (one_more at event answer xs (f answer).0 more)
fires_match (Asks rows moment event rest) point (Looked read reply ∷ xs) f h = absurd h
fires_match (Looks rows read rest) point (Called at asked answer ∷ xs) f h = absurd h
fires_match (Looks rows read rest) point (Looked asked reply ∷ xs) f h =
    let more = fires_match (rest reply) point xs (f reply) h.1 in
    record { count = more.count; settled = more.settled }
