-- The turn of a schedule that was cut because memory ran out: it is the beginning of a whole turn in which all that follows fails.
use Rattle.std.proofs.Common.{◌≡◌, ℕ, Bool, true, false, List, [], ◌∷◌, ◌++◌, ◌⊎◌, inl, inr, Option, Some, None, Result, Ok, Err, map, refl, sym, ap, ◌∙◌, subst}
use Rattle.std.proofs.Common.{append-nil, nat_eq, if◌then◌else◌}
use Rattle.std.proofs.lemmas.Grind.{flat_map-append}
use Rattle.bt_base.specs.declared.memory.NoMemory.{NoMemory}
use Rattle.bt_rows.specs.declared.event.EventKind.{EventKind}
use Rattle.bt_rows.specs.declared.reply.Reply.{Reply}
use Rattle.bt_rows.specs.declared.reply.Reply.TheVariants as replies
use Rattle.table_reads.specs.declared.request.Read.{Read}
use Rattle.batch_desk.specs.declared.answer.Answer.{Answer}
use Rattle.batch_desk.specs.declared.answer.Answer.TheVariants as answers
use Rattle.batch_desk.specs.Exchanges.{Exchange, Called, Looked}
use Rattle.schedule_rows.specs.Interactions.{Interaction, Ends, Passes, Asks, Looks, Reaches, StandsAt, IsBegun}
use Rattle.schedule_rows.specs.Jobs.{add_job_asked, add_tasks_asked, patch_asked, job_read, has_tasks}
use Rattle.schedule_rows.specs.Occurrences.{firing_at, is_over, is_idle, completed_at}
use Rattle.schedule_rows.specs.Rows.{Schedule}
use Rattle.schedule_rows.specs.Turns.{Part, outcome_of, is_made, is_free, fired_for, at_stage, after_patch, patches, after_tasks, adds_tasks}
use Rattle.schedule_rows.specs.Turns.{after_job, adds_job, after_look, adds_job_if_free, fires_for, fires, retries_stage, ends_turn, turn, turns}
use Rattle.schedule_rows.specs.declared.outcome.CallOutcome.{CallOutcome}
use Rattle.schedule_rows.specs.declared.outcome.CallOutcome.TheVariants.{Created, Made, Missed, OutOfMemory}
use Rattle.schedule_rows.specs.declared.stage.Stage.{Stage}
use Rattle.schedule_rows.specs.declared.stage.Stage.TheVariants.{Idle, Tasks, Patch}
use Rattle.schedule_rows.specs.declared.stage.ScheduleState.TheVariants.{Completed}
use Rattle.schedule_laws.specs.Laws.{made_by, jobs_made, MakesNone, WasFree, MakesOne}
use Rattle.schedule_laws.proofs.Reaching.{passed, reaches_on}
use Rattle.schedule_laws.proofs.Turns.{one_at_most}

-- what a schedule keeps unless it makes a job
abbrev Key : Type 0
Key = List ℕ × ℕ × Option ℕ

abbrev key : Schedule → Key
key s = (s.id, s.number, s.last)

-- the rows at the end, if all that follows fails
abbrev ends_as : Interaction → List Schedule
ends_as (Ends rows) = rows
ends_as (Passes rows next) = ends_as next
ends_as (Asks rows moment event next) = ends_as (next answers.KeeperFault)
ends_as (Looks rows read next) = ends_as (next (Ok (replies.Status 0)))

-- the exchanges until then
abbrev missed : Interaction → List Exchange
missed (Ends rows) = []
missed (Passes rows next) = missed next
missed (Asks rows moment event next) = Called moment event answers.KeeperFault ∷ missed (next answers.KeeperFault)
missed (Looks rows read next) = Looked read (Ok (replies.Status 0)) ∷ missed (next (Ok (replies.Status 0)))

missed_reach : (c : Interaction) → Reaches c (missed c) (Ends (ends_as c))
missed_reach (Ends rows) = refl
missed_reach (Passes rows next) = passed rows next (Ends (ends_as next)) (missed next) (missed_reach next)
missed_reach (Asks rows moment event next) = (refl, refl, missed_reach (next answers.KeeperFault))
missed_reach (Looks rows read next) = (refl, missed_reach (next (Ok (replies.Status 0))))

missed_make : (c : Interaction) → jobs_made (missed c) ≡ []
missed_make (Ends rows) = refl
missed_make (Passes rows next) = missed_make next
missed_make (Asks rows moment event next) = missed_make (next answers.KeeperFault)
missed_make (Looks rows read next) = missed_make (next (Ok (replies.Status 0)))

-- at each point the schedule is the one at the end, if all that follows fails
abbrev Steady : Interaction → Type 0
Steady (Ends rows) = Unit {0}
Steady (Passes rows next) = (map key rows ≡ map key (ends_as next)) × Steady next
Steady (Asks rows moment event next) = (map key rows ≡ map key (ends_as (next answers.KeeperFault))) × ((answer : Answer) → Steady (next answer))
Steady (Looks rows read next) =
    (map key rows ≡ map key (ends_as (next (Ok (replies.Status 0))))) × ((reply : Result Reply NoMemory) → Steady (next reply))

record Good (s : Schedule) (c : Interaction) : Type 0 where
  pub steady : Steady c
  pub ends : map key (ends_as c) ≡ key s ∷ []

abbrev put : Schedule → List Schedule
put row = row ∷ []

abbrev GoodPart : Schedule → Part → Type 0
GoodPart s part = (next : Schedule → Interaction) → ((r : Schedule) → Good r (next r)) → Good s (part put next)

asks : (s : Schedule) (now : ℕ) (event : EventKind) (next : Answer → Interaction) → Good s (next answers.KeeperFault) → ((answer : Answer) → Steady (next answer)) →
    Good s (Asks (put s) now event next)
asks s now event next end h = record { steady = (sym end.ends, h); ends = end.ends }

looks : (s : Schedule) (read : Read) (next : Result Reply NoMemory → Interaction) → Good s (next (Ok (replies.Status 0))) →
    ((reply : Result Reply NoMemory) → Steady (next reply)) → Good s (Looks (put s) read next)
looks s read next end h = record { steady = (sym end.ends, h); ends = end.ends }

passes : (s : Schedule) (next : Interaction) → Good s next → Good s (Passes (put s) next)
passes s next end = record { steady = (sym end.ends, end.steady); ends = end.ends }

restaged : (b : Bool) (s : Schedule) (next : Schedule → Interaction) → ((r : Schedule) → Good r (next r)) →
    Good s (next (if b then at_stage Idle s else s))
restaged true s next h = record { steady = (h (at_stage Idle s)).steady; ends = (h (at_stage Idle s)).ends }
restaged false s next h = h s

either : (b : Bool) (s : Schedule) (p q : Part) → GoodPart s p → GoodPart s q → GoodPart s (λ to next. if b then p to next else q to next)
either true s p q first second = first
either false s p q first second = second

-- another stage is no other schedule
staged : (stage : Stage) (s : Schedule) (c : Interaction) → Good (at_stage stage s) c → Good s c
staged stage s c g = record { steady = g.steady; ends = g.ends }

patches_good : (now : ℕ) (s : Schedule) → GoodPart s (patches now s)
patches_good now s =
    either s.job.on_all s (λ to next. Asks (to s) now (patch_asked s) (λ answer. after_patch s (outcome_of answer) to next)) (λ to next. next
    (at_stage Idle s))
    (λ next h. asks s now (patch_asked s) (λ answer. after_patch s (outcome_of answer) put next) (h s)
    (λ answer. (restaged (is_made (outcome_of answer)) s next h).steady))
    (λ next h. staged Idle s (next (at_stage Idle s)) (h (at_stage Idle s)))

tasks_good : (now : ℕ) (s : Schedule) → GoodPart s (adds_tasks now s)
tasks_good now s =
    either (has_tasks s) s (λ to next. Asks (to s) now (add_tasks_asked s) (λ answer. after_tasks now s (outcome_of answer) to next)) (patches now
    (at_stage Patch s))
    (λ next h. asks s now (add_tasks_asked s) (λ answer. after_tasks now s (outcome_of answer) put next) (h s)
    (λ answer. (either (is_made (outcome_of answer)) s (patches now (at_stage Patch s)) (λ to last. last s)
    (λ last k. staged Patch s (patches now (at_stage Patch s) put last) (patches_good now (at_stage Patch s) last k)) (λ last k. k s) next h).steady))
    (λ next h. staged Patch s (patches now (at_stage Patch s) put next) (patches_good now (at_stage Patch s) next h))

after_job_steady : (now k : ℕ) (s : Schedule) (outcome : CallOutcome) (next : Schedule → Interaction) → ((r : Schedule) → Good r (next r)) →
    Steady (after_job now k s outcome put next)
after_job_steady now k s Created next h = (tasks_good now (at_stage Tasks (fired_for k s)) next h).steady
after_job_steady now k s Made next h = (h (fired_for k s)).steady
after_job_steady now k s Missed next h = (h s).steady
after_job_steady now k s OutOfMemory next h = (h s).steady

job_good : (now k : ℕ) (s : Schedule) → GoodPart s (adds_job now k s)
job_good now k s next h =
    asks s now (add_job_asked s) (λ answer. after_job now k s (outcome_of answer) put next) (h s)
    (λ answer. after_job_steady now k s (outcome_of answer) next h)

if_free_good : (now k : ℕ) (s : Schedule) → GoodPart s (adds_job_if_free now k s)
if_free_good now k s =
    either (nat_eq s.number 0) s (adds_job now k s) (λ to next. Looks (to s) (job_read s) (λ shown. after_look now k s shown to next)) (job_good now k s)
    (λ next h. looks s (job_read s) (λ shown. after_look now k s shown put next) (h s)
    (λ reply. (either (is_free reply) s (adds_job now k s) (λ to last. last s) (job_good now k s) (λ last j. j s) next h).steady))

fires_for_good : (now : ℕ) (s : Schedule) (due : Option ℕ) → GoodPart s (fires_for now s due)
fires_for_good now s None = λ next h. h s
fires_for_good now s (Some k) = if_free_good now k s

stage_good : (now : ℕ) (stage : Stage) (s : Schedule) → GoodPart s (retries_stage now stage s)
stage_good now Idle s = λ next h. h s
stage_good now Tasks s = tasks_good now s
stage_good now Patch s = patches_good now s

key_completed : (b : Bool) (s : Schedule) → key (if b then record s { state = Completed } else s) ≡ key s
key_completed true s = refl
key_completed false s = refl

ends_good : (now : ℕ) (s : Schedule) → GoodPart s (ends_turn now s)
ends_good now s next h =
    let last : Good (completed_at now s) (next (completed_at now s)) = h (completed_at now s) in
    passes s (next (completed_at now s)) (record {
      steady = last.steady;
      ends = last.ends ∙ ap (λ k. k ∷ []) (key_completed _ s);
    })

turn_good : (now : ℕ) (s : Schedule) → Good s (turns now [] (s ∷ []))
turn_good now s =
    let last : Schedule → Interaction = λ row. turns now ([] ++ row ∷ []) [] in
    let ended : (r : Schedule) → Good r (last r) = λ r. record { steady = tt; ends = refl } in
    let after : Schedule → Interaction = λ row. ends_turn now row put last in
    let fired : Schedule → Interaction = λ row. fires now row put after in
    passes s (retries_stage now s.stage s put fired)
    (stage_good now s.stage s fired (λ row. fires_for_good now row (firing_at now row) after (λ r. ends_good now r last ended)))

-- steady at each point
steady_at : (c point : Interaction) (xs : List Exchange) → Steady c → Reaches c xs point → Steady point
steady_at (Ends rows) point [] s h = subst Steady (sym h) tt
steady_at (Ends rows) point (x ∷ xs) s h = absurd h
steady_at (Passes rows next) point [] s (inl e) = subst Steady (sym e) s
steady_at (Passes rows next) point [] s (inr h) = steady_at next point [] s.1 h
steady_at (Passes rows next) point (x ∷ xs) s h = steady_at next point (x ∷ xs) s.1 h
steady_at (Asks rows moment event next) point [] s h = subst Steady (sym h) s
steady_at (Asks rows moment event next) point (Called at asked answer ∷ xs) s h = steady_at (next answer) point xs (s.1 answer) h.2
steady_at (Asks rows moment event next) point (Looked read reply ∷ xs) s h = absurd h
steady_at (Looks rows read next) point [] s h = subst Steady (sym h) s
steady_at (Looks rows read next) point (Called at asked answer ∷ xs) s h = absurd h
steady_at (Looks rows read next) point (Looked asked reply ∷ xs) s h = steady_at (next reply) point xs (s.1 reply) h.1

stands_key : (point : Interaction) (rows : List Schedule) → Steady point → StandsAt point rows → map key rows ≡ map key (ends_as point)
stands_key (Ends end) rows s h = absurd h
stands_key (Passes here next) rows s h = ap (map key) h ∙ s.0
stands_key (Asks here moment event next) rows s h = ap (map key) h ∙ s.0
stands_key (Looks here read next) rows s h = ap (map key) h ∙ s.0

record OneRow (rows : List Schedule) (k : Key) : Type 0 where
  pub last : Schedule
  pub one : rows ≡ last ∷ []
  pub kept : key last ≡ k

one_row : (rows : List Schedule) (k : Key) → map key rows ≡ k ∷ [] → OneRow rows k
one_row [] k e = absurd (cc)
one_row (x ∷ []) k e = record { last = x; one = refl; kept = cc }
one_row (x ∷ y ∷ rows) k e = absurd (cc)

-- no read among them was answered that a job is completed or not there
abbrev NoneFree : List Exchange → Type 0
NoneFree [] = Unit {0}
NoneFree (Called moment event answer ∷ xs) = NoneFree xs
NoneFree (Looked read reply ∷ xs) = (is_free reply ≡ false) × NoneFree xs

missed_none_free : (c : Interaction) → NoneFree (missed c)
missed_none_free (Ends rows) = tt
missed_none_free (Passes rows next) = missed_none_free next
missed_none_free (Asks rows moment event next) = missed_none_free (next answers.KeeperFault)
missed_none_free (Looks rows read next) = (refl, missed_none_free (next (Ok (replies.Status 0))))

not_both : (b : Bool) → b ≡ true → b ≡ false → ⊥
not_both true e f = cc
not_both false e f = cc

not_free : (ys before : List Exchange) (read : Read) (reply : Result Reply NoMemory) (after : List Exchange) → NoneFree ys →
    ys ≡ before ++ Looked read reply ∷ after → is_free reply ≡ true → ⊥
not_free ys [] read reply after none e free =
    let here : NoneFree (Looked read reply ∷ after) = subst NoneFree e none in not_both (is_free reply) free here.0
not_free [] (b ∷ before) read reply after none e free = cc
not_free (Called moment event answer ∷ ys) (b ∷ before) read reply after none e free =
    not_free ys before read reply after none (tail_is e) free
  where
    tail_is : Called moment event answer ∷ ys ≡ b ∷ (before ++ Looked read reply ∷ after) → ys ≡ before ++ Looked read reply ∷ after
    tail_is e = cc
not_free (Looked asked other ∷ ys) (b ∷ before) read reply after none e free =
    not_free ys before read reply after none.1 (tail_is e) free
  where
    tail_is : Looked asked other ∷ ys ≡ b ∷ (before ++ Looked read reply ∷ after) → ys ≡ before ++ Looked read reply ∷ after
    tail_is e = cc

first_empty : {A : Type 0} (xs ys : List A) → xs ++ ys ≡ [] → xs ≡ []
first_empty [] ys e = refl
first_empty (x ∷ xs) ys e = absurd (cc)

rest_empty : {A : Type 0} (xs ys : List A) → xs ++ ys ≡ [] → ys ≡ []
rest_empty [] ys e = e
rest_empty (x ∷ xs) ys e = absurd (cc)

-- a read that was answered so is among the first exchanges, if none of the others was
free_first : (xs ys before : List Exchange) (read : Read) (reply : Result Reply NoMemory) (after : List Exchange) → NoneFree ys →
    xs ++ ys ≡ before ++ Looked read reply ∷ after → is_free reply ≡ true → jobs_made before ≡ [] → WasFree read xs
free_first [] ys before read reply after none e free jobs = absurd (not_free ys before read reply after none e free)
free_first (x ∷ xs) ys [] read reply after none e free jobs =
    record { before = []; reply = reply; after = xs; split = ap (λ y. y ∷ xs) (head_is e); none = refl; free = free }
  where
    head_is : x ∷ (xs ++ ys) ≡ Looked read reply ∷ after → x ≡ Looked read reply
    head_is e = cc
free_first (x ∷ xs) ys (b ∷ before) read reply after none e free jobs =
    let more = free_first xs ys before read reply after none (tail_is e) free (rest_empty (made_by b) (jobs_made before) jobs) in
    record {
      before = x ∷ more.before;
      reply = more.reply;
      after = more.after;
      split = ap (λ w. x ∷ w) more.split;
      none = ap (λ w. w ++ jobs_made more.before) (ap made_by (head_is e) ∙ first_empty (made_by b) (jobs_made before) jobs) ∙ more.none;
      free = more.free;
    }
  where
    head_is : x ∷ (xs ++ ys) ≡ b ∷ (before ++ Looked read reply ∷ after) → x ≡ b
    head_is e = cc

    tail_is : x ∷ (xs ++ ys) ≡ b ∷ (before ++ Looked read reply ∷ after) → xs ++ ys ≡ before ++ Looked read reply ∷ after
    tail_is e = cc

-- a schedule whose turn was cut made no job, or one as in a whole turn, and knows it
module _ (now : ℕ) (s row : Schedule) (xs : List Exchange) (point : Interaction) (last : Schedule) (kept : key last ≡ key row) where
  jobs_stay : jobs_made (xs ++ missed point) ≡ jobs_made xs
  jobs_stay =
      flat_map-append made_by xs (missed point) ∙ ap (λ w. jobs_made xs ++ w) (missed_make point) ∙ append-nil (jobs_made xs)

  free_stays : (s.number ≡ 0) ⊎ WasFree (job_read s) (xs ++ missed point) → (s.number ≡ 0) ⊎ WasFree (job_read s) xs
  free_stays (inl zero) = inl zero
  free_stays (inr f) = inr (free_first xs (missed point) f.before (job_read s) f.reply f.after (missed_none_free point) f.split f.free f.none)

  by_whole : MakesNone s last (xs ++ missed point) ⊎ MakesOne now s last (xs ++ missed point) → MakesNone s row xs ⊎ MakesOne now s row xs
  by_whole (inl none) = inl (record {
    jobs = sym jobs_stay ∙ none.jobs;
    id = ap (λ (k : Key). k.0) (sym kept) ∙ none.id;
    number = ap (λ (k : Key). k.1) (sym kept) ∙ none.number;
    occurrence = ap (λ (k : Key). k.2) (sym kept) ∙ none.occurrence;
  })
  by_whole (inr one) = inr (record {
    occurrence = one.occurrence;
    due = one.due;
    later = one.later;
    jobs = sym jobs_stay ∙ one.jobs;
    numbered = one.numbered;
    id = ap (λ (k : Key). k.0) (sym kept) ∙ one.id;
    number = ap (λ (k : Key). k.1) (sym kept) ∙ one.number;
    is_last = ap (λ (k : Key). k.2) (sym kept) ∙ one.is_last;
    first_or_free = free_stays one.first_or_free;
  })

pub cut_one_at_most : (now : ℕ) (s row : Schedule) (xs : List Exchange) → IsBegun (turns now [] (s ∷ [])) xs (row ∷ []) →
    MakesNone s row xs ⊎ MakesOne now s row xs
cut_one_at_most now s row xs b =
    let whole : Interaction = turns now [] (s ∷ []) in
    let steady : Steady b.point = steady_at whole b.point xs (turn_good now s).steady b.reached in
    let end : OneRow (ends_as b.point) (key row) = one_row (ends_as b.point) (key row) (sym (stands_key b.point (row ∷ []) steady b.stands)) in
    let reached : Reaches whole (xs ++ missed b.point) (Ends (end.last ∷ [])) =
    subst (λ rows. Reaches whole (xs ++ missed b.point) (Ends rows)) end.one
    (reaches_on whole xs (missed b.point) b.point (Ends (ends_as b.point)) b.reached (missed_reach b.point)) in
    by_whole now s row xs b.point end.last end.kept (one_at_most now s end.last (xs ++ missed b.point) reached)
