-- A call enters the journal.
use Rattle.std.proofs.Common.{◌≡◌, ◌≤◌, ◌<◌, ◌^◌, ◌+◌, ◌-◌, min, ℕ, List, [], ◌∷◌, ◌++◌, Option, length, refl, ap, ◌∙◌, sym, subst, arith}
use Rattle.std.proofs.lemmas.List.{length_push}
use Rattle.bt_base.specs.Causes.{Rose}
use Rattle.bt_rows.specs.declared.due.Due.{Due}
use Rattle.bt_rows.specs.declared.event.EventKind.{EventKind}
use Rattle.bt_rows.specs.declared.reply.Reply.{Reply}
use Rattle.batch_model.specs.Events.{event_step}
use Rattle.batch_model.specs.Sound.{IsSound}
use Rattle.batch_model.specs.Steps.{Answered}
use Rattle.batch_model.specs.Variants.{State}
use Rattle.batch_keeper.specs.declared.error.KeepError.{KeepError}
use Rattle.batch_keeper.specs.declared.error.KeepError.TheVariants.{Failed, Memory as NoMemory}
use Rattle.batch_desk.specs.declared.entry.Entry.{Entry}
use Rattle.batch_desk.specs.declared.entry.Stop.{Stop}
use Rattle.batch_desk.specs.declared.entry.Stop.TheVariants.{Rest, KeeperFault, Memory}
use Rattle.batch_desk.specs.declared.answer.Answer.{Answer}
use Rattle.batch_desk.specs.declared.answer.Answer.TheVariants.{Done, KeeperFault as Undone, JournalFull, Memory as OutOfMemory}
use Rattle.batch_desk.proofs.LawsHold.{laws_kept}
use Rattle.batch_desk.specs.Kept.{Desk, SavedMachine, Tells}
use Rattle.batch_desk.specs.Calls.{Finishes, Makes, IsFailed, IsFull, IsCalled, IsCalledWithin}
use Rattle.batch_desk.specs.History.{IsAskable, IsCall, IsLegal, after_call, after_all, faults_of, fault_count, fault_entry, done_entry, due_state, due_list}
use Rattle.batch_desk.specs.History.{StopsSo, refusal_of}
use Rattle.batch_desk.specs.Answers.{AnswersCall, IsInOrder, HasSameOpening, entry_answer}

-- a desk without its journal
abbrev pub without_journal : {K : Type 0} → Desk K → SavedMachine K
without_journal d = record { keeper = d.keeper; state = d.state; seats = d.seats }

-- a call more is legal
legal_push : (seats : ℕ) (s : State) (es : List Entry) (e : Entry) → IsLegal seats s es → IsCall seats (after_all seats s es) e → IsLegal seats s (es ++ e ∷ [])
legal_push seats s [] e l c = (c, tt)
legal_push seats s (x ∷ es) e l c = (l.0, legal_push seats (after_call seats s x) es e l.1 c)

-- the tables after it
after_push : (seats : ℕ) (s : State) (es : List Entry) (e : Entry) → after_all seats s (es ++ e ∷ []) ≡ after_call seats (after_all seats s es) e
after_push seats s [] e = refl
after_push seats s (x ∷ es) e = after_push seats (after_call seats s x) es e

-- its faults
faults_push : (es : List Entry) (e : Entry) → fault_count (es ++ e ∷ []) ≡ fault_count es + faults_of e
faults_push [] e = omega arith
faults_push (x ∷ es) e = omega (arith, faults_push es e)

fault_at_most : (e : Entry) → faults_of e ≤ 1
fault_at_most e = elim e.stop as (λ s. faults_of (record e { stop = s }) ≤ 1) [ Rest ↦ omega arith | KeeperFault ↦ omega arith | Memory ↦ omega arith ]

faults_within : (es : List Entry) → fault_count es ≤ length es
faults_within [] = omega arith
faults_within (x ∷ es) = omega (arith, fault_at_most x, faults_within es)

-- the entry's fault was counted
abbrev Counted : ℕ → ℕ → Entry → Type 0
Counted before now e = min (before + faults_of e) (2 ^ 64 - 1) ≤ now

-- a desk with a call more is in order
entered : {K : Type 0} {told : K → Option State} {faults : K → ℕ} (old new : Desk K) (e : Entry) → IsInOrder told faults old →
    length old.entries < old.limit → HasSameOpening old new → new.entries ≡ old.entries ++ e ∷ [] → IsCall old.seats old.state e →
    new.state ≡ after_call old.seats old.state e → Tells (told new.keeper) new.state → Counted (faults old.keeper) (faults new.keeper) e →
    IsInOrder told faults new
entered {K} {told} {faults} old new e ordered room same pushed call made kept counted =
    let at : old.state ≡ after_all old.seats old.opened old.entries = ordered.state in
    let after : new.state ≡ after_all old.seats old.opened (old.entries ++ e ∷ []) = made ∙ ap (λ s. after_call old.seats s e) at
    ∙ sym (after_push old.seats old.opened old.entries e) in
    let begun : IsSound new.seats new.opened = rw (same.seats, same.opened) ordered.begun in
    let legal : IsLegal new.seats new.opened new.entries = rw (same.seats, same.opened, pushed)
    (legal_push old.seats old.opened old.entries e ordered.legal (subst (λ s. IsCall old.seats s e) at call)) in
    record {
      begun = begun;
      legal = legal;
      laws = laws_kept new.seats new.opened new.entries begun legal;
      state = rw (same.seats, same.opened, pushed) after;
      kept = kept;
      counted = omega (
        arith,
        ap fault_count pushed,
        faults_push old.entries e,
        faults_within old.entries,
        fault_at_most e,
        ordered.counted,
        ordered.within,
        ordered.limit,
        counted,
      );
      within = omega (arith, ap length pushed, length_push old.entries e, room, same.limit);
      limit = rw same.limit ordered.limit;
    }

-- a desk that a call left is in order
left : {K : Type 0} {told : K → Option State} {faults : K → ℕ} (old new : Desk K) → IsInOrder told faults old → HasSameOpening old new →
    new.state ≡ old.state → new.entries ≡ old.entries → Tells (told new.keeper) new.state → faults old.keeper ≤ faults new.keeper → IsInOrder told faults new
left {K} {told} {faults} old new ordered same state entries kept later = record {
  begun = rw (same.seats, same.opened) ordered.begun;
  legal = rw (same.seats, same.opened, entries) ordered.legal;
  laws = rw (same.seats, same.opened, entries) ordered.laws;
  state = rw (same.seats, same.opened, entries) (state ∙ ordered.state);
  kept = kept;
  counted = rw entries (omega (arith, ordered.counted, later));
  within = rw (entries, same.limit) ordered.within;
  limit = rw same.limit ordered.limit;
}

-- a call that a keeper fault left undone
fault_is_call : (seats : ℕ) (s : State) (moment : ℕ) (event : EventKind) → IsAskable moment event → IsCall seats s (fault_entry moment event)
fault_is_call seats s moment event asked = (asked, (refl, refl))

counted_fault : (before now moment : ℕ) (event : EventKind) → Rose before now → Counted before now (fault_entry moment event)
counted_fault before now moment event rose = rose

-- a call that was made
done_is_call : (seats : ℕ) (s made : State) (moment : ℕ) (event : EventKind) (reply : Reply) (dues : List Due) (stop : Stop) → IsAskable moment event →
    event_step moment event s ≡ record { reply = reply; state = made } → dues ≡ due_list seats (length dues) made →
    StopsSo seats stop (due_state seats (length dues) made) → IsCall seats s (done_entry moment event reply (length dues) stop)
done_is_call seats s made moment event reply dues stop asked e d h = (
  asked,
  (
    ap (λ (p : Answered). refusal_of p.reply) (sym e),
    record {
      each = ap (λ (p : Answered). length (due_list seats (length dues) p.state)) e ∙ ap length (sym d);
      stops = subst (λ (p : Answered). StopsSo seats stop (due_state seats (length dues) p.state)) (sym e) h;
    },
  ),
)

done_shown : (seats : ℕ) (s made : State) (moment : ℕ) (event : EventKind) (reply : Reply) (dues : List Due) (stop : Stop) →
    event_step moment event s ≡ record { reply = reply; state = made } → dues ≡ due_list seats (length dues) made →
    Done reply dues stop ≡ entry_answer seats s (done_entry moment event reply (length dues) stop)
done_shown seats s made moment event reply dues stop e d =
    ap (λ (ds : List Due). Done reply ds stop) d ∙ ap (λ (p : Answered). Done p.reply (due_list seats (length dues) p.state) stop) (sym e)

done_after : (seats : ℕ) (s made now : State) (moment : ℕ) (event : EventKind) (reply : Reply) (n : ℕ) (stop : Stop) →
    event_step moment event s ≡ record { reply = reply; state = made } → now ≡ due_state seats n made →
    now ≡ after_call seats s (done_entry moment event reply n stop)
done_after seats s made now moment event reply n stop e d = d ∙ ap (λ (p : Answered). due_state seats n p.state) (sym e)

counted_done : (before now moment : ℕ) (event : EventKind) (reply : Reply) (dues : ℕ) (stop : Stop) → before ≤ now → (stop ≡ KeeperFault → Rose before now) →
    Counted before now (done_entry moment event reply dues stop)
counted_done before now moment event reply dues Rest later rose = omega arith
counted_done before now moment event reply dues KeeperFault later rose = rose refl
counted_done before now moment event reply dues Memory later rose = omega arith

-- what a call leaves is in order
pub in_order_after : {K : Type 0} (told : K → Option State) (faults : K → ℕ) (old new : Desk K) (moment : ℕ) (event : EventKind) (answer : Answer) →
    IsAskable moment event → IsInOrder told faults old → length old.entries < old.limit → HasSameOpening old new → Tells (told new.keeper) new.state →
    faults old.keeper ≤ faults new.keeper → IsCalled faults (without_journal old) (without_journal new) old.entries new.entries moment event answer →
    IsInOrder told faults new
in_order_after told faults old new moment event JournalFull asked ordered room same kept later called = absurd called
in_order_after told faults old new moment event OutOfMemory asked ordered room same kept later called = left old new ordered same called.state
    called.entries kept later
in_order_after told faults old new moment event Undone asked ordered room same kept later called =
    entered old new (fault_entry moment event) ordered room same called.entries (fault_is_call old.seats old.state moment event asked) called.state kept
    (counted_fault (faults old.keeper) (faults new.keeper) moment event called.rose)
in_order_after told faults old new moment event (Done reply dues stop) asked ordered room same kept later called =
    entered old new (done_entry moment event reply (length dues) stop) ordered room same called.entries
    (done_is_call old.seats old.state called.made moment event reply dues stop asked called.step called.list
    (subst (StopsSo old.seats stop) called.state called.stops))
    (done_after old.seats old.state called.made new.state moment event reply (length dues) stop called.step called.state)
    kept (counted_done (faults old.keeper) (faults new.keeper) moment event reply (length dues) stop later called.fault)

-- and the call was answered so
pub answers_after : {K : Type 0} (faults : K → ℕ) (old new : Desk K) (moment : ℕ) (event : EventKind) (answer : Answer) → length old.entries < old.limit →
    IsCalled faults (without_journal old) (without_journal new) old.entries new.entries moment event answer → AnswersCall faults old new moment event answer
answers_after faults old new moment event JournalFull room called = absurd called
answers_after faults old new moment event OutOfMemory room called = (room, record { state = called.state; entries = called.entries })
answers_after faults old new moment event Undone room called =
    (record { room = room; entries = called.entries; shown = refl; made = called.state }, called.rose)
answers_after faults old new moment event (Done reply dues stop) room called = (
  record {
    room = room;
    entries = called.entries;
    shown = done_shown old.seats old.state called.made moment event reply dues stop called.step called.list;
    made = done_after old.seats old.state called.made new.state moment event reply (length dues) stop called.step called.state;
  },
  called.fault,
)

-- an error's answer
pub called_failed : {K : Type 0} (faults : K → ℕ) (old new : SavedMachine K) (before now : List Entry) (moment : ℕ) (event : EventKind) (error : KeepError)
    (answer : Answer) → IsFailed error answer moment event before now → new.state ≡ old.state →
    (error ≡ Failed → Rose (faults old.keeper) (faults new.keeper)) → IsCalled faults old new before now moment event answer
called_failed faults old new before now moment event NoMemory answer failed state rose =
    subst (λ a. IsCalled faults old new before now moment event a) (sym failed.0) (record { state = state; entries = failed.1 })
called_failed faults old new before now moment event Failed answer failed state rose =
    subst (λ a. IsCalled faults old new before now moment event a) (sym failed.0) (record { state = state; entries = failed.1; rose = rose refl })

-- the event, and the rest of the call
pub made_by_finish : {K : Type 0} (faults : K → ℕ) (old mid new : SavedMachine K) (before now : List Entry) (moment : ℕ) (event : EventKind) (reply : Reply)
    (dues : List Due) (stop : Stop) → event_step moment event old.state ≡ record { reply = reply; state = mid.state } → mid.seats ≡ old.seats →
    faults old.keeper ≤ faults mid.keeper → Finishes faults mid new before now moment event reply dues stop →
    Makes faults old new before now moment event reply dues stop
made_by_finish faults old mid new before now moment event reply dues stop step seats later finished = record {
  made = mid.state;
  step = step;
  state = rw (← seats) finished.state;
  list = rw (← seats) finished.list;
  stops = rw (← seats) finished.stops;
  fault = λ h. let rose = finished.fault h in omega (arith, rose);
  entries = finished.entries;
}

-- a call that had room
pub called_within : {K : Type 0} (faults : K → ℕ) (limit : ℕ) (old new : SavedMachine K) (before now : List Entry) (moment : ℕ) (event : EventKind)
    (answer : Answer) → length before < limit → IsCalled faults old new before now moment event answer →
    IsCalledWithin faults limit old new before now moment event answer
called_within faults limit old new before now moment event JournalFull room called = absurd called
called_within faults limit old new before now moment event OutOfMemory room called = (room, called)
called_within faults limit old new before now moment event Undone room called = (room, called)
called_within faults limit old new before now moment event (Done reply dues stop) room called = (room, called)

-- the desk with this machine and these entries
abbrev pub desk_of : {K : Type 0} → SavedMachine K → List Entry → Desk K → Desk K
desk_of saved entries d = record d { keeper = saved.keeper; state = saved.state; seats = saved.seats; entries = entries }

same_opening : {K : Type 0} (old : Desk K) (new : SavedMachine K) (now : List Entry) → new.seats ≡ old.seats → HasSameOpening old (desk_of new now old)
same_opening old new now seats = record { opened = refl; seats = seats; limit = refl }

full_same : {K : Type 0} (old : Desk K) (new : SavedMachine K) (now : List Entry) → IsFull old.limit (without_journal old) new old.entries now →
    desk_of new now old ≡ old
full_same {K} old new now full = ap (λ (p : SavedMachine K). desk_of p now old) full.saved
    ∙ ap (λ (es : List Entry). desk_of (without_journal old) es old) full.entries

-- what a call leaves of a desk is in order
pub in_order_within : {K : Type 0} (told : K → Option State) (faults : K → ℕ) (old : Desk K) (new : SavedMachine K) (now : List Entry) (moment : ℕ)
    (event : EventKind) (answer : Answer) → IsAskable moment event → IsInOrder told faults old → new.seats ≡ old.seats → Tells (told new.keeper) new.state →
    faults old.keeper ≤ faults new.keeper → IsCalledWithin faults old.limit (without_journal old) new old.entries now moment event answer →
    IsInOrder told faults (desk_of new now old)
in_order_within told faults old new now moment event JournalFull asked ordered seats kept later called =
    subst (IsInOrder told faults) (sym (full_same old new now called)) ordered
in_order_within told faults old new now moment event OutOfMemory asked ordered seats kept later called =
    in_order_after told faults old (desk_of new now old) moment event OutOfMemory asked ordered called.0 (same_opening old new now seats) kept later called.1
in_order_within told faults old new now moment event Undone asked ordered seats kept later called =
    in_order_after told faults old (desk_of new now old) moment event Undone asked ordered called.0 (same_opening old new now seats) kept later called.1
in_order_within told faults old new now moment event (Done reply dues stop) asked ordered seats kept later called =
    in_order_after told faults old (desk_of new now old) moment event (Done reply dues stop) asked ordered called.0 (same_opening old new now seats) kept
    later called.1

-- and the desk answered so
pub answers_within : {K : Type 0} (faults : K → ℕ) (old : Desk K) (new : SavedMachine K) (now : List Entry) (moment : ℕ) (event : EventKind)
    (answer : Answer) → IsCalledWithin faults old.limit (without_journal old) new old.entries now moment event answer →
    AnswersCall faults old (desk_of new now old) moment event answer
answers_within faults old new now moment event JournalFull called = (called.full, full_same old new now called)
answers_within faults old new now moment event OutOfMemory called = answers_after faults old (desk_of new now old) moment event OutOfMemory called.0 called.1
answers_within faults old new now moment event Undone called = answers_after faults old (desk_of new now old) moment event Undone called.0 called.1
answers_within faults old new now moment event (Done reply dues stop) called = answers_after faults old (desk_of new now old) moment event
    (Done reply dues stop) called.0 called.1
