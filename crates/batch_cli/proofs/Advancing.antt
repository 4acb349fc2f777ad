-- From what a call was answered to how the desk goes on.
use Rattle.std.proofs.Common.{◌≡◌, ◌≤◌, ◌<◌, ℕ, zero, suc, false, List, [], ◌∷◌, ◌++◌, Option, length, refl, ap, ◌∙◌, sym, subst, arith, take, inl, inr, Result}
use Rattle.std.proofs.Common.{Ok, Err, OnErr}
use Rattle.std.proofs.lemmas.List.{length_push, append-nil}
use Rattle.byte_streams.specs.Content.{Gains, GainsFront}
use Rattle.byte_streams.proofs.Gaining.{gains_nothing}
use Rattle.bt_rows.specs.declared.event.EventKind.{EventKind}
use Rattle.bt_rows.specs.declared.refusal.Refusal.{Refusal}
use Rattle.wire_lines.specs.declared.line.LineRequest.{LineRequest}
use Rattle.wire_lines.specs.declared.line.LineRequest.TheVariants.{Skip, Call, Look}
use Rattle.table_reads.specs.declared.request.Read.{Read}
use Rattle.wire_texts.specs.Lines.{numbered}
use Rattle.wire_texts.specs.Refusals.{refusal_text}
use Rattle.batch_desk.specs.declared.entry.Entry.{Entry}
use Rattle.batch_desk.specs.declared.answer.Answer.{Answer}
use Rattle.batch_desk.specs.declared.answer.Answer.TheVariants.{Done, KeeperFault, JournalFull, Memory}
use Rattle.batch_desk.specs.declared.entry.Stop.TheVariants.{Rest, KeeperFault as FaultStop, Memory as MemoryStop}
use Rattle.batch_desk.specs.Kept.{Desk}
use Rattle.batch_desk.specs.History.{asked_of, after_call, faults_of}
use Rattle.batch_desk.specs.Answers.{AnswersCall, Enters, HasSameOpening}
use Rattle.batch_cli.specs.Shown.{call_shown, answer_text, look_text, ran_out}
use Rattle.batch_cli.specs.Advance.{Advances, ShowsCall, HaltsCall, Did, CutShort, Halts, room_of, RoseBy}

take_none : {A : Type 0} (n : ℕ) → take {A = A} n [] ≡ []
take_none zero = refl
take_none (suc n) = refl

room_push : {K : Type 0} {old new : Desk K} (e : Entry) → HasSameOpening old new → length old.entries < old.limit → new.entries ≡ old.entries ++ e ∷ [] →
    room_of old ≡ suc (room_of new)
room_push {K} {old} {new} e same room pushed = omega (arith, same.limit, ap length pushed, length_push old.entries e)

-- by a call that has an entry
made_advances : {K : Type 0} {old new : Desk K} {e : Entry} {answer : Answer} (faults : K → ℕ) (n moment : ℕ) (event : EventKind) → HasSameOpening old new →
    Enters old new e answer → asked_of e ≡ (moment, event) → RoseBy (faults_of e) (faults old.keeper) (faults new.keeper) →
    Advances faults old new n (Ok (Call moment event)) (answer_text n answer)
made_advances {K} {old} {new} {e} {answer} faults n moment event same enters asked rose =
    let room : room_of old ≡ suc (room_of new) = room_push e same enters.room enters.entries in
    record {
      added = e ∷ [];
      entries = enters.entries;
      shows = λ rest more.
          ap (λ r. call_shown old.seats rest n r (e ∷ more) old.state) room
          ∙ ap (λ a. answer_text n a ++ rest (room_of new) more (after_call old.seats old.state e)) (sym enters.shown)
          ∙ ap (λ s. answer_text n answer ++ rest (room_of new) more s) (sym enters.made);
      calls = ap (λ a. a ∷ []) asked ∙ ap (λ cs. (moment, event) ∷ cs) (sym (take_none (room_of new))) ∙ ap (λ r. take r ((moment, event) ∷ [])) (sym room);
      rose = omega (arith, rose);
    }

-- by a call that found the journal full
full_advances : {K : Type 0} {old new : Desk K} (faults : K → ℕ) (n moment : ℕ) (event : EventKind) → old.limit ≤ length old.entries → new ≡ old →
    Advances faults old new n (Ok (Call moment event)) (answer_text n JournalFull)
full_advances {K} {old} {new} faults n moment event full same =
    let room : room_of old ≡ zero = omega arith in
    let after_room : room_of new ≡ zero = ap room_of same ∙ room in
    record {
      added = [];
      entries = ap (λ d. d.entries) same ∙ sym (append-nil old.entries);
      shows = λ rest more.
          ap (λ r. call_shown old.seats rest n r more old.state) room
          ∙ ap (λ r. answer_text n JournalFull ++ rest r more old.state) (sym after_room)
          ∙ ap (λ d. answer_text n JournalFull ++ rest (room_of new) more d.state) (sym same);
      calls = ap (λ r. take r ((moment, event) ∷ [])) (sym room);
      rose = omega (arith, ap (λ d. faults d.keeper) same);
    }

-- a call whose answer lets the run go on is shown
call_shows : {K : Type 0} {old new : Desk K} (faults : K → ℕ) (n moment : ℕ) (event : EventKind) (answer : Answer) → HasSameOpening old new →
    faults old.keeper ≤ faults new.keeper → AnswersCall faults old new moment event answer → ran_out answer ≡ false →
    ShowsCall faults old new n moment event (answer_text n answer)
unfolding made_advances full_advances
call_shows faults n moment event (Done reply dues Rest) same later a go =
    record { step = made_advances faults n moment event same a.0 refl (omega arith); settled = refl }
call_shows faults n moment event (Done reply dues FaultStop) same later a go =
    record { step = made_advances faults n moment event same a.0 refl (a.1 refl); settled = refl }
call_shows faults n moment event (Done reply dues MemoryStop) same later a go = absurd (cc)
call_shows faults n moment event KeeperFault same later a go = record { step = made_advances faults n moment event same a.0 refl a.1; settled = refl }
call_shows faults n moment event JournalFull same later a go = record { step = full_advances faults n moment event a.0 a.1; settled = refl }
call_shows faults n moment event Memory same later a go = absurd (cc)

pub call_shown_by : {K : Type 0} {old new : Desk K} (faults : K → ℕ) (n moment : ℕ) (event : EventKind) (answer : Answer) (text : List ℕ) →
    HasSameOpening old new → faults old.keeper ≤ faults new.keeper → AnswersCall faults old new moment event answer →
    (ran_out answer ≡ false) × (text ≡ answer_text n answer) → ShowsCall faults old new n moment event text
call_shown_by {K} {old} {new} faults n moment event answer text same later a shown =
    subst (λ w. ShowsCall faults old new n moment event w) (sym shown.1) (call_shows faults n moment event answer same later a shown.0)

-- nothing of a text was written
pub cut_at_once : {K : Type 0} {faults : K → ℕ} {old new : Desk K} {n : ℕ} {request : Result LineRequest Refusal} {text : List ℕ} (a : Option (List ℕ)) →
    Advances faults old new n request text → CutShort faults old new n request a a
cut_at_once {K} {faults} {old} {new} {n} {request} {text} a step = record {
  text = text;
  step = step;
  written = record { front = []; rest = text; cut = refl; gained = gains_nothing a };
}

-- whatever a call was answered, a run that ends there and writes nothing of its text has halted at the call
pub call_halts : {K : Type 0} {old new : Desk K} (faults : K → ℕ) (n moment : ℕ) (event : EventKind) (answer : Answer) → HasSameOpening old new →
    faults old.keeper ≤ faults new.keeper → AnswersCall faults old new moment event answer → HaltsCall faults old new n moment event
call_halts faults n moment event (Done reply dues Rest) same later a b = inr (cut_at_once b (made_advances faults n moment event same a.0 refl (omega arith)))
call_halts faults n moment event (Done reply dues FaultStop) same later a b = inr (cut_at_once b (made_advances faults n moment event same a.0 refl (a.1 refl)))
call_halts faults n moment event (Done reply dues MemoryStop) same later a b =
    inr (cut_at_once b (made_advances faults n moment event same a.0 refl (omega arith)))
call_halts faults n moment event KeeperFault same later a b = inr (cut_at_once b (made_advances faults n moment event same a.0 refl a.1))
call_halts faults n moment event JournalFull same later a b = inr (cut_at_once b (full_advances faults n moment event a.0 a.1))
call_halts faults n moment event Memory same later a b = inl (record { state = a.1.state; entries = a.1.entries; written = gains_nothing b })

-- nothing was done
pub halts_at_once : {K : Type 0} (faults : K → ℕ) (d : Desk K) (n : ℕ) (request : Result LineRequest Refusal) (a : Option (List ℕ)) →
    Halts faults d d n request a a
halts_at_once faults d n request a = inl (record { state = refl; entries = refl; written = gains_nothing a })

-- what holds anyway holds at an error
pub at_err_anyway : {T E P : Type 0} (r : Result T E) → P → OnErr r P
at_err_anyway (Ok x) p = tt
at_err_anyway (Err e) p = p

-- by a line that asks nothing
pub did_skip : {K : Type 0} (faults : K → ℕ) (d : Desk K) (n : ℕ) (a : Option (List ℕ)) → Did faults d d n (Ok Skip) a a
did_skip faults d n a = record {
  text = [];
  step = record {
    added = [];
    entries = sym (append-nil d.entries);
    shows = λ rest more. refl;
    calls = sym (take_none (room_of d));
    rose = omega arith;
  };
  written = gains_nothing a;
  settled = refl;
}

-- by a read, which shows the tables and leaves them
look_advances : {K : Type 0} (faults : K → ℕ) (d : Desk K) (n : ℕ) (read : Read) → Advances faults d d n (Ok (Look read)) (look_text n d.state read)
look_advances faults d n read = record {
  added = [];
  entries = sym (append-nil d.entries);
  shows = λ rest more. refl;
  calls = sym (take_none (room_of d));
  rose = omega arith;
}

pub did_look : {K : Type 0} (faults : K → ℕ) (d : Desk K) (n : ℕ) (read : Read) (a b : Option (List ℕ)) →
    Gains a b (look_text n d.state read) → Did faults d d n (Ok (Look read)) a b
unfolding look_advances
did_look faults d n read a b g = record { text = look_text n d.state read; step = look_advances faults d n read; written = g; settled = refl }

pub cut_look : {K : Type 0} (faults : K → ℕ) (d : Desk K) (n : ℕ) (read : Read) (a b : Option (List ℕ)) →
    GainsFront a b (look_text n d.state read) → Halts faults d d n (Ok (Look read)) a b
cut_look faults d n read a b g = inr (record { text = look_text n d.state read; step = look_advances faults d n read; written = g })

-- by a line that is not a valid request
refusal_advances : {K : Type 0} (faults : K → ℕ) (d : Desk K) (n : ℕ) (refusal : Refusal) →
    Advances faults d d n (Err refusal) (numbered n (refusal_text refusal))
refusal_advances faults d n refusal = record {
  added = [];
  entries = sym (append-nil d.entries);
  shows = λ rest more. refl;
  calls = sym (take_none (room_of d));
  rose = omega arith;
}

pub did_refusal : {K : Type 0} (faults : K → ℕ) (d : Desk K) (n : ℕ) (refusal : Refusal) (a b : Option (List ℕ)) →
    Gains a b (numbered n (refusal_text refusal)) → Did faults d d n (Err refusal) a b
unfolding refusal_advances
did_refusal faults d n refusal a b g =
    record { text = numbered n (refusal_text refusal); step = refusal_advances faults d n refusal; written = g; settled = refl }

pub cut_refusal : {K : Type 0} (faults : K → ℕ) (d : Desk K) (n : ℕ) (refusal : Refusal) (a b : Option (List ℕ)) →
    GainsFront a b (numbered n (refusal_text refusal)) → Halts faults d d n (Err refusal) a b
cut_refusal faults d n refusal a b g = inr (record { text = numbered n (refusal_text refusal); step = refusal_advances faults d n refusal; written = g })
