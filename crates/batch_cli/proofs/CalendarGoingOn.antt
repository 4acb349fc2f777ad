-- A calendar over a desk goes on by one line more.
use Rattle.std.proofs.Common.{◌≡◌, ◌≤◌, ◌+◌, ◌-◌, ◌^◌, min, ℕ, zero, suc, Bool, true, false, ◌||◌, List, [], ◌∷◌, ◌++◌, Option, Result, Ok, Err}
use Rattle.std.proofs.Common.{rules, length, refl, ap, ◌∙◌, sym, subst, arith, map, take, append_assoc, ◌<◌, nat_lt, if◌then◌else◌, OnOk, OnErr, IfOk}
use Rattle.std.specs.Str.Lines.{lines}
use Rattle.std.proofs.lemmas.Bool.Decides.{nat_tests}
use Rattle.std.proofs.lemmas.List.{append-nil, length-append, length-map, length_push, map-append}
use Rattle.byte_streams.specs.Content.{Gains, GainsFront}
use Rattle.byte_streams.proofs.Gaining.{gains_nothing, gains_more}
use Rattle.bt_rows.specs.declared.event.EventKind.{EventKind}
use Rattle.bt_rows.specs.declared.refusal.Refusal.{Refusal}
use Rattle.batch_model.specs.Variants.{State}
use Rattle.wire_texts.specs.Tables.{tables_text}
use Rattle.wire_texts.specs.Lines.{numbered}
use Rattle.wire_texts.specs.Refusals.{refusal_text}
use Rattle.batch_desk.specs.declared.entry.Entry.{Entry}
use Rattle.batch_desk.specs.Kept.{Desk}
use Rattle.batch_desk.specs.History.{asked_of, fault_count}
use Rattle.batch_desk.specs.Answers.{HasSameOpening, Begins}
use Rattle.bt_base.specs.Causes.{Rose}
use Rattle.batch_cli.specs.Advance.{room_of, RoseBy}
use Rattle.batch_cli.specs.Shown.{memory_stops}
use Rattle.batch_cli.specs.Written.{GainsBetween}
use Rattle.batch_cli.specs.CalendarShown.{Telling, Remaining, line_told, lines_told, texts_of, asks_of}
use Rattle.batch_cli.specs.CalendarShown.{cal_outputs, line_outputs, cal_questions, is_refused_line, has_refused_line}
use Rattle.batch_cli.specs.CalendarAdvance.{CalAdvances, CalDid, CalHalts}
use Rattle.batch_cli.specs.CalendarGoing.{CalGoing, CalWhole, CalPart, CalEndsWith, CalDeskRan, CountsCalls, LinesDone, IsNew}
use Rattle.batch_cli.specs.declared.tally.Tally.{Tally}
use Rattle.batch_cli.specs.declared.status.Status.{Status}
use Rattle.batch_cli.specs.declared.status.Status.TheVariants as statuses
use Rattle.batch_cli.specs.declared.stopped.Stopped.{Stopped}
use Rattle.batch_cli.specs.EndStatus.{script_limit}
use Rattle.batch_cli.specs.Headline.{WritesNothing}
use Rattle.batch_cli.proofs.CalendarAdvancing.{nothing_of, halts_at}
use Rattle.batch_cli.proofs.GoingOn.{faults_append, stops_append, same_on, take_append, or_assoc}
use Rattle.batch_schedule.specs.Kept.{Calendar}
use Rattle.schedule_lines.specs.Lines.{cal_line_of}
use Rattle.schedule_lines.specs.declared.line.CalLine.{CalLine}

take_none : {A : Type 0} (n : ℕ) → take {A = A} n [] ≡ []
take_none zero = refl
take_none (suc n) = refl

same_opening : {K : Type 0} (d : Desk K) → HasSameOpening d d
same_opening d = record { opened = refl; seats = refl; limit = refl }

-- a line that makes no call
module _ {K : Type 0} (faults : K → ℕ) (old new : Calendar (Desk K)) (n : ℕ) (line : Result CalLine Refusal) (text : List ℕ) where
  abbrev Tells : {B : Type 0} → Telling B → List B → Type 0
  Tells {B} t first = (rest : Remaining B) (more : List Entry) →
      line_told old.asker.seats t rest line old.rows old.now (room_of old.asker) more old.asker.state
      ≡ first ++ rest old.rows old.now (room_of old.asker) more old.asker.state

  rest_same : {B : Type 0} (rest : Remaining B) (more : List Entry) → new.asker ≡ old.asker → new.rows ≡ old.rows → new.now ≡ old.now →
      rest old.rows old.now (room_of old.asker) more old.asker.state ≡ rest new.rows new.now (room_of new.asker) more new.asker.state
  rest_same rest more asker rows now =
      ap (λ r. rest r old.now (room_of old.asker) more old.asker.state) (sym rows)
      ∙ ap (λ m. rest new.rows m (room_of old.asker) more old.asker.state) (sym now)
      ∙ ap (λ (d : Desk K). rest new.rows new.now (room_of d) more d.state) (sym asker)

  pub advances_idle : new.asker ≡ old.asker → new.rows ≡ old.rows → new.now ≡ old.now → Tells (texts_of n) text → Tells (asks_of n) [] →
      CalAdvances faults old new n line text
  advances_idle asker rows now texts asks = record {
    added = [];
    asked = [];
    entries = ap (λ d. d.entries) asker ∙ sym (append-nil old.asker.entries);
    shows = λ rest more. texts rest more ∙ ap (λ w. text ++ w) (rest_same rest more asker rows now);
    asks = λ rest more. asks rest more ∙ rest_same rest more asker rows now;
    entered = sym (take_none (room_of old.asker));
    room = ap room_of asker ∙ omega arith;
    rose = omega (arith, ap (λ d. faults d.keeper) asker);
  }

  pub did_idle : (before now : Option (List ℕ)) (t : Tally) → new.asker ≡ old.asker → new.rows ≡ old.rows → new.now ≡ old.now →
      Tells (texts_of n) text → Tells (asks_of n) [] → Gains before now text → t.calls ≡ 0 → t.refused ≡ is_refused_line line →
      CalDid faults old new n line before now t
  unfolding advances_idle
  did_idle before now t asker rows moment texts asks written calls refused = record {
    text = text;
    step = advances_idle asker rows moment texts asks;
    written = written;
    settled = refl;
    calls = calls;
    refused = refused;
  }

-- nothing was done at a line
pub halts_at_once : {K : Type 0} (faults : K → ℕ) (old new : Calendar (Desk K)) (n : ℕ) (line : Result CalLine Refusal) (taken : Option (List ℕ)) →
    new.asker ≡ old.asker → CalHalts faults old new n line taken taken
halts_at_once faults old new n line taken asker = record {
  added = [];
  asked = [];
  text = [];
  entries = ap (λ d. d.entries) asker ∙ sym (append-nil old.asker.entries);
  shows = λ rest. (_, refl);
  asks = λ rest. (_, refl);
  entered = sym (take_none (room_of old.asker));
  rose = omega (arith, ap (λ d. faults d.keeper) asker);
  written = nothing_of taken [];
}

-- a calendar that was made over a desk that has just been opened
pub new_calendar : {K : Type 0} (d : Desk K) (c : Calendar (Desk K)) → c ≡ record { asker = d; rows = []; now = 0 } → Begins d d.seats d.limit → IsNew c
new_calendar {K} d c e b =
    subst (λ (x : Calendar (Desk K)). IsNew x) (sym e) (record { rows = refl; now = refl; begins = b })

-- no line was done
pub going_start : {K : Type 0} {c : Calendar (Desk K)} (faults : K → ℕ) (script : List (List ℕ)) (a : Option (List ℕ)) → IsNew c →
    CalGoing faults c c script script 1 a a 0
going_start {K} {c} faults script a b =
    let none : c.asker.entries ≡ [] = b.begins.entries in
    let room : room_of c.asker ≡ c.asker.limit = omega (arith, ap length none) in
    record {
      done = [];
      split = refl;
      front = [];
      asked = [];
      gained = gains_nothing a;
      shows = λ end left more. begins texts_of end left more none room;
      asks = λ end left more. begins asks_of end left more none room;
      entered = ap (map asked_of) none ∙ sym (take_none c.asker.limit);
      room = room ∙ omega arith;
      count = refl;
      rose = omega (arith, ap fault_count none);
      settled = ap memory_stops none;
      same = same_opening c.asker;
    }
  where
    begins : {B : Type 0} (t : ℕ → Telling B) (end : State → List B) (left : List (List ℕ)) (more : List Entry) → c.asker.entries ≡ [] →
        room_of c.asker ≡ c.asker.limit →
        lines_told c.asker.seats t end 1 left [] 0 c.asker.limit (c.asker.entries ++ more) c.asker.state
        ≡ lines_told c.asker.seats t end 1 left c.rows c.now (room_of c.asker) more c.asker.state
    begins t end left more none room =
        ap (λ es. lines_told c.asker.seats t end 1 left [] 0 c.asker.limit (es ++ more) c.asker.state) none
        ∙ ap (λ rows. lines_told c.asker.seats t end 1 left rows 0 c.asker.limit more c.asker.state) (sym b.rows)
        ∙ ap (λ now. lines_told c.asker.seats t end 1 left c.rows now c.asker.limit more c.asker.state) (sym b.now)
        ∙ ap (λ r. lines_told c.asker.seats t end 1 left c.rows c.now r more c.asker.state) (sym room)

-- what is told of a line and of the lines after it
module _ {K B : Type 0} (t : ℕ → Telling B) (start : Desk K) (old new : Calendar (Desk K)) (done : List (List ℕ)) (n : ℕ) (front : List B)
    (line : List ℕ) where
  abbrev GoesOn : Type 0
  GoesOn = (end : State → List B) (left : List (List ℕ)) (more : List Entry) →
      lines_told start.seats t end 1 (done ++ left) [] 0 start.limit (old.asker.entries ++ more) start.state
      ≡ front ++ lines_told start.seats t end n left old.rows old.now (room_of old.asker) more old.asker.state

  abbrev next : (State → List B) → List (List ℕ) → Remaining B
  next end left = λ later moment room fs u. lines_told start.seats t end (n + 1) left later moment room fs u

  -- up to the line
  line_next : (end : State → List B) (left : List (List ℕ)) (added more : List Entry) → GoesOn → old.asker.seats ≡ start.seats →
      new.asker.entries ≡ old.asker.entries ++ added →
      lines_told start.seats t end 1 ((done ++ line ∷ []) ++ left) [] 0 start.limit (new.asker.entries ++ more) start.state
      ≡ front ++ line_told old.asker.seats (t n) (next end left) (cal_line_of line) old.rows old.now (room_of old.asker) (added ++ more) old.asker.state
  line_next end left added more g seats pushed =
      ap (λ ls. lines_told start.seats t end 1 ls [] 0 start.limit (new.asker.entries ++ more) start.state) (append_assoc done (line ∷ []) left)
      ∙ ap (λ es. lines_told start.seats t end 1 (done ++ line ∷ left) [] 0 start.limit (es ++ more) start.state) pushed
      ∙ ap (λ es. lines_told start.seats t end 1 (done ++ line ∷ left) [] 0 start.limit es start.state) (append_assoc old.asker.entries added more)
      ∙ g end (line ∷ left) (added ++ more)
      ∙ ap (λ w. front ++ w)
      (ap (λ k. line_told k (t n) (next end left) (cal_line_of line) old.rows old.now (room_of old.asker) (added ++ more) old.asker.state) (sym seats))

  pub told_on : (added : List Entry) (text : List B) → GoesOn → old.asker.seats ≡ start.seats → new.asker.entries ≡ old.asker.entries ++ added →
      ((after : Remaining B) (more : List Entry) →
      line_told old.asker.seats (t n) after (cal_line_of line) old.rows old.now (room_of old.asker) (added ++ more) old.asker.state
      ≡ text ++ after new.rows new.now (room_of new.asker) more new.asker.state) →
      (end : State → List B) (left : List (List ℕ)) (more : List Entry) →
      lines_told start.seats t end 1 ((done ++ line ∷ []) ++ left) [] 0 start.limit (new.asker.entries ++ more) start.state
      ≡ (front ++ text) ++ lines_told start.seats t end (n + 1) left new.rows new.now (room_of new.asker) more new.asker.state
  told_on added text g seats pushed step end left more =
      line_next end left added more g seats pushed
      ∙ ap (λ w. front ++ w) (step (next end left) more)
      ∙ sym (append_assoc front text (next end left new.rows new.now (room_of new.asker) more new.asker.state))

  pub told_halts : (added : List Entry) (text : List B) → GoesOn → old.asker.seats ≡ start.seats → new.asker.entries ≡ old.asker.entries ++ added →
      ((after : Remaining B) → (tail : List B)
      × (line_told old.asker.seats (t n) after (cal_line_of line) old.rows old.now (room_of old.asker) added old.asker.state ≡ text ++ tail)) →
      (end : State → List B) (left : List (List ℕ)) →
      (tail : List B)
      × (lines_told start.seats t end 1 ((done ++ line ∷ []) ++ left) [] 0 start.limit new.asker.entries start.state ≡ (front ++ text) ++ tail)
  told_halts added text g seats pushed step end left =
      let after = step (next end left) in (
        after.0,
        ap (λ es. lines_told start.seats t end 1 ((done ++ line ∷ []) ++ left) [] 0 start.limit es start.state) (sym (append-nil new.asker.entries))
            ∙ line_next end left added [] g seats pushed
            ∙ ap (λ es. front ++ line_told old.asker.seats (t n) (next end left) (cal_line_of line) old.rows old.now (room_of old.asker) es old.asker.state)
            (append-nil added)
            ∙ ap (λ w. front ++ w) after.1
            ∙ sym (append_assoc front text after.0),
      )

-- the calls that were asked are entered while the journal takes more
entered_on : {K : Type 0} (limit : ℕ) (old new : Desk K) (added : List Entry) (before asked : List (ℕ × EventKind)) →
    map asked_of old.entries ≡ take limit before → room_of old ≡ limit - length before → new.entries ≡ old.entries ++ added →
    map asked_of added ≡ take (room_of old) asked → map asked_of new.entries ≡ take limit (before ++ asked)
entered_on limit old new added before asked e room pushed f =
    ap (map asked_of) pushed
    ∙ map-append asked_of old.entries added
    ∙ ap (λ w. w ++ map asked_of added) e
    ∙ ap (λ w. take limit before ++ w) f
    ∙ ap (λ r. take limit before ++ take r asked) room
    ∙ sym (take_append limit before asked)

-- one line more is done
split_next : (script done all : List (List ℕ)) (line : List ℕ) (rest : List (List ℕ)) → script ≡ done ++ all → all ≡ line ∷ rest →
    script ≡ (done ++ line ∷ []) ++ rest
split_next script done all line rest split e = split ∙ ap (λ ls. done ++ ls) e ∙ sym (append_assoc done (line ∷ []) rest)

pub going_on : {K : Type 0} {faults : K → ℕ} {start old new : Calendar (Desk K)} {script all : List (List ℕ)} {n : ℕ} {a b c : Option (List ℕ)}
    {calls : ℕ} {t : Tally} (now : ℕ) (line : List ℕ) (rest : List (List ℕ)) → CalGoing faults start old script all n a b calls → all ≡ line ∷ rest →
    HasSameOpening old.asker new.asker → CalDid faults old new n (cal_line_of line) b c t → now ≡ min (calls + t.calls) (2 ^ 64 - 1) →
    CalGoing faults start new script rest (n + 1) a c now
going_on {K} {faults} {start} {old} {new} {script} {all} {n} {a} {b} {c} {calls} {t} now line rest g split same did count =
    let step = did.step in
    record {
      done = g.done ++ line ∷ [];
      split = split_next script g.done all line rest g.split split;
      front = g.front ++ did.text;
      asked = g.asked ++ step.asked;
      gained = gains_more a b c g.front did.text g.gained did.written;
      shows = told_on texts_of start.asker old new g.done n g.front line step.added did.text g.shows g.same.seats step.entries step.shows;
      asks = told_on asks_of start.asker old new g.done n g.asked line step.added step.asked g.asks g.same.seats step.entries step.asks;
      entered = entered_on start.asker.limit old.asker new.asker step.added g.asked step.asked g.entered g.room step.entries step.entered;
      room = omega (arith, step.room, g.room, length-append g.asked step.asked);
      count = omega (arith, count, g.count, did.calls, length-append g.asked step.asked);
      rose = omega (arith, g.rose, step.rose, ap fault_count step.entries, faults_append old.asker.entries step.added);
      settled = omega (arith, g.settled, did.settled, ap memory_stops step.entries, stops_append old.asker.entries step.added);
      same = same_on g.same same;
    }

-- at the end of the lines
module _ {K : Type 0} {faults : K → ℕ} {start now : Calendar (Desk K)} {script : List (List ℕ)} {n : ℕ} {a b : Option (List ℕ)} {calls : ℕ}
    (g : CalGoing faults start now script [] n a b calls) where
  all_told_at_end : {B : Type 0} (t : ℕ → Telling B) (end : State → List B) (front : List B) →
      ((left : List (List ℕ)) (more : List Entry) →
      lines_told start.asker.seats t end 1 (g.done ++ left) [] 0 start.asker.limit (now.asker.entries ++ more) start.asker.state
      ≡ front ++ lines_told start.asker.seats t end n left now.rows now.now (room_of now.asker) more now.asker.state) →
      lines_told start.asker.seats t end 1 script [] 0 start.asker.limit now.asker.entries start.asker.state ≡ front ++ end now.asker.state
  all_told_at_end t end front h =
      ap (λ ls. lines_told start.asker.seats t end 1 ls [] 0 start.asker.limit now.asker.entries start.asker.state) g.split
      ∙ ap (λ es. lines_told start.asker.seats t end 1 (g.done ++ []) [] 0 start.asker.limit es start.asker.state) (sym (append-nil now.asker.entries))
      ∙ h [] []

  shown_at_end : cal_outputs start.asker.seats script start.asker.limit now.asker.entries start.asker.state ≡ g.front ++ tables_text now.asker.state
  shown_at_end = all_told_at_end texts_of (λ t. tables_text t) g.front (g.shows (λ t. tables_text t))

  lines_at_end : line_outputs start.asker.seats script start.asker.limit now.asker.entries start.asker.state ≡ g.front
  lines_at_end = all_told_at_end texts_of (λ t. []) g.front (g.shows (λ t. [])) ∙ append-nil g.front

  asked_at_end : cal_questions start.asker.seats script start.asker.limit now.asker.entries start.asker.state ≡ g.asked
  asked_at_end = all_told_at_end asks_of (λ t. []) g.asked (g.asks (λ t. [])) ∙ append-nil g.asked

or_false : (b : Bool) → (b || false) ≡ b
or_false true = refl
or_false false = refl

at_the_end : {K : Type 0} {faults : K → ℕ} {start now : Calendar (Desk K)} {script : List (List ℕ)} {n : ℕ} {a b : Option (List ℕ)} (t : Tally) →
    CalGoing faults start now script [] n a b t.calls → t.refused ≡ has_refused_line script → LinesDone faults start.asker now.asker script a b t
at_the_end {K} {faults} {start} t g refused = record {
  front = g.front;
  gained = g.gained;
  shows = shown_at_end g;
  lines_show = lines_at_end g;
  calls = g.entered ∙ ap (take start.asker.limit) (sym (asked_at_end g));
  counts = record { calls = g.count ∙ ap (λ w. min (length w) (2 ^ 64 - 1)) (sym (asked_at_end g)); refused = refused };
  rose = g.rose;
  settled = g.settled;
  same = g.same;
}

-- no line is left
pub going_done : {K : Type 0} {faults : K → ℕ} {start now : Calendar (Desk K)} {script rest : List (List ℕ)} {n : ℕ} {a b : Option (List ℕ)} (t : Tally) →
    rest ≡ [] → CalGoing faults start now script rest n a b t.calls → (t.refused || has_refused_line rest) ≡ has_refused_line script →
    LinesDone faults start.asker now.asker script a b t
going_done {K} {faults} {start} {now} {script} {rest} {n} {a} {b} t e g r =
    at_the_end t (subst (λ ls. CalGoing faults start now script ls n a b t.calls) e g)
    (sym (ap (λ ls. t.refused || has_refused_line ls) e ∙ or_false t.refused) ∙ r)

-- all lines were done, and the tables text written
pub done_ends : {K : Type 0} {faults : K → ℕ} {start now : Desk K} {script : List (List ℕ)} {a b : Option (List ℕ)} {t : Tally} (c : Option (List ℕ)) →
    LinesDone faults start now script a b t → Gains b c (tables_text now.state) → CalWhole faults start now script a c
done_ends {K} {faults} {start} {now} {script} {a} {b} c d last = record {
  written = subst (Gains a c) (sym d.shows) (gains_more a b c d.front (tables_text now.state) d.gained last);
  calls = d.calls;
  rose = d.rose;
  settled = d.settled;
  same = d.same;
}

take_taken : {A : Type 0} (k : ℕ) (xs : List A) → take (length (take k xs)) xs ≡ take k xs
take_taken zero xs = refl
take_taken (suc k) [] = refl
take_taken (suc k) (x ∷ xs) = ap (λ w. x ∷ w) (take_taken k xs)

length_taken : {A : Type 0} (k : ℕ) (xs : List A) → length (take k xs) ≤ length xs
length_taken zero xs = omega arith
length_taken (suc k) [] = omega arith
length_taken (suc k) (x ∷ xs) = omega (arith, length_taken k xs)

take_within : {A : Type 0} (k : ℕ) (xs ys : List A) → k ≤ length xs → take k (xs ++ ys) ≡ take k xs
take_within k xs ys h =
    let none : k - length xs ≡ 0 = omega arith in
    take_append k xs ys ∙ ap (λ m. take k xs ++ take m ys) none ∙ append-nil (take k xs)

-- the calls that were made are the first of those that are asked
made_first : {A : Type 0} (limit : ℕ) (made asked tail all : List A) → made ≡ take limit asked → all ≡ asked ++ tail → made ≡ take (length made) all
made_first limit made asked tail all e f =
    let n : length made ≡ length (take limit asked) = ap length e in
    sym (ap (λ k. take k all) n
    ∙ ap (take (length (take limit asked))) f
    ∙ take_within (length (take limit asked)) asked tail (length_taken limit asked)
    ∙ take_taken limit asked
    ∙ sym e)

made_calls : (limit : ℕ) (es : List Entry) (asked tail all : List (ℕ × EventKind)) → map asked_of es ≡ take limit asked → all ≡ asked ++ tail →
    map asked_of es ≡ take (length es) all
made_calls limit es asked tail all e f =
    made_first limit (map asked_of es) asked tail all e f ∙ ap (λ k. take k all) (length-map es asked_of)

-- a prefix of what comes next was written
between : (a b c : Option (List ℕ)) (least whole front text tail : List ℕ) → least ≡ front → whole ≡ (front ++ text) ++ tail → Gains a b front →
    GainsFront b c text → GainsBetween a c least whole
between a b c least whole front text tail d e f g = record {
  front = front ++ g.front;
  gained = gains_more a b c front g.front f g.gained;
  at_least = record { rest = g.front; cut = ap (λ w. w ++ g.front) (sym d) };
  at_most = record {
    rest = g.rest ++ tail;
    cut = e ∙ append_assoc front text tail ∙ ap (λ w. front ++ (w ++ tail)) g.cut ∙ ap (λ w. front ++ w) (append_assoc g.front g.rest tail)
        ∙ sym (append_assoc front g.front (g.rest ++ tail));
  };
}

take_over : {A : Type 0} (k : ℕ) (xs : List A) → length xs ≤ k → take k xs ≡ xs
take_over zero [] h = refl
take_over (suc k) [] h = refl
take_over zero (x ∷ xs) h = absurd (omega (arith, h))
take_over (suc k) (x ∷ xs) h = ap (λ w. x ∷ w) (take_over k xs (omega (arith, h)))

-- the first lines
first_lines : (script done rest : List (List ℕ)) → script ≡ done ++ rest → take (length done) script ≡ done
first_lines script done rest e =
    ap (take (length done)) e ∙ take_within (length done) done rest (omega arith) ∙ take_over (length done) done (omega arith)

-- all lines were done, and a prefix of the tables text written
pub done_cut : {K : Type 0} {faults : K → ℕ} {start now : Desk K} {script : List (List ℕ)} {a b : Option (List ℕ)} {t : Tally} (c : Option (List ℕ)) →
    LinesDone faults start now script a b t → GainsFront b c (tables_text now.state) → CalPart faults start now script a c
done_cut {K} {faults} {start} {now} {script} {a} {b} c d last =
    let outputs : List (List ℕ) → List ℕ = λ ls. line_outputs start.seats ls start.limit now.entries start.state in
    let questions : List (List ℕ) → List (ℕ × EventKind) = λ ls. cal_questions start.seats ls start.limit now.entries start.state in
    record {
      lines_done = length script;
      written = between a b c _ _ d.front (tables_text now.state) [] (ap outputs (take_over (length script) script (omega arith)) ∙ d.lines_show)
          (d.shows ∙ sym (append-nil (d.front ++ tables_text now.state))) d.gained last;
      calls = made_calls start.limit now.entries (questions script) [] _ d.calls
          (ap questions (take_over (length script + 1) script (omega arith)) ∙ sym (append-nil (questions script)));
      rose = d.rose;
      same = d.same;
    }

-- the run ends at a line
pub going_halts : {K : Type 0} {faults : K → ℕ} {start old new : Calendar (Desk K)} {script all : List (List ℕ)} {n : ℕ} {a b c : Option (List ℕ)}
    {calls : ℕ} (line : List ℕ) (rest : List (List ℕ)) → CalGoing faults start old script all n a b calls → all ≡ line ∷ rest →
    HasSameOpening old.asker new.asker → CalHalts faults old new n (cal_line_of line) b c → CalPart faults start.asker new.asker script a c
going_halts {K} {faults} {start} {old} {new} {script} {all} {n} {a} {b} {c} line rest g split same h =
    let seats : ℕ = start.asker.seats in
    let limit : ℕ = start.asker.limit in
    let last : List Entry = new.asker.entries in
    let opened : State = start.asker.state in
    let these : List (List ℕ) = g.done ++ line ∷ [] in
    let whole : script ≡ these ++ rest = split_next script g.done all line rest g.split split in
    let shown = told_halts texts_of start.asker old new g.done n g.front line h.added h.text g.shows g.same.seats h.entries h.shows (λ t. tables_text t) rest in
    let asked = told_halts asks_of start.asker old new g.done n g.asked line h.added h.asked g.asks g.same.seats h.entries h.asks (λ t. []) [] in
    let before : line_outputs seats g.done limit last opened ≡ g.front =
    ap (λ ls. line_outputs seats ls limit last opened) (sym (append-nil g.done))
    ∙ ap (λ es. line_outputs seats (g.done ++ []) limit es opened) h.entries
    ∙ g.shows (λ t. []) [] h.added ∙ append-nil g.front in
    let counted : take (length g.done + 1) script ≡ these =
    ap (λ k. take k script) (sym (length_push g.done line)) ∙ first_lines script these rest whole in
    record {
      lines_done = length g.done;
      written = between a b c _ _ g.front h.text shown.0
          (ap (λ ls. line_outputs seats ls limit last opened) (first_lines script g.done all g.split) ∙ before)
          (ap (λ ls. cal_outputs seats ls limit last opened) whole ∙ shown.1) g.gained h.written;
      calls = made_calls limit last (g.asked ++ h.asked) asked.0 _
          (entered_on limit old.asker new.asker h.added g.asked h.asked g.entered g.room h.entries h.entered)
          (ap (λ ls. cal_questions seats ls limit last opened) (counted ∙ sym (append-nil these)) ∙ asked.1);
      rose = omega (arith, g.rose, h.rose, ap fault_count h.entries, faults_append old.asker.entries h.added);
      same = same_on g.same same;
    }

-- whether a line so far is not a valid request, and one of the rest
pub cal_refused_next : (so_far now all : Bool) (t : Tally) (rest : List (List ℕ)) (line : List ℕ) (lines : List (List ℕ)) → rest ≡ line ∷ lines →
    t.refused ≡ is_refused_line (cal_line_of line) → now ≡ (so_far || t.refused) → (so_far || has_refused_line rest) ≡ all →
    (now || has_refused_line lines) ≡ all
cal_refused_next so_far now all t rest line lines e c f g =
    ap (λ b. b || has_refused_line lines) (f ∙ ap (λ b. so_far || b) c)
    ∙ or_assoc so_far (is_refused_line (cal_line_of line)) (has_refused_line lines)
    ∙ ap (λ ls. so_far || has_refused_line ls) (sym e) ∙ g

-- a line that is not a valid request
pub refusal_did : {K : Type 0} (faults : K → ℕ) (c : Calendar (Desk K)) (n : ℕ) (refusal : Refusal) (a b : Option (List ℕ)) (r : Result Tally Stopped) →
    OnOk r (Gains a b (numbered n (refusal_text refusal))) → IfOk r (λ t. t ≡ record { calls = 0; refused = true }) →
    IfOk r (CalDid faults c c n (Err refusal) a b)
refusal_did faults c n refusal a b (Ok t) g e =
    did_idle faults c c n (Err refusal) (numbered n (refusal_text refusal)) a b t refl refl refl (λ rest more. refl) (λ rest more. refl) g
    (ap (λ (w : Tally). w.calls) e) (ap (λ (w : Tally). w.refused) e)
refusal_did faults c n refusal a b (Err s) g e = tt

pub refusal_halts : {K : Type 0} (faults : K → ℕ) (c : Calendar (Desk K)) (n : ℕ) (refusal : Refusal) (a b : Option (List ℕ)) (r : Result Tally Stopped) →
    OnErr r (GainsFront a b (numbered n (refusal_text refusal))) → OnErr r (CalHalts faults c c n (Err refusal) a b)
refusal_halts faults c n refusal a b (Ok t) g = tt
refusal_halts faults c n refusal a b (Err s) g =
    halts_at a b (advances_idle faults c c n (Err refusal) (numbered n (refusal_text refusal)) refl refl refl (λ rest more. refl) (λ rest more. refl)) g

-- how a script that was done to its end ends
abbrev status_by : Bool → Bool → Bool → Status
status_by has_faults is_full is_refused =
    if has_faults then statuses.KeeperFault else (if is_full then statuses.JournalFull else (if is_refused then statuses.UnreadableLines else statuses.Done))

ends_ran : {K : Type 0} (faults : K → ℕ) (start now : Desk K) (script : List ℕ) (a b : Option (List ℕ)) (has_faults is_full is_refused : Bool) →
    CalEndsWith faults start now script a b (status_by has_faults is_full is_refused) →
    CalDeskRan faults start now script a b (status_by has_faults is_full is_refused)
ends_ran faults start now script a b true is_full is_refused e = e
ends_ran faults start now script a b false true is_refused e = e
ends_ran faults start now script a b false false true e = e
ends_ran faults start now script a b false false false e = e

full_is : (limit calls asked : ℕ) → limit < 2 ^ 32 → calls ≡ min asked (2 ^ 64 - 1) → nat_lt limit calls ≡ nat_lt limit asked
full_is limit calls asked few e = ap (nat_lt limit) e ∙ by_test (nat_lt limit asked) refl
  where
    by_test : (t : Bool) → nat_lt limit asked ≡ t → nat_lt limit (min asked (2 ^ 64 - 1)) ≡ t
    by_test true e = let below : limit < asked = grind (arith, nat_tests) in let both : limit < min asked (2 ^ 64 - 1) = omega (arith, few, below) in
        grind (arith, nat_tests)
    by_test false e = let above : asked ≤ limit = grind (arith, nat_tests) in let both : min asked (2 ^ 64 - 1) ≤ limit = omega (arith, above) in
        grind (arith, nat_tests)

pub ran_ended : {K : Type 0} (faults : K → ℕ) (start now : Desk K) (script : List ℕ) (a b : Option (List ℕ)) (t : Tally) (has_faults : Bool) (limit : ℕ)
    (status : Status) → length script ≤ script_limit → start.limit < 2 ^ 32 → CalWhole faults start now (lines script) a b →
    CountsCalls start now (lines script) t → has_faults ≡ nat_lt 0 (fault_count now.entries) → limit ≡ now.limit →
    status ≡ status_by has_faults (nat_lt limit t.calls) t.refused → CalDeskRan faults start now script a b status
ran_ended faults start now script a b t has_faults limit status few small whole counts f l e =
    let questions = cal_questions start.seats (lines script) start.limit now.entries start.state in
    let full : nat_lt limit t.calls ≡ nat_lt start.limit (length questions) =
    ap (λ k. nat_lt k t.calls) (l ∙ whole.same.limit) ∙ full_is start.limit t.calls (length questions) small counts.calls in
    let same : status_by has_faults (nat_lt limit t.calls) t.refused
    ≡ status_by (nat_lt 0 (fault_count now.entries)) (nat_lt start.limit (length questions)) (has_refused_line (lines script)) =
    ap (λ w. status_by w (nat_lt limit t.calls) t.refused) f
    ∙ ap (λ w. status_by (nat_lt 0 (fault_count now.entries)) w t.refused) full
    ∙ ap (λ w. status_by (nat_lt 0 (fault_count now.entries)) (nat_lt start.limit (length questions)) w) counts.refused in
    subst (CalDeskRan faults start now script a b) (sym e)
    (ends_ran faults start now script a b has_faults (nat_lt limit t.calls) t.refused (record { few = few; whole = whole; ending = same }))

-- a script that was done to its end wrote something
pub writes_some : (has_faults is_full is_refused : Bool) → WritesNothing (status_by has_faults is_full is_refused) → ⊥
writes_some true is_full is_refused h = h
writes_some false true is_refused h = h
writes_some false false true h = h
writes_some false false false h = h

-- the keeper counted the faults of a script whose end tells of them
pub fault_rose : (has_faults is_full is_refused : Bool) (by before now : ℕ) (status : Status) → has_faults ≡ nat_lt 0 by → RoseBy by before now →
    status ≡ status_by has_faults is_full is_refused → status ≡ statuses.KeeperFault → Rose before now
fault_rose true is_full is_refused by before now status e rose s f = let some : 0 < by = grind (arith, nat_tests) in omega (arith, some, rose)
fault_rose false true is_refused by before now status e rose s f = search (rules, sym s ∙ f)
fault_rose false false true by before now status e rose s f = search (rules, sym s ∙ f)
fault_rose false false false by before now status e rose s f = search (rules, sym s ∙ f)
