-- From the answer of a calendar over a desk to how it goes on.
use Rattle.std.proofs.Common.{◌≡◌, ◌+◌, ◌||◌, max, ℕ, zero, suc, Bool, true, false, List, [], ◌∷◌, ◌++◌, Option, Some, None, Result, Ok, length}
use Rattle.std.proofs.Common.{refl, sym, ap, ◌∙◌, subst, arith, append_assoc, inl, inr}
use Rattle.std.specs.List.{flat_map}
use Rattle.std.proofs.lemmas.List.{append-nil, length-append}
use Rattle.byte_streams.specs.Content.{GainsFront}
use Rattle.byte_streams.proofs.Gaining.{gains_nothing}
use Rattle.bt_rows.specs.declared.event.EventKind.{EventKind}
use Rattle.bt_rows.specs.declared.refusal.Refusal.{Refusal}
use Rattle.bt_rows.specs.declared.reply.Reply.TheVariants as replies
use Rattle.batch_model.specs.Variants.{State}
use Rattle.wire_texts.specs.Lines.{numbered}
use Rattle.wire_texts.specs.Replies.{reply_text}
use Rattle.batch_desk.specs.Exchanges.{Exchange, Called, Looked, Leads}
use Rattle.batch_desk.specs.Desks.{IsExchange, IsCall, call_entries, entries_of}
use Rattle.batch_desk.specs.declared.answer.Answer.{Answer}
use Rattle.batch_desk.specs.declared.answer.Answer.TheVariants as answers
use Rattle.batch_desk.specs.declared.entry.Entry.{Entry}
use Rattle.batch_desk.specs.Kept.{Desk}
use Rattle.batch_desk.specs.History.{after_call}
use Rattle.batch_desk.specs.Answers.{AnswersCall, HasSameOpening, IsInOrder}
use Rattle.batch_cli.specs.Advance.{room_of}
use Rattle.batch_cli.specs.Shown.{answer_text, memory_stops, ran_out}
use Rattle.batch_cli.specs.CalendarShown.{Telling, Remaining, turns_told, asked_told, event_told, line_told, own_told, texts_of, asks_of, fires_text}
use Rattle.batch_cli.specs.CalendarShown.{fire_text}
use Rattle.batch_cli.specs.CalendarAdvance.{CalAdvances, CalShows, CalHalts, HaltsCalCall, KeepsDesk, ShowsAnswer, first_text, first_ran_out, first_count, cal_text}
use Rattle.batch_cli.proofs.CalendarFires.{calls_in, any_ran_out, FiresMatch, fires_match, turns_fire, stops_of_call, or_left, or_right}
use Rattle.batch_cli.proofs.CalendarTold.{Leaves, leaves_same, leaves_more, leaves_call, leaves_memory, leaves_all, all_told, told_by_exchanges}
use Rattle.batch_cli.proofs.CalendarTold.{AnsweredPart, answered_part, IsEntered, FindsFull, call_step}
use Rattle.batch_cli.proofs.GoingOn.{stops_append, same_on}
use Rattle.batch_schedule.specs.Kept.{Calendar}
use Rattle.batch_schedule.specs.Answers.{AnswersEvent, AnswersCal, FollowsAnswer, IsOwn, TurnsFollow}
use Rattle.schedule_lines.specs.declared.line.CalLine.{CalLine}
use Rattle.schedule_lines.specs.declared.line.CalLine.TheVariants.{Call}
use Rattle.schedule_rows.specs.Fires.{fire_of, fires_of, has_memory}
use Rattle.schedule_rows.specs.Interactions.{Ends}
use Rattle.schedule_rows.specs.OwnEvents.{own_refusal, after_own, own_status}
use Rattle.schedule_rows.specs.Rows.{Schedule}
use Rattle.schedule_rows.specs.Turns.{turns}
use Rattle.schedule_rows.specs.declared.answer.CalAnswer.{CalAnswer}
use Rattle.schedule_rows.specs.declared.answer.CalReply.{CalReply}
use Rattle.schedule_rows.specs.declared.answer.CalReply.TheVariants.{Status, Refused, Asked, Memory}
use Rattle.schedule_rows.specs.declared.event.CalEvent.{CalEvent}
use Rattle.schedule_rows.specs.declared.event.CalEvent.TheVariants.{Add, Delete, Disable, Enable, Inner}
use Rattle.schedule_rows.specs.declared.fire.Fire.{Fire}
use Rattle.schedule_rows.specs.declared.refusal.CalRefusal.{CalRefusal}

fires_append : (n : ℕ) (xs ys : List Fire) → fires_text n (xs ++ ys) ≡ fires_text n xs ++ fires_text n ys
fires_append n [] ys = refl
fires_append n (x ∷ xs) ys =
    ap (λ w. fire_text n x x.answer ++ w) (fires_append n xs ys) ∙ sym (append_assoc (fire_text n x x.answer) (fires_text n xs) (fires_text n ys))

-- the texts of exchanges are those of their fires
texts_told : (n : ℕ) (xs : List Exchange) → all_told (texts_of n) xs ≡ fires_text n (fires_of xs)
texts_told n [] = refl
texts_told n (Called moment event answer ∷ xs) =
    ap (λ w. fires_text n (fire_of event answer) ++ w) (texts_told n xs) ∙ sym (fires_append n (fire_of event answer) (fires_of xs))
texts_told n (Looked read reply ∷ xs) = texts_told n xs

-- what exchanges ask is their calls
asks_told : (n : ℕ) (xs : List Exchange) → all_told (asks_of n) xs ≡ flat_map calls_in xs
asks_told n [] = refl
asks_told n (Called moment event answer ∷ xs) = ap (λ w. (moment, event) ∷ w) (asks_told n xs)
asks_told n (Looked read reply ∷ xs) = asks_told n xs

-- a run that has gone on, and ends there with a prefix of the line's text
pub halts_at : {K : Type 0} {faults : K → ℕ} {old new : Calendar (Desk K)} {n : ℕ} {line : Result CalLine Refusal} {text : List ℕ} (before now : Option (List ℕ)) →
    CalAdvances faults old new n line text → GainsFront before now text → CalHalts faults old new n line before now
halts_at {K} {faults} {old} {new} {n} {line} {text} before now step written = record {
  added = step.added;
  asked = step.asked;
  text = text;
  entries = step.entries;
  shows = λ rest. (
    rest new.rows new.now (room_of new.asker) [] new.asker.state,
    ap (λ es. line_told old.asker.seats (texts_of n) rest line old.rows old.now (room_of old.asker) es old.asker.state) (sym (append-nil step.added))
        ∙ step.shows rest [],
  );
  asks = λ rest. (
    rest new.rows new.now (room_of new.asker) [] new.asker.state,
    ap (λ es. line_told old.asker.seats (asks_of n) rest line old.rows old.now (room_of old.asker) es old.asker.state) (sym (append-nil step.added))
        ∙ step.asks rest [],
  );
  entered = step.entered;
  rose = step.rose;
  written = written;
}

-- nothing of a text was written
pub nothing_of : (taken : Option (List ℕ)) (text : List ℕ) → GainsFront taken taken text
nothing_of taken text = record { front = []; rest = text; cut = refl; gained = gains_nothing taken }

-- an event on the schedules that is refused
own_refused : {B : Type 0} (seats : ℕ) (t : Telling B) (rest : Remaining B) (event : CalEvent) (refusal : CalRefusal) (rows : List Schedule) (now room : ℕ)
    (es : List Entry) (s : State) → own_refusal rows event ≡ Some refusal →
    event_told seats t rest event rows now room es s ≡ t.own event (Some refusal) ++ turns_told seats t rest now (turns now [] rows) room es s
own_refused seats t rest (Add row) refusal rows now room es s h = ap (λ o. own_told seats t rest (Add row) o rows now room es s) h
own_refused seats t rest (Delete id) refusal rows now room es s h = ap (λ o. own_told seats t rest (Delete id) o rows now room es s) h
own_refused seats t rest (Disable id) refusal rows now room es s h = ap (λ o. own_told seats t rest (Disable id) o rows now room es s) h
own_refused seats t rest (Enable id) refusal rows now room es s h = ap (λ o. own_told seats t rest (Enable id) o rows now room es s) h
own_refused seats t rest (Inner event) refusal rows now room es s h = absurd (cc)

-- one that is accepted
own_accepted : {B : Type 0} (seats : ℕ) (t : Telling B) (rest : Remaining B) (event : CalEvent) (rows : List Schedule) (now room : ℕ)
    (es : List Entry) (s : State) → IsOwn event → own_refusal rows event ≡ None →
    event_told seats t rest event rows now room es s
    ≡ t.own event None ++ turns_told seats t rest now (turns now [] (after_own now rows event)) room es s
own_accepted seats t rest (Add row) rows now room es s own h = ap (λ o. own_told seats t rest (Add row) o rows now room es s) h
own_accepted seats t rest (Delete id) rows now room es s own h = ap (λ o. own_told seats t rest (Delete id) o rows now room es s) h
own_accepted seats t rest (Disable id) rows now room es s own h = ap (λ o. own_told seats t rest (Disable id) o rows now room es s) h
own_accepted seats t rest (Enable id) rows now room es s own h = ap (λ o. own_told seats t rest (Enable id) o rows now room es s) h
own_accepted seats t rest (Inner event) rows now room es s own h = absurd own

-- an event for the desk: what it was answered, and then the turns
asked_tells : {K B : Type 0} (t : Telling B) (rest : Remaining B) (event : EventKind) (rows : List Schedule) (now : ℕ) (answer : Answer) (old middle : Desk K)
    (entries more : List Entry) → IsEntered old middle entries answer →
    asked_told old.seats t rest event rows now (room_of old) (entries ++ more) old.state
    ≡ t.call now event answer ++ turns_told old.seats t rest now (turns now [] rows) (room_of middle) more middle.state
asked_tells t rest event rows now answer old middle entries more one =
    ap (λ r. asked_told old.seats t rest event rows now r (entries ++ more) old.state) one.room
    ∙ ap (λ w. asked_told old.seats t rest event rows now (suc (room_of middle)) (w ++ more) old.state) one.one
    ∙ ap (λ a. t.call now event a ++ turns_told old.seats t rest now (turns now [] rows) (room_of middle) more (after_call old.seats old.state one.entry))
    (sym one.answered)
    ∙ ap (λ s. t.call now event answer ++ turns_told old.seats t rest now (turns now [] rows) (room_of middle) more s) (sym one.state)

full_tells : {K B : Type 0} (t : Telling B) (rest : Remaining B) (event : EventKind) (rows : List Schedule) (now : ℕ) (answer : Answer) (old middle : Desk K)
    (entries more : List Entry) → FindsFull old middle entries answer →
    asked_told old.seats t rest event rows now (room_of old) (entries ++ more) old.state
    ≡ t.call now event answer ++ turns_told old.seats t rest now (turns now [] rows) (room_of middle) more middle.state
full_tells t rest event rows now answer old middle entries more none =
    ap (λ r. asked_told old.seats t rest event rows now r (entries ++ more) old.state) none.room
    ∙ ap (λ w. asked_told old.seats t rest event rows now zero (w ++ more) old.state) none.none
    ∙ ap (λ a. t.call now event a ++ turns_told old.seats t rest now (turns now [] rows) zero more old.state) (sym none.answered)
    ∙ ap (λ r. t.call now event answer ++ turns_told old.seats t rest now (turns now [] rows) r more old.state) (sym none.room)
    ∙ ap (λ d. t.call now event answer ++ turns_told old.seats t rest now (turns now [] rows) (room_of d) more d.state) (sym none.same)

call_tells : {K B : Type 0} (faults : K → ℕ) (t : Telling B) (rest : Remaining B) (event : EventKind) (rows : List Schedule) (now : ℕ) (answer : Answer)
    (old middle : Desk K) (more : List Entry) → AnswersCall faults old middle now event answer → HasSameOpening old middle → has_memory answer ≡ true →
    asked_told old.seats t rest event rows now (room_of old) (call_entries now event answer ++ more) old.state
    ≡ t.call now event answer ++ turns_told old.seats t rest now (turns now [] rows) (room_of middle) more middle.state
call_tells faults t rest event rows now answer old middle more a same h =
    elim (call_step faults old middle now event answer a same h) [
      | inl one ↦ asked_tells t rest event rows now answer old middle (call_entries now event answer) more one
      | inr none ↦ full_tells t rest event rows now answer old middle (call_entries now event answer) more none
    ]

module _ {K : Type 0} (told : K → Option State) (faults : K → ℕ) (old new : Calendar (Desk K)) (n moment : ℕ) (event : CalEvent) where
  -- how the event begins, before the turns of these schedules over this desk
  abbrev Begun : {B : Type 0} → Telling B → List B → List Entry → List Schedule → Desk K → Type 0
  Begun {B} t first es rows middle =
      (rest : Remaining B) (more : List Entry) →
      event_told old.asker.seats t rest event old.rows (max old.now moment) (room_of old.asker) (es ++ more) old.asker.state
      ≡ first ++ turns_told old.asker.seats t rest (max old.now moment) (turns (max old.now moment) [] rows) (room_of middle) more middle.state

  -- an event, before the turns
  record Begins (first : List ℕ) (rows : List Schedule) (middle : Desk K) (es : List Entry) (calls : List (ℕ × EventKind)) : Type 0 where
    pub leaves : Leaves told faults old.asker middle es calls
    pub texts : Begun (texts_of n) first es rows middle
    pub asks : Begun (asks_of n) calls es rows middle

  -- the event and the turns after it
  record Advanced (first : List ℕ) (fires : List Fire) (es : List Entry) (calls : List (ℕ × EventKind)) : Type 0 where
    pub step : CalAdvances faults old new n (Ok (Call moment event)) (first ++ fires_text n fires)
    pub settled : memory_stops es ≡ 0 → any_ran_out fires ≡ false → memory_stops step.added ≡ 0
    pub count : length fires + length calls ≡ length step.asked

  abbrev Follows : List Schedule → Desk K → List Fire → Bool → Type 0
  Follows rows middle fires whole = TurnsFollow (IsExchange told faults) (max old.now moment) rows middle new fires whole

  -- what the turns tell, after the event
  turns_tell : {B : Type 0} (t : Telling B) (rest : Remaining B) (more : List Entry) (rows : List Schedule) (middle : Desk K) (fires : List Fire) →
      middle.seats ≡ old.asker.seats → (f : Follows rows middle fires true) →
      turns_told old.asker.seats t rest (max old.now moment) (turns (max old.now moment) [] rows) (room_of middle)
      (flat_map entries_of f.exchanges ++ more) middle.state
      ≡ all_told t f.exchanges ++ rest new.rows new.now (room_of new.asker) more new.asker.state
  turns_tell t rest more rows middle fires seats f =
      told_by_exchanges told faults old.asker.seats t rest (max old.now moment) (turns (max old.now moment) [] rows) (Ends new.rows) f.exchanges middle
      new.asker more seats f.through.1 f.leads f.through.0.ended
      ∙ ap (λ m. all_told t f.exchanges ++ rest new.rows m (room_of new.asker) more new.asker.state) (sym f.moment)

  begun_tell : {B : Type 0} (t : Telling B) (first : List B) (es : List Entry) (rows : List Schedule) (middle : Desk K) (fires : List Fire) →
      Begun t first es rows middle → middle.seats ≡ old.asker.seats → (f : Follows rows middle fires true) → (rest : Remaining B) (more : List Entry) →
      event_told old.asker.seats t rest event old.rows (max old.now moment) (room_of old.asker) ((es ++ flat_map entries_of f.exchanges) ++ more)
      old.asker.state
      ≡ (first ++ all_told t f.exchanges) ++ rest new.rows new.now (room_of new.asker) more new.asker.state
  begun_tell t first es rows middle fires begun seats f rest more =
      ap (λ w. event_told old.asker.seats t rest event old.rows (max old.now moment) (room_of old.asker) w old.asker.state)
      (append_assoc es (flat_map entries_of f.exchanges) more)
      ∙ begun rest (flat_map entries_of f.exchanges ++ more)
      ∙ ap (λ w. first ++ w) (turns_tell t rest more rows middle fires seats f)
      ∙ sym (append_assoc first (all_told t f.exchanges) (rest new.rows new.now (room_of new.asker) more new.asker.state))

  advanced : (first : List ℕ) (rows : List Schedule) (middle : Desk K) (fires : List Fire) (first_entries : List Entry)
      (calls : List (ℕ × EventKind)) → Begins first rows middle first_entries calls → Follows rows middle fires true →
      Advanced first fires first_entries calls
  advanced first rows middle fires first_entries calls b f =
      let xs = f.exchanges in
      let later : Leaves told faults middle new.asker (flat_map entries_of xs) (flat_map calls_in xs) =
      leaves_all told faults middle new.asker xs b.leaves.in_order f.through.1 f.leads in
      let all : Leaves told faults old.asker new.asker (first_entries ++ flat_map entries_of xs) (calls ++ flat_map calls_in xs) =
      leaves_more told faults old.asker middle new.asker first_entries (flat_map entries_of xs) calls (flat_map calls_in xs) b.leaves later in
      let matched : FiresMatch xs = fires_match (turns (max old.now moment) [] rows) (Ends new.rows) xs (turns_fire (max old.now moment) [] rows)
      f.through.0.ended in
      let texts : all_told (texts_of n) xs ≡ fires_text n fires = texts_told n xs ∙ ap (fires_text n) (sym f.fires) in
      record {
        step = record {
          added = first_entries ++ flat_map entries_of xs;
          asked = calls ++ flat_map calls_in xs;
          entries = all.entries;
          shows = λ rest more.
              begun_tell (texts_of n) first first_entries rows middle fires b.texts b.leaves.same.seats f rest more
              ∙ ap (λ w. (first ++ w) ++ rest new.rows new.now (room_of new.asker) more new.asker.state) texts;
          asks = λ rest more.
              begun_tell (asks_of n) calls first_entries rows middle fires b.asks b.leaves.same.seats f rest more
              ∙ ap (λ w. (calls ++ w) ++ rest new.rows new.now (room_of new.asker) more new.asker.state) (asks_told n xs);
          entered = all.entered;
          room = all.room;
          rose = all.rose;
        };
        settled = λ h g.
            stops_append first_entries (flat_map entries_of xs)
            ∙ omega (arith, h, matched.settled (ap any_ran_out (sym f.fires) ∙ g));
        count = omega (arith, ap length f.fires, matched.count, length-append calls (flat_map calls_in xs));
      }

  -- the turns were not all run
  cut_short : (first : List ℕ) (rows : List Schedule) (middle : Desk K) (fires : List Fire) (first_entries : List Entry)
      (calls : List (ℕ × EventKind)) → Begins first rows middle first_entries calls → Follows rows middle fires false →
      HaltsCalCall faults old new n moment event
  cut_short first rows middle fires first_entries calls b f taken =
      let now : ℕ = max old.now moment in
      let p : AnsweredPart told faults (turns now [] rows) middle new.asker =
      answered_part told faults (turns now [] rows) f.through.point f.exchanges middle new.asker b.leaves.in_order f.stops f.leads f.through.reached in
      let xs = p.exchanges in
      let es : List Entry = flat_map entries_of xs in
      let asked : List (ℕ × EventKind) = flat_map calls_in xs in
      let some : Leaves told faults middle p.middle es asked = leaves_all told faults middle p.middle xs b.leaves.in_order p.answered p.leads in
      let then_none : Leaves told faults middle new.asker (es ++ []) (asked ++ []) =
      leaves_more told faults middle p.middle new.asker es [] asked [] some p.last in
      let all : Leaves told faults old.asker new.asker (first_entries ++ (es ++ [])) (calls ++ (asked ++ [])) =
      leaves_more told faults old.asker middle new.asker first_entries (es ++ []) calls (asked ++ []) b.leaves then_none in
      record {
        added = first_entries ++ (es ++ []);
        asked = calls ++ (asked ++ []);
        text = [];
        entries = all.entries;
        shows = λ rest. (_, refl);
        asks = λ rest. (
          turns_told old.asker.seats (asks_of n) rest now p.point (room_of p.middle) [] p.middle.state,
          b.asks rest (es ++ [])
              ∙ ap (λ w. calls ++ w) (
              told_by_exchanges told faults old.asker.seats (asks_of n) rest now (turns now [] rows) p.point xs middle p.middle [] b.leaves.same.seats p.answered
              p.leads p.reached
              ∙ ap (λ w. w ++ turns_told old.asker.seats (asks_of n) rest now p.point (room_of p.middle) [] p.middle.state)
              (asks_told n xs ∙ sym (append-nil asked)))
              ∙ sym (append_assoc calls (asked ++ []) (turns_told old.asker.seats (asks_of n) rest now p.point (room_of p.middle) [] p.middle.state)),
        );
        entered = all.entered;
        rose = all.rose;
        written = nothing_of taken [];
      }

  -- an event on the schedules that is refused
  refused_begins : (refusal : CalRefusal) → IsInOrder told faults old.asker → own_refusal old.rows event ≡ Some refusal →
      Begins (first_text n (Refused refusal)) old.rows old.asker [] []
  refused_begins refusal order h = record {
    leaves = leaves_same told faults old.asker order;
    texts = λ rest more.
        own_refused old.asker.seats (texts_of n) rest event refusal old.rows (max old.now moment) (room_of old.asker) more old.asker.state h;
    asks = λ rest more.
        own_refused old.asker.seats (asks_of n) rest event refusal old.rows (max old.now moment) (room_of old.asker) more old.asker.state h;
  }

  -- one that is accepted
  accepted_begins : (status : ℕ) → IsInOrder told faults old.asker → IsOwn event → own_refusal old.rows event ≡ None → status ≡ own_status event →
      Begins (first_text n (Status status)) (after_own (max old.now moment) old.rows event) old.asker [] []
  accepted_begins status order own h is = record {
    leaves = leaves_same told faults old.asker order;
    texts = λ rest more.
        own_accepted old.asker.seats (texts_of n) rest event old.rows (max old.now moment) (room_of old.asker) more old.asker.state own h
        ∙ ap (λ k. numbered n (reply_text (replies.Status k)) ++ turns_told old.asker.seats (texts_of n) rest (max old.now moment)
        (turns (max old.now moment) [] (after_own (max old.now moment) old.rows event)) (room_of old.asker) more old.asker.state) (sym is);
    asks = λ rest more.
        own_accepted old.asker.seats (asks_of n) rest event old.rows (max old.now moment) (room_of old.asker) more old.asker.state own h;
  }

  -- an event for the desk
  asked_begins : (inner : EventKind) (answer : Answer) (middle : Desk K) → event ≡ Inner inner →
      IsCall told faults old.asker middle (max old.now moment) inner answer → has_memory answer ≡ true →
      Begins (first_text n (Asked answer)) old.rows middle (call_entries (max old.now moment) inner answer) ((max old.now moment, inner) ∷ [])
  asked_begins inner answer middle is x h = record {
    leaves = leaves_call told faults old.asker middle (max old.now moment) inner answer x h;
    texts = λ rest more.
        ap (λ e. event_told old.asker.seats (texts_of n) rest e old.rows (max old.now moment) (room_of old.asker)
        (call_entries (max old.now moment) inner answer ++ more) old.asker.state) is
        ∙ call_tells faults (texts_of n) rest inner old.rows (max old.now moment) answer old.asker middle more x.answers x.same h;
    asks = λ rest more.
        ap (λ e. event_told old.asker.seats (asks_of n) rest e old.rows (max old.now moment) (room_of old.asker)
        (call_entries (max old.now moment) inner answer ++ more) old.asker.state) is
        ∙ call_tells faults (asks_of n) rest inner old.rows (max old.now moment) answer old.asker middle more x.answers x.same h;
  }

  -- nothing was done
  idle : Leaves told faults old.asker new.asker [] [] → HaltsCalCall faults old new n moment event
  idle leaves taken = record {
    added = [];
    asked = [];
    text = [];
    entries = leaves.entries;
    shows = λ rest. (_, refl);
    asks = λ rest. (_, refl);
    entered = leaves.entered;
    rose = leaves.rose;
    written = nothing_of taken [];
  }

  whole_is : (rows : List Schedule) (middle : Desk K) (fires : List Fire) (whole : Bool) → whole ≡ true → Follows rows middle fires whole →
      Follows rows middle fires true
  whole_is rows middle fires whole h f = subst (Follows rows middle fires) h f

  shown : (first : CalReply) (fires : List Fire) (es : List Entry) (calls : List (ℕ × EventKind)) → first_count first ≡ length calls →
      (first_ran_out first ≡ false → memory_stops es ≡ 0) → Advanced (first_text n first) fires es calls →
      (first_ran_out first || any_ran_out fires) ≡ false →
      CalShows faults old new n moment event (first_text n first ++ fires_text n fires) (length fires + first_count first)
  shown first fires es calls count at_first a h = record {
    step = a.step;
    settled = a.settled (at_first (or_left (first_ran_out first) (any_ran_out fires) h)) (or_right (first_ran_out first) (any_ran_out fires) h);
    count = omega (arith, a.count, count);
  }

  shown_asked : (answer : Answer) (fires : List Fire) (whole : Bool) (inner : EventKind) (middle : Desk K) → event ≡ Inner inner →
      IsCall told faults old.asker middle (max old.now moment) inner answer → has_memory answer ≡ true → Follows old.rows middle fires whole →
      whole ≡ true → (ran_out answer || any_ran_out fires) ≡ false →
      CalShows faults old new n moment event (answer_text n answer ++ fires_text n fires) (length fires + 1)
  shown_asked answer fires whole inner middle is x h f w g =
      let es : List Entry = call_entries (max old.now moment) inner answer in
      let calls : List (ℕ × EventKind) = (max old.now moment, inner) ∷ [] in
      shown (Asked answer) fires es calls refl (stops_of_call (max old.now moment) inner answer)
      (advanced (first_text n (Asked answer)) old.rows middle fires es calls (asked_begins inner answer middle is x h)
      (whole_is old.rows middle fires whole w f)) g

  -- a call all of whose turns were run, and whose answers let the run go on, is shown
  pub event_shown : (first : CalReply) (fires : List Fire) (whole : Bool) → IsInOrder told faults old.asker →
      AnswersEvent (IsExchange told faults) old new (max old.now moment) event first fires whole → whole ≡ true →
      (first_ran_out first || any_ran_out fires) ≡ false →
      CalShows faults old new n moment event (first_text n first ++ fires_text n fires) (length fires + first_count first)
  event_shown Memory fires whole order a w g = let both : true ≡ false = sym w ∙ a.stopped in absurd (cc)
  event_shown (Refused refusal) fires whole order a w g =
      shown (Refused refusal) fires [] [] refl (λ h. refl)
      (advanced (first_text n (Refused refusal)) old.rows old.asker fires [] [] (refused_begins refusal order a.0)
      (whole_is old.rows old.asker fires whole w a.1)) g
  event_shown (Status status) fires whole order a w g =
      shown (Status status) fires [] [] refl (λ h. refl)
      (advanced (first_text n (Status status)) (after_own (max old.now moment) old.rows event) old.asker fires [] []
      (accepted_begins status order a.0 a.1 a.2) (whole_is (after_own (max old.now moment) old.rows event) old.asker fires whole w a.3)) g
  event_shown (Asked answers.Memory) fires whole order a w g = let both : true ≡ false = sym w ∙ a.follows.stopped in absurd (cc)
  event_shown (Asked answers.KeeperFault) fires whole order a w g =
      shown_asked answers.KeeperFault fires whole a.inner a.asker a.is_inner a.made refl a.follows w g
  event_shown (Asked answers.JournalFull) fires whole order a w g =
      shown_asked answers.JournalFull fires whole a.inner a.asker a.is_inner a.made refl a.follows w g
  event_shown (Asked (answers.Done reply dues stop)) fires whole order a w g =
      shown_asked (answers.Done reply dues stop) fires whole a.inner a.asker a.is_inner a.made refl a.follows w g

  halts_by : (first : List ℕ) (rows : List Schedule) (middle : Desk K) (fires : List Fire) (es : List Entry) (calls : List (ℕ × EventKind)) (whole : Bool) →
      Begins first rows middle es calls → Follows rows middle fires whole → HaltsCalCall faults old new n moment event
  halts_by first rows middle fires es calls true b f = λ taken.
      halts_at taken taken (advanced first rows middle fires es calls b f).step (nothing_of taken (first ++ fires_text n fires))
  halts_by first rows middle fires es calls false b f = cut_short first rows middle fires es calls b f

  asked_halts : (answer : Answer) (fires : List Fire) (whole : Bool) (inner : EventKind) (middle : Desk K) → event ≡ Inner inner →
      IsCall told faults old.asker middle (max old.now moment) inner answer → has_memory answer ≡ true → Follows old.rows middle fires whole →
      HaltsCalCall faults old new n moment event
  asked_halts answer fires whole inner middle is x h f =
      halts_by (first_text n (Asked answer)) old.rows middle fires (call_entries (max old.now moment) inner answer) ((max old.now moment, inner) ∷ []) whole
      (asked_begins inner answer middle is x h) f

  -- whatever a call was answered, a run that ends there and writes nothing of its text has halted at the call
  pub event_halts : (first : CalReply) (fires : List Fire) (whole : Bool) → IsInOrder told faults old.asker →
      AnswersEvent (IsExchange told faults) old new (max old.now moment) event first fires whole → HaltsCalCall faults old new n moment event
  event_halts Memory fires whole order a =
      idle (subst (λ (c : Calendar (Desk K)). Leaves told faults old.asker c.asker [] []) (sym a.same) (leaves_same told faults old.asker order))
  event_halts (Refused refusal) fires whole order a =
      halts_by (first_text n (Refused refusal)) old.rows old.asker fires [] [] whole (refused_begins refusal order a.0) a.1
  event_halts (Status status) fires whole order a =
      halts_by (first_text n (Status status)) (after_own (max old.now moment) old.rows event) old.asker fires [] [] whole
      (accepted_begins status order a.0 a.1 a.2) a.3
  event_halts (Asked answers.Memory) fires whole order a =
      idle (subst (λ d. Leaves told faults old.asker d [] []) (sym a.follows.asker_is)
      (leaves_memory told faults old.asker a.asker (max old.now moment) a.inner a.made))
  event_halts (Asked answers.KeeperFault) fires whole order a =
      asked_halts answers.KeeperFault fires whole a.inner a.asker a.is_inner a.made refl a.follows
  event_halts (Asked answers.JournalFull) fires whole order a =
      asked_halts answers.JournalFull fires whole a.inner a.asker a.is_inner a.made refl a.follows
  event_halts (Asked (answers.Done reply dues stop)) fires whole order a =
      asked_halts (answers.Done reply dues stop) fires whole a.inner a.asker a.is_inner a.made refl a.follows

-- exchanges keep a desk in order
module _ {K : Type 0} (told : K → Option State) (faults : K → ℕ) where
  pub keeps_itself : (d : Desk K) → IsInOrder told faults d → KeepsDesk told faults d d
  keeps_itself d order = record { same = record { opened = refl; seats = refl; limit = refl }; in_order = order; later = omega arith }

  pub keeps_more : (a b c : Desk K) → KeepsDesk told faults a b → KeepsDesk told faults b c → KeepsDesk told faults a c
  keeps_more a b c f g = record { same = same_on f.same g.same; in_order = g.in_order; later = omega (arith, f.later, g.later) }

  keeps_call : (old new : Desk K) (at : ℕ) (event : EventKind) (answer : Answer) → IsCall told faults old new at event answer → KeepsDesk told faults old new
  keeps_call old new at event answer x = record { same = x.same; in_order = x.in_order; later = x.later }

  keeps_exchanges : (old new : Desk K) (xs : List Exchange) → IsInOrder told faults old → Leads (IsExchange told faults) old xs new →
      KeepsDesk told faults old new
  keeps_exchanges old new [] order l = subst (λ d. KeepsDesk told faults old d) (sym l) (keeps_itself old order)
  keeps_exchanges old new (Called at event answer ∷ xs) order l =
      let first = keeps_call old l.0 at event answer l.1 in
      keeps_more old l.0 new first (keeps_exchanges l.0 new xs first.in_order l.2)
  keeps_exchanges old new (Looked read reply ∷ xs) order l =
      keeps_exchanges old new xs order (subst (λ d. Leads (IsExchange told faults) d xs new) l.1.same l.2)

  keeps_turns : (now : ℕ) (rows : List Schedule) (old : Desk K) (new : Calendar (Desk K)) (fires : List Fire) (whole : Bool) → IsInOrder told faults old →
      TurnsFollow (IsExchange told faults) now rows old new fires whole → KeepsDesk told faults old new.asker
  keeps_turns now rows old new fires whole order f = keeps_exchanges old new.asker f.exchanges order f.leads

  keeps_asked : (answer : Answer) (now : ℕ) (old new : Calendar (Desk K)) (middle : Desk K) (fires : List Fire) (whole : Bool) → IsInOrder told faults middle →
      FollowsAnswer (IsExchange told faults) now old middle answer new fires whole → KeepsDesk told faults middle new.asker
  keeps_asked answers.Memory now old new middle fires whole order f =
      subst (λ d. KeepsDesk told faults middle d) (sym f.asker_is) (keeps_itself middle order)
  keeps_asked answers.KeeperFault now old new middle fires whole order f = keeps_turns now old.rows middle new fires whole order f
  keeps_asked answers.JournalFull now old new middle fires whole order f = keeps_turns now old.rows middle new fires whole order f
  keeps_asked (answers.Done reply dues stop) now old new middle fires whole order f = keeps_turns now old.rows middle new fires whole order f

  pub event_keeps : (now : ℕ) (old new : Calendar (Desk K)) (event : CalEvent) (first : CalReply) (fires : List Fire) (whole : Bool) →
      IsInOrder told faults old.asker → AnswersEvent (IsExchange told faults) old new now event first fires whole → KeepsDesk told faults old.asker new.asker
  event_keeps now old new event Memory fires whole order a =
      subst (λ (c : Calendar (Desk K)). KeepsDesk told faults old.asker c.asker) (sym a.same) (keeps_itself old.asker order)
  event_keeps now old new event (Refused refusal) fires whole order a = keeps_turns now old.rows old.asker new fires whole order a.1
  event_keeps now old new event (Status status) fires whole order a =
      keeps_turns now (after_own now old.rows event) old.asker new fires whole order a.3
  event_keeps now old new event (Asked answer) fires whole order a =
      let first = keeps_call old.asker a.asker now a.inner answer a.made in
      keeps_more old.asker a.asker new.asker first (keeps_asked answer now old new a.asker fires whole first.in_order a.follows)

-- an answer after which the run goes on
pub cal_shown_by : {K : Type 0} (told : K → Option State) (faults : K → ℕ) (old new : Calendar (Desk K)) (n moment : ℕ) (event : CalEvent) (answer : CalAnswer)
    (text : List ℕ) (calls : ℕ) → IsInOrder told faults old.asker → AnswersCal (IsExchange told faults) old new moment event answer →
    ShowsAnswer n answer text calls → CalShows faults old new n moment event text calls
cal_shown_by told faults old new n moment event answer text calls order a s =
    subst (λ w. CalShows faults old new n moment event w calls) (sym s.shows)
    (subst (λ k. CalShows faults old new n moment event (cal_text n answer) k) (sym s.counts)
    (event_shown told faults old new n moment event answer.first answer.fires answer.whole order a s.whole s.going))
