-- Parts of turns that are run, and their lists of exchanges.
use Rattle.std.proofs.Common.{◌≡◌, ℕ, Bool, true, false, List, [], ◌∷◌, ◌++◌, Result, Ok, Err, refl, sym, subst, ap, ◌∙◌, append_assoc, append-nil}
use Rattle.std.proofs.Common.{if◌then◌else◌}
use Rattle.std.proofs.lemmas.Grind.{flat_map-append}
use Rattle.bt_base.specs.declared.memory.NoMemory.{NoMemory}
use Rattle.bt_rows.specs.declared.event.EventKind.{EventKind}
use Rattle.bt_rows.specs.declared.reply.Reply.{Reply}
use Rattle.table_reads.specs.declared.request.Read.{Read}
use Rattle.batch_desk.specs.declared.answer.Answer.{Answer}
use Rattle.batch_desk.specs.declared.answer.Answer.TheVariants as answers
use Rattle.batch_desk.specs.Exchanges.{Exchange, Called, Looked}
use Rattle.schedule_rows.specs.Interactions.{Interaction, Asks, Looks, Reaches, StandsAt}
use Rattle.schedule_rows.specs.Fires.{fire_of, exchange_fires, fires_of, has_memory, is_answered, StopsWithoutMemory}
use Rattle.schedule_rows.specs.Rows.{Schedule}
use Rattle.schedule_rows.specs.Turns.{outcome_of, Part}
use Rattle.schedule_rows.specs.declared.fire.Fire.{Fire}
use Rattle.schedule_rows.specs.declared.outcome.CallOutcome.{CallOutcome}
use Rattle.schedule_rows.specs.declared.outcome.CallOutcome.TheVariants.{Created, Made, Missed, OutOfMemory}
use Rattle.batch_schedule.specs.Runs.{MakesCall, RunsPart}
use Rattle.batch_schedule.proofs.Reaching.{reaches_itself, reaches_on, leads_on, all_on, stops_on}

module _ {A : Type 0} (exchanged : A → Exchange → A → Type 0) where
  -- the part asks for nothing
  pub goes_on : (a : A) (row : Schedule) (fires : List Fire) → RunsPart exchanged (λ put next. next row) a a row fires fires true
  goes_on a row fires = record {
    exchanges = [];
    leads = refl;
    fires = sym (append-nil fires);
    stops = tt;
    answered = λ _. tt;
    ended = λ _ put next. reaches_itself (next row);
    begun = λ e put next stands. cc;
  }

  -- the part stops before what follows it
  pub stops_after : (a : A) (row : Schedule) (fires : List Fire) → RunsPart exchanged (λ put next. next row) a a row fires fires false
  stops_after a row fires = record {
    exchanges = [];
    leads = refl;
    fires = sym (append-nil fires);
    stops = tt;
    answered = λ e. cc;
    ended = λ e put next. cc;
    begun = λ _ put next stands. record { point = next row; reached = reaches_itself (next row); stands = stands row };
  }

  -- the part stops before its call
  pub stops_before : (a : A) (row : Schedule) (fires : List Fire) (now : ℕ) (event : EventKind) (rest : Answer → Part)
      → RunsPart exchanged (λ put next. Asks (put row) now event (λ answer. rest answer put next)) a a row fires fires false
  stops_before a row fires now event rest = record {
    exchanges = [];
    leads = refl;
    fires = sym (append-nil fires);
    stops = tt;
    answered = λ e. cc;
    ended = λ e put next. cc;
    begun = λ _ put next stands. record { point = Asks (put row) now event (λ answer. rest answer put next); reached = refl; stands = refl };
  }

  -- memory did not run out at the call
  abbrev pub had_memory : CallOutcome → Bool
  had_memory Created = true
  had_memory Made = true
  had_memory Missed = true
  had_memory OutOfMemory = false

  answer_had_memory : (answer : Answer) → had_memory (outcome_of answer) ≡ true → has_memory answer ≡ true
  answer_had_memory (answers.Done reply dues stop) e = refl
  answer_had_memory answers.KeeperFault e = refl
  answer_had_memory answers.JournalFull e = refl
  answer_had_memory answers.Memory e = e

  stops_more : (x : Exchange) (xs : List Exchange) → is_answered x ≡ true → StopsWithoutMemory xs → StopsWithoutMemory (x ∷ xs)
  stops_more x [] e h = tt
  stops_more x (y ∷ ys) e h = (e, h)

  -- a part that makes a call, and continues by its outcome
  abbrev pub asks : Schedule → ℕ → EventKind → (CallOutcome → Part) → Part
  asks row now event rest put next = Asks (put row) now event (λ answer. rest (outcome_of answer) put next)

  -- the call was made, and the rest was run
  pub question : (old middle new : A) (row last : Schedule) (now : ℕ) (event : EventKind) (before mid after : List Fire) (h : CallOutcome) (whole : Bool)
      (rest : CallOutcome → Part)
      → had_memory h ≡ true → MakesCall exchanged old middle now event before mid h → RunsPart exchanged (rest h) middle new last mid after whole
      → RunsPart exchanged (asks row now event rest) old new last before after whole
  question old middle new row last now event before mid after h whole rest had asked goes =
      let there : has_memory asked.answer ≡ true = answer_had_memory asked.answer (subst (λ k. had_memory k ≡ true) asked.outcome_is had) in
      record {
        exchanges = Called now event asked.answer ∷ goes.exchanges;
        leads = (middle, asked.made, goes.leads);
        fires = goes.fires ∙ (ap (λ w. w ++ fires_of goes.exchanges) asked.fires ∙ append_assoc before (fire_of event asked.answer) (fires_of goes.exchanges));
        stops = stops_more (Called now event asked.answer) goes.exchanges there goes.stops;
        answered = λ e. (there, goes.answered e);
        ended = λ e put next. (refl, refl, subst (λ k. Reaches (rest k put next) goes.exchanges (next last)) asked.outcome_is (goes.ended e put next));
        begun = λ e put next stands.
            let b = goes.begun e put next stands in
            record {
              point = b.point;
              reached = (refl, refl, subst (λ k. Reaches (rest k put next) goes.exchanges b.point) asked.outcome_is b.reached);
              stands = b.stands;
            };
      }

  -- the call was answered that memory ran out, and the part stops
  pub question_stops : (old new : A) (row last : Schedule) (now : ℕ) (event : EventKind) (before after : List Fire) (rest : CallOutcome → Part)
      → ((put : Schedule → List Schedule) (next : Schedule → Interaction) → rest OutOfMemory put next ≡ next last)
      → MakesCall exchanged old new now event before after OutOfMemory
      → RunsPart exchanged (asks row now event rest) old new last before after false
  question_stops old new row last now event before after rest goes_on asked = record {
    exchanges = Called now event asked.answer ∷ [];
    leads = (new, asked.made, refl);
    fires = asked.fires ∙ ap (λ w. before ++ w) (sym (append-nil (fire_of event asked.answer)));
    stops = tt;
    answered = λ e. cc;
    ended = λ e put next. cc;
    begun = λ e put next stands. record {
      point = next last;
      reached = (
        refl,
        refl,
        subst (λ k. Reaches (rest k put next) [] (next last)) asked.outcome_is
            (subst (λ c. Reaches c [] (next last)) (sym (goes_on put next)) (reaches_itself (next last))),
      );
      stands = stands last;
    };
  }

  -- the first of two parts
  pub chosen : (b : Bool) (p q : Part) (old new : A) (last : Schedule) (before after : List Fire) (whole : Bool)
      → b ≡ true → RunsPart exchanged p old new last before after whole
      → RunsPart exchanged (λ put next. if b then p put next else q put next) old new last before after whole
  chosen true p q old new last before after whole e goes = goes
  chosen false p q old new last before after whole e goes = cc

  -- the other one
  pub other : (b : Bool) (p q : Part) (old new : A) (last : Schedule) (before after : List Fire) (whole : Bool)
      → b ≡ false → RunsPart exchanged q old new last before after whole
      → RunsPart exchanged (λ put next. if b then p put next else q put next) old new last before after whole
  other true p q old new last before after whole e goes = cc
  other false p q old new last before after whole e goes = goes

  -- nothing was asked, because memory ran out
  pub unasked : (old new : A) (row : Schedule) (before after : List Fire) (now : ℕ) (event : EventKind) (rest : CallOutcome → Part)
      → new ≡ old → after ≡ before → RunsPart exchanged (asks row now event rest) old new row before after false
  unasked old new row before after now event rest same none =
      subst (λ a. RunsPart exchanged (asks row now event rest) old a row before after false) (sym same)
      (subst (λ f. RunsPart exchanged (asks row now event rest) old old row before f false) (sym none)
      (stops_before old row before now event (λ answer. rest (outcome_of answer))))

  -- the same, for rows that are equal
  pub of_row : (part : Part) (old new : A) (row last : Schedule) (before after : List Fire) (whole : Bool)
      → last ≡ row → RunsPart exchanged part old new row before after whole → RunsPart exchanged part old new last before after whole
  of_row part old new row last before after whole e goes = subst (λ r. RunsPart exchanged part old new r before after whole) (sym e) goes

  -- the read was answered, and the rest was run
  pub looks_on : (old middle new : A) (row last : Schedule) (read : Read) (shown : Reply) (before after : List Fire) (whole : Bool)
      (rest : Result Reply NoMemory → Part)
      → exchanged old (Looked read (Ok shown)) middle → RunsPart exchanged (rest (Ok shown)) middle new last before after whole
      → RunsPart exchanged (λ put next. Looks (put row) read (λ reply. rest reply put next)) old new last before after whole
  looks_on old middle new row last read shown before after whole rest made goes = record {
    exchanges = Looked read (Ok shown) ∷ goes.exchanges;
    leads = (middle, made, goes.leads);
    fires = goes.fires;
    stops = stops_more (Looked read (Ok shown)) goes.exchanges refl goes.stops;
    answered = λ e. (refl, goes.answered e);
    ended = λ e put next. (refl, goes.ended e put next);
    begun = λ e put next stands.
        let b = goes.begun e put next stands in
        record { point = b.point; reached = (refl, b.reached); stands = b.stands };
  }

  -- the read was answered that memory ran out
  pub looks_stops : (old new : A) (row : Schedule) (read : Read) (e : NoMemory) (fires : List Fire) (rest : Result Reply NoMemory → Part)
      → ((put : Schedule → List Schedule) (next : Schedule → Interaction) → rest (Err e) put next ≡ next row)
      → exchanged old (Looked read (Err e)) new
      → RunsPart exchanged (λ put next. Looks (put row) read (λ reply. rest reply put next)) old new row fires fires false
  looks_stops old new row read e fires rest goes_on made = record {
    exchanges = Looked read (Err e) ∷ [];
    leads = (new, made, refl);
    fires = sym (append-nil fires);
    stops = tt;
    answered = λ w. cc;
    ended = λ w put next. cc;
    begun = λ e put next stands. record {
      point = next row;
      reached = (refl, subst (λ c. Reaches c [] (next row)) (sym (goes_on put next)) (reaches_itself (next row)));
      stands = stands row;
    };
  }

  -- a part was gone through, and then the one that follows from the row that it left
  pub in_sequence : (old middle new : A) (row last : Schedule) (before mid after : List Fire) (whole : Bool) (part : Part) (rest : Schedule → Part)
      → RunsPart exchanged part old middle row before mid true → RunsPart exchanged (rest row) middle new last mid after whole
      → RunsPart exchanged (λ put next. part put (λ r. rest r put next)) old new last before after whole
  in_sequence old middle new row last before mid after whole part rest first goes = record {
    exchanges = first.exchanges ++ goes.exchanges;
    leads = leads_on exchanged old middle new first.exchanges goes.exchanges first.leads goes.leads;
    fires = goes.fires ∙ (ap (λ w. w ++ fires_of goes.exchanges) first.fires ∙ (append_assoc before (fires_of first.exchanges) (fires_of goes.exchanges)
        ∙ ap (λ w. before ++ w) (sym (flat_map-append exchange_fires first.exchanges goes.exchanges))));
    stops = stops_on first.exchanges goes.exchanges (first.answered refl) goes.stops;
    answered = λ e. all_on first.exchanges goes.exchanges (first.answered refl) (goes.answered e);
    ended = λ e put next.
        reaches_on (part put (λ r. rest r put next)) first.exchanges goes.exchanges (rest row put next) (next last)
        (first.ended refl put (λ r. rest r put next)) (goes.ended e put next);
    begun = λ e put next stands.
        let b = goes.begun e put next stands in
        record {
          point = b.point;
          reached = reaches_on (part put (λ r. rest r put next)) first.exchanges goes.exchanges (rest row put next) b.point
              (first.ended refl put (λ r. rest r put next)) b.reached;
          stands = b.stands;
        };
  }

  -- a part stopped, so that the one that follows was not begun
  pub stops_in_sequence : (old new : A) (row : Schedule) (before after : List Fire) (part : Part) (rest : Schedule → Part)
      → ((r : Schedule) (put : Schedule → List Schedule) (next : Schedule → Interaction) → ((s : Schedule) → StandsAt (next s) (put s))
      → StandsAt (rest r put next) (put r))
      → RunsPart exchanged part old new row before after false
      → RunsPart exchanged (λ put next. part put (λ r. rest r put next)) old new row before after false
  stops_in_sequence old new row before after part rest begins first = record {
    exchanges = first.exchanges;
    leads = first.leads;
    fires = first.fires;
    stops = first.stops;
    answered = λ e. cc;
    ended = λ e put next. cc;
    begun = λ e put next stands. first.begun refl put (λ r. rest r put next) (λ r. begins r put next stands);
  }

  -- no read was made, because memory ran out
  pub unlooked : (a : A) (row : Schedule) (read : Read) (fires : List Fire) (rest : Result Reply NoMemory → Part)
      → RunsPart exchanged (λ put next. Looks (put row) read (λ reply. rest reply put next)) a a row fires fires false
  unlooked a row read fires rest = record {
    exchanges = [];
    leads = refl;
    fires = sym (append-nil fires);
    stops = tt;
    answered = λ e. cc;
    ended = λ e put next. cc;
    begun = λ _ put next stands. record { point = Looks (put row) read (λ reply. rest reply put next); reached = refl; stands = refl };
  }
