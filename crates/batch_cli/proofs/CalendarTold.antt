-- Over a desk, the entries of exchanges tell the interaction that they were.
use Rattle.std.proofs.Common.{◌≡◌, ◌≤◌, ◌<◌, ◌-◌, ◌+◌, ℕ, zero, suc, true, List, [], ◌∷◌, ◌++◌, Option, Result, Ok, Err, length, map, take, inl, inr}
use Rattle.std.proofs.Common.{refl, sym, ap, ◌∙◌, subst, arith, append_assoc, ◌⊎◌}
use Rattle.std.specs.List.{flat_map}
use Rattle.std.proofs.lemmas.Grind.{flat_map-append}
use Rattle.std.proofs.lemmas.List.{append-nil, length-append, map-append, length_push}
use Rattle.bt_base.specs.declared.memory.NoMemory.{NoMemory}
use Rattle.bt_rows.specs.declared.event.EventKind.{EventKind}
use Rattle.bt_rows.specs.declared.reply.Reply.{Reply}
use Rattle.batch_model.specs.Variants.{State}
use Rattle.table_reads.specs.declared.request.Read.{Read}
use Rattle.table_reads.specs.Reads.{read_reply}
use Rattle.batch_desk.specs.Exchanges.{Exchange, Called, Looked, Leads}
use Rattle.batch_desk.specs.Desks.{IsExchange, IsCall, call_entries, entries_of}
use Rattle.batch_desk.specs.declared.answer.Answer.{Answer}
use Rattle.batch_desk.specs.declared.answer.Answer.TheVariants.{Done, KeeperFault, JournalFull, Memory}
use Rattle.batch_desk.specs.declared.entry.Entry.{Entry}
use Rattle.batch_desk.specs.declared.entry.Stop.TheVariants.{Rest, KeeperFault as FaultStop, Memory as MemoryStop}
use Rattle.batch_desk.specs.Kept.{Desk}
use Rattle.batch_desk.specs.History.{asked_of, after_call, fault_count, faults_of}
use Rattle.batch_desk.specs.Answers.{AnswersCall, HasSameOpening, IsInOrder, entry_answer}
use Rattle.batch_cli.specs.Advance.{room_of, RoseBy}
use Rattle.batch_cli.specs.CalendarShown.{Telling, Remaining, turns_told}
use Rattle.batch_cli.proofs.CalendarFires.{calls_in}
use Rattle.batch_cli.proofs.GoingOn.{faults_append, same_on, take_append}
use Rattle.schedule_rows.specs.Fires.{has_memory, AllAnswered, StopsWithoutMemory}
use Rattle.schedule_rows.specs.Interactions.{Interaction, Ends, Passes, Asks, Looks, Reaches}
use Rattle.schedule_rows.specs.Rows.{Schedule}

-- a call was entered
pub record IsEntered {K : Type 0} (old new : Desk K) (entries : List Entry) (answer : Answer) : Type 0 where
  pub entry : Entry
  pub one : entries ≡ entry ∷ []
  pub room : room_of old ≡ suc (room_of new)
  pub answered : answer ≡ entry_answer old.seats old.state entry
  pub state : new.state ≡ after_call old.seats old.state entry

-- a call found the journal full
pub record FindsFull {K : Type 0} (old new : Desk K) (entries : List Entry) (answer : Answer) : Type 0 where
  pub none : entries ≡ []
  pub room : room_of old ≡ zero
  pub answered : answer ≡ JournalFull
  pub same : new ≡ old

room_push : {K : Type 0} (old new : Desk K) (e : Entry) → HasSameOpening old new → length old.entries < old.limit → new.entries ≡ old.entries ++ e ∷ [] →
    room_of old ≡ suc (room_of new)
room_push old new e same room pushed = omega (arith, same.limit, ap length pushed, length_push old.entries e)

pub call_step : {K : Type 0} (faults : K → ℕ) (old new : Desk K) (moment : ℕ) (event : EventKind) (answer : Answer) →
    AnswersCall faults old new moment event answer → HasSameOpening old new → has_memory answer ≡ true →
    IsEntered old new (call_entries moment event answer) answer ⊎ FindsFull old new (call_entries moment event answer) answer
call_step faults old new moment event (Done reply dues stop) a same h =
    inl (record { entry = _; one = refl; room = room_push old new _ same a.0.room a.0.entries; answered = a.0.shown; state = a.0.made })
call_step faults old new moment event KeeperFault a same h =
    inl (record { entry = _; one = refl; room = room_push old new _ same a.0.room a.0.entries; answered = a.0.shown; state = a.0.made })
call_step faults old new moment event JournalFull a same h = inr (record { none = refl; room = omega arith; answered = refl; same = a.1 })
call_step faults old new moment event Memory a same h = absurd (cc)

-- what exchanges leave of a desk: their entries, of which the calls are the first that the journal takes
pub record Leaves {K : Type 0} (told : K → Option State) (faults : K → ℕ) (old new : Desk K) (es : List Entry) (calls : List (ℕ × EventKind)) : Type 0 where
  pub entries : new.entries ≡ old.entries ++ es
  pub entered : map asked_of es ≡ take (room_of old) calls
  pub room : room_of new ≡ room_of old - length calls
  pub rose : RoseBy (fault_count es) (faults old.keeper) (faults new.keeper)
  pub same : HasSameOpening old new
  pub in_order : IsInOrder told faults new
  pub later : faults old.keeper ≤ faults new.keeper

same_opening : {K : Type 0} (d : Desk K) → HasSameOpening d d
same_opening d = record { opened = refl; seats = refl; limit = refl }

take_none : {A : Type 0} (n : ℕ) → take {A = A} n [] ≡ []
take_none zero = refl
take_none (suc n) = refl

module _ {K : Type 0} (told : K → Option State) (faults : K → ℕ) where
  pub leaves_same : (d : Desk K) → IsInOrder told faults d → Leaves told faults d d [] []
  leaves_same d order = record {
    entries = sym (append-nil d.entries);
    entered = sym (take_none (room_of d));
    room = omega arith;
    rose = omega arith;
    same = same_opening d;
    in_order = order;
    later = omega arith;
  }

  pub leaves_more : (a b c : Desk K) (es fs : List Entry) (xs ys : List (ℕ × EventKind)) → Leaves told faults a b es xs → Leaves told faults b c fs ys →
      Leaves told faults a c (es ++ fs) (xs ++ ys)
  leaves_more a b c es fs xs ys f g = record {
    entries = g.entries ∙ ap (λ w. w ++ fs) f.entries ∙ append_assoc a.entries es fs;
    entered = map-append asked_of es fs ∙ ap (λ w. w ++ map asked_of fs) f.entered ∙ ap (λ w. take (room_of a) xs ++ w) g.entered
        ∙ ap (λ r. take (room_of a) xs ++ take r ys) f.room ∙ sym (take_append (room_of a) xs ys);
    room = omega (arith, g.room, f.room, length-append xs ys);
    rose = omega (arith, f.rose, g.rose, faults_append es fs);
    same = same_on f.same g.same;
    in_order = g.in_order;
    later = omega (arith, f.later, g.later);
  }

  one_taken : (old new : Desk K) (call : ℕ × EventKind) → room_of old ≡ suc (room_of new) → (call ∷ []) ≡ take (room_of old) (call ∷ [])
  one_taken old new call room = ap (λ w. call ∷ w) (sym (take_none (room_of new))) ∙ ap (λ r. take r (call ∷ [])) (sym room)

  -- a call that has an entry
  leaves_entry : (old new : Desk K) (moment : ℕ) (event : EventKind) (e : Entry) → HasSameOpening old new → length old.entries < old.limit →
      new.entries ≡ old.entries ++ e ∷ [] → asked_of e ≡ (moment, event) → RoseBy (faults_of e) (faults old.keeper) (faults new.keeper) →
      IsInOrder told faults new → faults old.keeper ≤ faults new.keeper → Leaves told faults old new (e ∷ []) ((moment, event) ∷ [])
  leaves_entry old new moment event e same some pushed asked rose order later =
      let room : room_of old ≡ suc (room_of new) = room_push old new e same some pushed in
      record {
        entries = pushed;
        entered = ap (λ w. w ∷ []) asked ∙ one_taken old new (moment, event) room;
        room = omega (arith, room);
        rose = omega (arith, rose);
        same = same;
        in_order = order;
        later = later;
      }

  -- a call that was answered
  pub leaves_call : (old new : Desk K) (moment : ℕ) (event : EventKind) (answer : Answer) → IsCall told faults old new moment event answer →
      has_memory answer ≡ true → Leaves told faults old new (call_entries moment event answer) ((moment, event) ∷ [])
  leaves_call old new moment event (Done reply dues Rest) x h =
      leaves_entry old new moment event _ x.same x.answers.0.room x.answers.0.entries refl (omega (arith, x.later)) x.in_order x.later
  leaves_call old new moment event (Done reply dues FaultStop) x h =
      leaves_entry old new moment event _ x.same x.answers.0.room x.answers.0.entries refl (x.answers.1 refl) x.in_order x.later
  leaves_call old new moment event (Done reply dues MemoryStop) x h =
      leaves_entry old new moment event _ x.same x.answers.0.room x.answers.0.entries refl (omega (arith, x.later)) x.in_order x.later
  leaves_call old new moment event KeeperFault x h =
      leaves_entry old new moment event _ x.same x.answers.0.room x.answers.0.entries refl x.answers.1 x.in_order x.later
  leaves_call old new moment event JournalFull x h =
      let room : room_of old ≡ zero = omega (arith, x.answers.0) in
      record {
        entries = ap (λ d. d.entries) x.answers.1 ∙ sym (append-nil old.entries);
        entered = ap (λ r. take r ((moment, event) ∷ [])) (sym room);
        room = ap room_of x.answers.1 ∙ omega (arith, room);
        rose = omega (arith, x.later);
        same = x.same;
        in_order = x.in_order;
        later = x.later;
      }
  leaves_call old new moment event Memory x h = absurd (cc)

  -- a call for which memory ran out
  pub leaves_memory : (old new : Desk K) (moment : ℕ) (event : EventKind) → IsCall told faults old new moment event Memory → Leaves told faults old new [] []
  leaves_memory old new moment event x = record {
    entries = x.answers.1.entries ∙ sym (append-nil old.entries);
    entered = sym (take_none (room_of old));
    room = omega (arith, x.same.limit, ap length x.answers.1.entries);
    rose = omega (arith, x.later);
    same = x.same;
    in_order = x.in_order;
    later = x.later;
  }

  -- exchanges that were all answered
  pub leaves_all : (old new : Desk K) (xs : List Exchange) → IsInOrder told faults old → AllAnswered xs → Leads (IsExchange told faults) old xs new →
      Leaves told faults old new (flat_map entries_of xs) (flat_map calls_in xs)
  leaves_all old new [] order a l = subst (λ d. Leaves told faults old d [] []) (sym l) (leaves_same old order)
  leaves_all old new (Called moment event answer ∷ xs) order a l =
      let first = leaves_call old l.0 moment event answer l.1 a.0 in
      leaves_more old l.0 new (call_entries moment event answer) (flat_map entries_of xs) ((moment, event) ∷ []) (flat_map calls_in xs) first
      (leaves_all l.0 new xs first.in_order a.1 l.2)
  leaves_all old new (Looked read reply ∷ xs) order a l =
      leaves_all old new xs order a.1 (subst (λ d. Leads (IsExchange told faults) d xs new) l.1.same l.2)

-- what an exchange of the turns tells
abbrev pub told_of : {B : Type 0} → Telling B → Exchange → List B
told_of t (Called moment event answer) = t.fire moment event answer
told_of t (Looked read reply) = []

abbrev pub all_told : {B : Type 0} → Telling B → List Exchange → List B
all_told t xs = flat_map (told_of t) xs

module _ {K B : Type 0} (told : K → Option State) (faults : K → ℕ) (seats : ℕ) (t : Telling B) (rest : Remaining B) (now : ℕ) where
  -- the entries of exchanges, and those that come after them
  abbrev all_of : List Exchange → List Entry → List Entry
  all_of xs more = flat_map entries_of xs ++ more

  abbrev tells : Interaction → ℕ → List Entry → State → List B
  tells interaction room es s = turns_told seats t rest now interaction room es s

  -- the exchanges tell what leads to the point, and what comes after it tells the rest
  abbrev pub Tells : Interaction → Interaction → List Exchange → Desk K → Desk K → List Entry → Type 0
  Tells interaction point xs old new more =
      tells interaction (room_of old) (all_of xs more) old.state ≡ all_told t xs ++ tells point (room_of new) more new.state

  here : (interaction point : Interaction) (old new : Desk K) (more : List Entry) → point ≡ interaction → new ≡ old → Tells interaction point [] old new more
  here interaction point old new more e f =
      ap (λ c. tells c (room_of old) more old.state) (sym e) ∙ ap (λ (d : Desk K). tells point (room_of d) more d.state) (sym f)

  -- what one exchange tells, and then the rest
  join : (told_first told_rest after whole : List B) → whole ≡ told_first ++ (told_rest ++ after) → whole ≡ (told_first ++ told_rest) ++ after
  join told_first told_rest after whole e = e ∙ sym (append_assoc told_first told_rest after)

  entered : (rows : List Schedule) (moment : ℕ) (event : EventKind) (next : Answer → Interaction) (point : Interaction) (answer : Answer)
      (xs : List Exchange) (old middle new : Desk K) (more : List Entry) → old.seats ≡ seats
      → IsEntered old middle (call_entries moment event answer) answer → Tells (next answer) point xs middle new more
      → Tells (Asks rows moment event next) point (Called moment event answer ∷ xs) old new more
  entered rows moment event next point answer xs old middle new more at one ih =
      let es = all_of xs more in
      let asks = Asks rows moment event next in
      let list : all_of (Called moment event answer ∷ xs) more ≡ one.entry ∷ es = ap (λ w. (w ++ flat_map entries_of xs) ++ more) one.one in
      let same : answer ≡ entry_answer seats old.state one.entry = one.answered ∙ ap (λ n. entry_answer n old.state one.entry) at in
      let state : middle.state ≡ after_call seats old.state one.entry = one.state ∙ ap (λ n. after_call n old.state one.entry) at in
      let after : List B = tells point (room_of new) more new.state in
      join (t.fire moment event answer) (all_told t xs) after (tells asks (room_of old) (all_of (Called moment event answer ∷ xs) more) old.state)
      (ap (λ r. tells asks r (all_of (Called moment event answer ∷ xs) more) old.state) one.room
      ∙ ap (λ w. tells asks (suc (room_of middle)) w old.state) list
      ∙ ap (λ a. t.fire moment event a ++ tells (next a) (room_of middle) es (after_call seats old.state one.entry)) (sym same)
      ∙ ap (λ s. t.fire moment event answer ++ tells (next answer) (room_of middle) es s) (sym state)
      ∙ ap (λ w. t.fire moment event answer ++ w) ih)

  full : (rows : List Schedule) (moment : ℕ) (event : EventKind) (next : Answer → Interaction) (point : Interaction) (answer : Answer)
      (xs : List Exchange) (old middle new : Desk K) (more : List Entry)
      → FindsFull old middle (call_entries moment event answer) answer → Tells (next answer) point xs middle new more
      → Tells (Asks rows moment event next) point (Called moment event answer ∷ xs) old new more
  full rows moment event next point answer xs old middle new more none ih =
      let es = all_of xs more in
      let asks = Asks rows moment event next in
      let list : all_of (Called moment event answer ∷ xs) more ≡ es = ap (λ w. (w ++ flat_map entries_of xs) ++ more) none.none in
      let after : List B = tells point (room_of new) more new.state in
      join (t.fire moment event answer) (all_told t xs) after (tells asks (room_of old) (all_of (Called moment event answer ∷ xs) more) old.state)
      (ap (λ r. tells asks r (all_of (Called moment event answer ∷ xs) more) old.state) none.room
      ∙ ap (λ w. tells asks zero w old.state) list
      ∙ ap (λ a. t.fire moment event a ++ tells (next a) zero es old.state) (sym none.answered)
      ∙ ap (λ r. t.fire moment event answer ++ tells (next answer) r es old.state) (sym none.room)
      ∙ ap (λ (d : Desk K). t.fire moment event answer ++ tells (next answer) (room_of d) es d.state) (sym none.same)
      ∙ ap (λ w. t.fire moment event answer ++ w) ih)

  called : (rows : List Schedule) (moment : ℕ) (event : EventKind) (next : Answer → Interaction) (point : Interaction) (answer : Answer)
      (xs : List Exchange) (old middle new : Desk K) (more : List Entry) → old.seats ≡ seats → IsCall told faults old middle moment event answer →
      has_memory answer ≡ true → Tells (next answer) point xs middle new more
      → Tells (Asks rows moment event next) point (Called moment event answer ∷ xs) old new more
  called rows moment event next point answer xs old middle new more at x h ih =
      elim (call_step faults old middle moment event answer x.answers x.same h) [
        | inl one ↦ entered rows moment event next point answer xs old middle new more at one ih
        | inr none ↦ full rows moment event next point answer xs old middle new more none ih
      ]

  looked : (rows : List Schedule) (read : Read) (next : Result Reply NoMemory → Interaction) (point : Interaction) (reply : Result Reply NoMemory)
      (xs : List Exchange) (old new : Desk K) (more : List Entry) → reply ≡ Ok (read_reply old.state read) → Tells (next reply) point xs old new more →
      Tells (Looks rows read next) point (Looked read reply ∷ xs) old new more
  looked rows read next point reply xs old new more shown ih =
      ap (λ r. tells (next r) (room_of old) (all_of xs more) old.state) (sym shown) ∙ ih

  pub told_by_exchanges : (interaction point : Interaction) (xs : List Exchange) (old new : Desk K) (more : List Entry) → old.seats ≡ seats →
      AllAnswered xs → Leads (IsExchange told faults) old xs new → Reaches interaction xs point → Tells interaction point xs old new more
  told_by_exchanges (Ends rows) point [] old new more at a l h = here (Ends rows) point old new more h l
  told_by_exchanges (Ends rows) point (x ∷ xs) old new more at a l h = absurd h
  told_by_exchanges (Passes rows next) point [] old new more at a l (inl e) = here (Passes rows next) point old new more e l
  told_by_exchanges (Passes rows next) point [] old new more at a l (inr h) = told_by_exchanges next point [] old new more at a l h
  told_by_exchanges (Passes rows next) point (x ∷ xs) old new more at a l h = told_by_exchanges next point (x ∷ xs) old new more at a l h
  told_by_exchanges (Asks rows moment event next) point [] old new more at a l h = here (Asks rows moment event next) point old new more h l
  told_by_exchanges (Asks rows moment event next) point (Called at_moment asked answer ∷ xs) old new more at a l h =
      let ih = told_by_exchanges (next answer) point xs l.0 new more (l.1.same.seats ∙ at) a.1 l.2 h.2 in
      let P : ℕ → EventKind → Type 0 = λ m e. Tells (Asks rows m e next) point (Called at_moment asked answer ∷ xs) old new more in
      subst (λ m. P m event) h.0 (subst (λ e. P at_moment e) h.1
      (called rows at_moment asked next point answer xs old l.0 new more at l.1 a.0 ih))
  told_by_exchanges (Asks rows moment event next) point (Looked read reply ∷ xs) old new more at a l h = absurd h
  told_by_exchanges (Looks rows read next) point [] old new more at a l h = here (Looks rows read next) point old new more h l
  told_by_exchanges (Looks rows read next) point (Called at_moment asked answer ∷ xs) old new more at a l h = absurd h
  told_by_exchanges (Looks rows read next) point (Looked asked (Ok reply) ∷ xs) old new more at a l h =
      let ih = told_by_exchanges (next (Ok reply)) point xs old new more at a.1 (subst (λ d. Leads (IsExchange told faults) d xs new) l.1.same l.2) h.1 in
      subst (λ r. Tells (Looks rows r next) point (Looked asked (Ok reply) ∷ xs) old new more) h.0
      (looked rows asked next point (Ok reply) xs old new more (ap Ok l.1.shown) ih)
  told_by_exchanges (Looks rows read next) point (Looked asked (Err e) ∷ xs) old new more at a l h = absurd (cc)

-- the exchanges up to the last that was answered, and the point that they lead to
pub record AnsweredPart {K : Type 0} (told : K → Option State) (faults : K → ℕ) (interaction : Interaction) (old new : Desk K) : Type 0 where
  pub point : Interaction
  pub exchanges : List Exchange
  pub middle : Desk K
  pub answered : AllAnswered exchanges
  pub leads : Leads (IsExchange told faults) old exchanges middle
  pub reached : Reaches interaction exchanges point
  -- the exchange after them, if there is one, was answered that memory ran out
  pub last : Leaves told faults middle new [] []

-- an interaction is at its start
reaches_itself : (interaction : Interaction) → Reaches interaction [] interaction
reaches_itself (Ends rows) = refl
reaches_itself (Passes rows next) = inl refl
reaches_itself (Asks rows moment event next) = refl
reaches_itself (Looks rows read next) = refl

-- a point at which nothing is asked is passed
passed : (rows : List Schedule) (next point : Interaction) (xs : List Exchange) → Reaches next xs point → Reaches (Passes rows next) xs point
passed rows next point [] h = inr h
passed rows next point (x ∷ xs) h = h

module _ {K : Type 0} (told : K → Option State) (faults : K → ℕ) where
  no_part : (interaction : Interaction) (old new : Desk K) → Leaves told faults old new [] [] → AnsweredPart told faults interaction old new
  no_part interaction old new last = record {
    point = interaction;
    exchanges = [];
    middle = old;
    answered = tt;
    leads = refl;
    reached = reaches_itself interaction;
    last = last;
  }

  passed_part : (rows : List Schedule) (next : Interaction) (old new : Desk K) → AnsweredPart told faults next old new →
      AnsweredPart told faults (Passes rows next) old new
  passed_part rows next old new p = record {
    point = p.point;
    exchanges = p.exchanges;
    middle = p.middle;
    answered = p.answered;
    leads = p.leads;
    reached = passed rows next p.point p.exchanges p.reached;
    last = p.last;
  }

  called_part : (rows : List Schedule) (moment : ℕ) (event : EventKind) (next : Answer → Interaction) (answer : Answer) (old middle new : Desk K) →
      has_memory answer ≡ true → IsCall told faults old middle moment event answer → AnsweredPart told faults (next answer) middle new →
      AnsweredPart told faults (Asks rows moment event next) old new
  called_part rows moment event next answer old middle new h x p = record {
    point = p.point;
    exchanges = Called moment event answer ∷ p.exchanges;
    middle = p.middle;
    answered = (h, p.answered);
    leads = (middle, x, p.leads);
    reached = (refl, refl, p.reached);
    last = p.last;
  }

  looked_part : (rows : List Schedule) (read : Read) (next : Result Reply NoMemory → Interaction) (reply : Reply) (old middle new : Desk K) →
      IsExchange told faults old (Looked read (Ok reply)) middle → AnsweredPart told faults (next (Ok reply)) middle new →
      AnsweredPart told faults (Looks rows read next) old new
  looked_part rows read next reply old middle new x p = record {
    point = p.point;
    exchanges = Looked read (Ok reply) ∷ p.exchanges;
    middle = p.middle;
    answered = (refl, p.answered);
    leads = (middle, x, p.leads);
    reached = (refl, p.reached);
    last = p.last;
  }

  rest_stops : (x : Exchange) (xs : List Exchange) → StopsWithoutMemory (x ∷ xs) → StopsWithoutMemory xs
  rest_stops x [] s = tt
  rest_stops x (y ∷ ys) s = s.1

  -- what the last exchange of such a list leaves, if it was not answered
  unanswered_call : (old middle new : Desk K) (moment : ℕ) (event : EventKind) (xs : List Exchange) → StopsWithoutMemory (Called moment event Memory ∷ xs) →
      IsCall told faults old middle moment event Memory → Leads (IsExchange told faults) middle xs new → Leaves told faults old new [] []
  unanswered_call old middle new moment event [] s x l = subst (λ d. Leaves told faults old d [] []) (sym l) (leaves_memory told faults old middle moment event x)
  unanswered_call old middle new moment event (y ∷ ys) s x l = absurd (cc)

  unanswered_look : (old middle new : Desk K) (read : Read) (e : NoMemory) (xs : List Exchange) → IsInOrder told faults old →
      StopsWithoutMemory (Looked read (Err e) ∷ xs) → middle ≡ old → Leads (IsExchange told faults) middle xs new → Leaves told faults old new [] []
  unanswered_look old middle new read e [] order s same l = subst (λ d. Leaves told faults old d [] []) (sym (l ∙ same)) (leaves_same told faults old order)
  unanswered_look old middle new read e (y ∷ ys) order s same l = absurd (cc)

  pub answered_part : (interaction point : Interaction) (xs : List Exchange) (old new : Desk K) → IsInOrder told faults old → StopsWithoutMemory xs →
      Leads (IsExchange told faults) old xs new → Reaches interaction xs point → AnsweredPart told faults interaction old new
  answered_part interaction point [] old new order s l h =
      no_part interaction old new (subst (λ d. Leaves told faults old d [] []) (sym l) (leaves_same told faults old order))
  answered_part (Ends rows) point (x ∷ xs) old new order s l h = absurd h
  answered_part (Passes rows next) point (x ∷ xs) old new order s l h =
      passed_part rows next old new (answered_part next point (x ∷ xs) old new order s l h)
  answered_part (Asks rows moment event next) point (Called at asked answer ∷ xs) old new order s l h =
      subst (λ m. AnsweredPart told faults (Asks rows m event next) old new) h.0
      (subst (λ e. AnsweredPart told faults (Asks rows at e next) old new) h.1
      (by_answer answer s l.1 (λ more. answered_part (next answer) point xs l.0 new l.1.in_order more l.2 h.2)))
    where
      by_answer : (a : Answer) → StopsWithoutMemory (Called at asked a ∷ xs) → IsCall told faults old l.0 at asked a →
          (StopsWithoutMemory xs → AnsweredPart told faults (next a) l.0 new) → AnsweredPart told faults (Asks rows at asked next) old new
      by_answer Memory s x more = no_part (Asks rows at asked next) old new (unanswered_call old l.0 new at asked xs s x l.2)
      by_answer (Done reply dues stop) s x more = called_part rows at asked next (Done reply dues stop) old l.0 new refl x (more (rest_stops (Called at asked (Done reply dues stop)) xs s))
      by_answer KeeperFault s x more = called_part rows at asked next KeeperFault old l.0 new refl x (more (rest_stops (Called at asked KeeperFault) xs s))
      by_answer JournalFull s x more = called_part rows at asked next JournalFull old l.0 new refl x (more (rest_stops (Called at asked JournalFull) xs s))
  answered_part (Asks rows moment event next) point (Looked read reply ∷ xs) old new order s l h = absurd h
  answered_part (Looks rows read next) point (Called at asked answer ∷ xs) old new order s l h = absurd h
  answered_part (Looks rows read next) point (Looked asked (Ok reply) ∷ xs) old new order s l h =
      subst (λ r. AnsweredPart told faults (Looks rows r next) old new) h.0
      (looked_part rows asked next reply old l.0 new l.1
      (answered_part (next (Ok reply)) point xs l.0 new (subst (IsInOrder told faults) (sym l.1.same) order) (rest_stops (Looked asked (Ok reply)) xs s) l.2 h.1))
  answered_part (Looks rows read next) point (Looked asked (Err e) ∷ xs) old new order s l h =
      subst (λ r. AnsweredPart told faults (Looks rows r next) old new) h.0
      (no_part (Looks rows asked next) old new (unanswered_look old l.0 new asked e xs order s l.1.same l.2))
