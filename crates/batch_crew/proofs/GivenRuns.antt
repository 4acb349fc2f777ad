-- The runs of a lane in what its pass has seen, and in a journal that begins with that.
use Rattle.std.proofs.Common.{◌≡◌, ℕ, true, false, Bool, Option, List, [], ◌∷◌, ◌++◌, refl, sym, ap, subst, ◌∙◌, arith, append_assoc, append-nil}
use Rattle.std.specs.Prelude.{All, Result, Ok, Err, Some, None}
use Rattle.std.specs.Option.{option_map_or}
use Rattle.std.proofs.lemmas.List.Elements.{All-nil, All-cons, All-push, All-weaker}
use mathlib.Core.List.{IsPrefix}
use Rattle.bt_rows.specs.declared.event.EventKind.TheVariants.{Take, End}
use Rattle.bt_rows.specs.declared.refusal.Refusal.{Refusal}
use Rattle.bt_rows.specs.declared.run.Ending.{Ending}
use Rattle.bt_rows.specs.declared.reply.QueuedRun.{QueuedRun}
use Rattle.batch_desk.specs.declared.answer.Answer.{Answer}
use Rattle.batch_desk.specs.declared.answer.Answer.TheVariants.{Done, KeeperFault, JournalFull, Memory}
use Rattle.batch_desk.specs.declared.entry.Entry.{Entry}
use Rattle.batch_desk.specs.declared.entry.Mark.TheVariants.{Done as Made}
use Rattle.batch_desk.specs.History.{refusal_of}
use Rattle.child_runs.specs.declared.ran.ChildRun.{ChildRun}
use Rattle.child_runs.specs.declared.ran.Ran.{Ran}
use Rattle.child_runs.specs.Runs.{told_ending}
use Rattle.counted_lock.proofs.Prefixes.{prefix_self, prefix_trans}
use Rattle.shared_desk.specs.Openings.{Opening}
use Rattle.shared_desk.specs.Sharing.{Caller, calls_of, Asked}
use Rattle.batch_crew.specs.declared.cut.Cut.{Cut}
use Rattle.batch_crew.specs.declared.cut.LaneEnd.{LaneEnd}
use Rattle.batch_crew.specs.declared.cut.LaneEnd.TheVariants as end
use Rattle.batch_crew.specs.Journals.{IsTake, IsEnd, IsTaken, TakesAndEnds, StandInOrder, AreGiven, RunsStand}
use Rattle.batch_crew.specs.Journals.{none as no_run, more as one_more}
use Rattle.batch_crew.specs.Lanes.{child_of, TimedCaller, Takes, TellsOnce, AreFaults, Tells, Starts, IsRest, IsTurn, IsCut, AreTurns, IsLane}
use Rattle.batch_crew.specs.Lanes.{take_outcome, tell_outcome, none, more, idles, misses, rests, runs, unseen, untaken, unrun, untold}
use Rattle.batch_crew.proofs.Added.{calls_begin, Adds, adds_later, adds_entry}
use Rattle.batch_crew.proofs.Turns.{asked_begins}

-- a journal that goes on has what it had
goes_on : (entries rest : List Entry) (run : ChildRun) → TakesAndEnds entries run → TakesAndEnds (entries ++ rest) run
goes_on entries rest run t = record {
  before = t.before;
  taken = t.taken;
  between = t.between;
  ended = t.ended;
  after = t.after ++ rest;
  places = ap (λ es. es ++ rest) t.places ∙ append_assoc (t.before ++ t.taken ∷ t.between) (t.ended ∷ t.after) rest;
  takes = t.takes;
  ending = t.ending;
  told = t.told;
  ends = t.ends;
}

comes_later : (first entries : List Entry) (run : ChildRun) → TakesAndEnds entries run → TakesAndEnds (first ++ entries) run
comes_later first entries run t = record {
  before = first ++ t.before;
  taken = t.taken;
  between = t.between;
  ended = t.ended;
  after = t.after;
  places = ap (λ es. first ++ es) t.places ∙ (sym (append_assoc first (t.before ++ t.taken ∷ t.between) (t.ended ∷ t.after))
      ∙ ap (λ es. es ++ t.ended ∷ t.after) (sym (append_assoc first t.before (t.taken ∷ t.between))));
  takes = t.takes;
  ending = t.ending;
  told = t.told;
  ends = t.ends;
}

order_goes_on : {entries : List Entry} {given : List ChildRun} (all : List Entry) → IsPrefix entries all → StandInOrder entries given
    → StandInOrder all given
order_goes_on all begins (no_run entries) = no_run all
order_goes_on all begins (one_more before rest given run stand last) =
    subst (λ es. StandInOrder es (given ++ run ∷ [])) (sym (append_assoc before rest begins.0) ∙ begins.1)
    (one_more before (rest ++ begins.0) given run stand (goes_on rest begins.0 run last))

each_stands : {entries : List Entry} {given : List ChildRun} → StandInOrder entries given → All (TakesAndEnds entries) given
each_stands (no_run entries) = All-nil _
each_stands (one_more before rest given run stand last) = All-push (TakesAndEnds (before ++ rest)) given run
    (All-weaker (TakesAndEnds before) (TakesAndEnds (before ++ rest)) (λ r t. goes_on before rest r t) given (each_stands stand))
    (comes_later before rest run last)

-- two calls, each after calls of others
two_calls : {A : Type 0} (first a b : List A) (x y : A) → (first ++ a ++ x ∷ []) ++ b ++ y ∷ [] ≡ first ++ (a ++ x ∷ b ++ y ∷ [])
two_calls first a b x y = ap (λ es. es ++ y ∷ []) (append_assoc (first ++ a) (x ∷ []) b ∙ append_assoc first a (x ∷ b))
    ∙ append_assoc first (a ++ x ∷ b) (y ∷ [])

-- the pass made the call that took the run
record AddsTake (p q : Caller) (number : ℕ) : Type 0 where
  entry : Entry
  adds : Adds p q entry
  takes : IsTake number entry

-- the pass made the call that told the ending
record AddsEnd (p q : Caller) (number : ℕ) (ending : Ending) : Type 0 where
  entry : Entry
  adds : Adds p q entry
  ends : IsEnd number ending entry

not_refused : (refusal : Option Refusal) (taken : Result Bool Cut) → taken ≡ Ok true → taken ≡ Ok (option_map_or (λ _. false) refusal true)
    → refusal ≡ None
not_refused None taken made is = refl
not_refused (Some refusal) taken made is = absurd (cc (made, is))

module _ (o : Opening) where
  asked_take : (p q : Caller) (number moment : ℕ) (answer : Answer) → Asked o p q moment (Take number) answer → Ok true ≡ take_outcome answer
      → AddsTake p q number
  asked_take p q number moment (Done reply dues stop) a is = record {
    entry = _;
    adds = adds_entry o p q _ (Done reply dues stop) a;
    takes = record { event = refl; accepted = ap Made (not_refused (refusal_of reply) (Ok true) refl is) };
  }
  asked_take p q number moment KeeperFault a is = absurd (cc is)
  asked_take p q number moment JournalFull a is = absurd (cc is)
  asked_take p q number moment Memory a is = absurd (cc is)

  asked_end : (p q : Caller) (number moment : ℕ) (ending : Ending) (answer : Answer) → Asked o p q moment (End number ending) answer
      → Some (Ok tt) ≡ tell_outcome answer → AddsEnd p q number ending
  asked_end p q number moment ending (Done reply dues stop) a is = record {
    entry = _;
    adds = adds_entry o p q _ (Done reply dues stop) a;
    ends = record { event = refl; refusal = refusal_of reply; made = refl };
  }
  asked_end p q number moment ending KeeperFault a is = absurd (cc is)
  asked_end p q number moment ending JournalFull a is = absurd (cc is)
  asked_end p q number moment ending Memory a is = absurd (cc is)

  module _ {C : Type 0} (gives : C → ℕ → C → Type 0) where
    takes_begin : (p q : TimedCaller C) (number : ℕ) (taken : Result Bool Cut) → Takes o gives p q number taken → IsPrefix p.pass.seen q.pass.seen
    takes_begin p q number taken t = asked_begins o p.pass q.pass t.moment (Take number) t.answer t.asked

    tells_once_begin : (p q : TimedCaller C) (number : ℕ) (ending : Ending) (told : Option (Result (Unit {0}) Cut))
        → TellsOnce o gives p q number ending told → IsPrefix p.pass.seen q.pass.seen
    tells_once_begin p q number ending told t = asked_begins o p.pass q.pass t.moment (End number ending) t.answer t.asked

    faults_begin : (number : ℕ) (ending : Ending) {p q : TimedCaller C} → AreFaults o gives number ending p q → IsPrefix p.pass.seen q.pass.seen
    faults_begin number ending (none p) = prefix_self p.pass.seen
    faults_begin number ending (more p q r faults last) = prefix_trans p.pass.seen q.pass.seen r.pass.seen (faults_begin number ending faults)
        (tells_once_begin q r number ending None last)

    tells_begin : (p q : TimedCaller C) (number : ℕ) (ending : Ending) (told : Result (Unit {0}) Cut) → Tells o gives p q number ending told
        → IsPrefix p.pass.seen q.pass.seen
    tells_begin p q number ending told t = prefix_trans p.pass.seen t.again.pass.seen q.pass.seen (faults_begin number ending t.faults)
        (tells_once_begin t.again q number ending (Some told) t.last)

    tells_add : (p q : TimedCaller C) (number : ℕ) (ending : Ending) → Tells o gives p q number ending (Ok tt) → AddsEnd p.pass q.pass number ending
    tells_add p q number ending t =
        let made = asked_end t.again.pass q.pass number t.last.moment ending t.last.answer t.last.asked t.last.outcome in
        record {
          entry = made.entry;
          adds = adds_later p.pass t.again.pass q.pass made.entry (faults_begin number ending t.faults) made.adds;
          ends = made.ends;
        }

    module _ (seat : ℕ) where
      starts_add : (p q : TimedCaller C) (run : QueuedRun) → Starts o seat gives p q run → AddsTake p.pass q.pass run.number
      starts_add p q run s =
          let made = asked_take s.seen.pass q.pass run.number s.taken.moment s.taken.answer s.taken.asked s.taken.outcome in
          record {
            entry = made.entry;
            adds = adds_later p.pass s.seen.pass q.pass made.entry s.shown.looks.sees.more.begins made.adds;
            takes = made.takes;
          }

      rest_begins : {p q : TimedCaller C} → IsRest o seat gives p q → IsPrefix p.pass.seen q.pass.seen
      rest_begins (idles p q shown) = shown.looks.sees.more.begins
      rest_begins (misses p m q run shown taken) = prefix_trans p.pass.seen m.pass.seen q.pass.seen shown.looks.sees.more.begins
          (takes_begin m q run.number (Ok false) taken)

  module _ {S : Type 0} (ran : S → ChildRun → S → Type 0) where
    -- the runs that a spawner was given in whole turns stand in what the pass has seen
    record Stand (s : S) (q : Caller) (t : S) : Type 0 where
      whole : List ChildRun
      given : AreGiven ran s whole t
      in_order : StandInOrder (calls_of q.seen) whole

    stand_on : (s : S) (p q : Caller) (t : S) → IsPrefix p.seen q.seen → Stand s p t → Stand s q t
    stand_on s p q t begins k = record {
      whole = k.whole;
      given = k.given;
      in_order = order_goes_on (calls_of q.seen) (calls_begin p.seen q.seen begins) k.in_order;
    }

    -- a run that was taken, ran, and was told as ended
    stand_run : (s : S) (p k q : Caller) (t u : S) (run : QueuedRun) (how : Ran) (ending : Ending) → AddsTake p k run.number
        → ran t (child_of run how) u → told_ending how ≡ Some ending
        → AddsEnd k q run.number ending → Stand s p t → Stand s q u
    stand_run s p k q t u run how ending a r told b kept =
        let child = child_of run how in
        let rest = a.adds.others ++ a.entry ∷ b.adds.others ++ b.entry ∷ [] in
        let is : calls_of p.seen ++ rest ≡ calls_of q.seen = sym (b.adds.place ∙ (ap (λ es. es ++ b.adds.others ++ b.entry ∷ []) a.adds.place
        ∙ two_calls (calls_of p.seen) a.adds.others b.adds.others a.entry b.entry)) in
        let both : TakesAndEnds rest child = record {
          before = a.adds.others;
          taken = a.entry;
          between = b.adds.others;
          ended = b.entry;
          after = [];
          places = refl;
          takes = a.takes;
          ending = ending;
          told = told;
          ends = b.ends;
        } in
        record {
          whole = kept.whole ++ child ∷ [];
          given = one_more s t u kept.whole child kept.given r;
          in_order = subst (λ es. StandInOrder es (kept.whole ++ child ∷ [])) is (one_more (calls_of p.seen) rest kept.whole child kept.in_order both);
        }

    -- a lane without a run that was cut short
    all_whole : (entries : List Entry) (s : S) (q : Caller) (t : S) (at_end : Option LaneEnd) → IsPrefix (calls_of q.seen) entries → Stand s q t
        → RunsStand ran entries s t at_end
    all_whole entries s q t at_end begins k = let order = order_goes_on entries begins k.in_order in record {
      whole = k.whole;
      last = [];
      few = omega arith;
      given = subst (λ xs. AreGiven ran s xs t) (sym (append-nil k.whole)) k.given;
      each = each_stands order;
      in_order = order;
      taken = All-nil _;
      ended = λ _. refl;
    }

    -- a lane whose last run was taken, and its ending not told
    but_last : (entries : List Entry) (s : S) (p k q : Caller) (t u : S) (run : QueuedRun) (how : Ran) (at_end : Option LaneEnd) → AddsTake p k run.number
        → ran t (child_of run how) u → IsPrefix k.seen q.seen → IsPrefix (calls_of q.seen) entries
        → (at_end ≡ Some end.Ended → ⊥) → Stand s p t → RunsStand ran entries s u at_end
    but_last entries s p k q t u run how at_end a r goes begins not_ended kept =
        let child = child_of run how in
        let seen = prefix_trans (calls_of k.seen) (calls_of q.seen) entries (calls_begin k.seen q.seen goes) begins in
        let old : IsPrefix (calls_of p.seen) (calls_of k.seen) = (
          a.adds.others ++ a.entry ∷ [],
          sym (a.adds.place ∙ append_assoc (calls_of p.seen) a.adds.others (a.entry ∷ [])),
        ) in
        let order = order_goes_on entries (prefix_trans (calls_of p.seen) (calls_of k.seen) entries old seen) kept.in_order in
        let is : IsTaken entries child = record {
          before = calls_of p.seen ++ a.adds.others;
          taken = a.entry;
          after = seen.0;
          place = sym seen.1 ∙ (ap (λ es. es ++ seen.0) a.adds.place
              ∙ append_assoc (calls_of p.seen ++ a.adds.others) (a.entry ∷ []) seen.0);
          takes = a.takes;
        } in
        record {
          whole = kept.whole;
          last = child ∷ [];
          few = omega arith;
          given = one_more s t u kept.whole child kept.given r;
          each = each_stands order;
          in_order = order;
          taken = All-cons (IsTaken entries) child [] is (All-nil _);
          ended = λ e. absurd (not_ended e);
        }

    module _ {C : Type 0} (gives : C → ℕ → C → Type 0) (seat : ℕ) where
      cut_stands : (entries : List Entry) (s : S) (at_end : Option LaneEnd) {cut : Cut} {p q : TimedCaller C} {t u : S} → IsCut o seat ran gives cut p t q u
          → IsPrefix (calls_of q.pass.seen) entries → (at_end ≡ Some end.Ended → ⊥) → Stand s p.pass t → RunsStand ran entries s u at_end
      cut_stands entries s at_end (unseen p q t sees same) begins not k =
          all_whole entries s q.pass t at_end begins (stand_on s p.pass q.pass t sees.more.begins k)
      cut_stands entries s at_end (untaken p m q t run cut shown taken) begins not k =
          let goes = prefix_trans p.pass.seen m.pass.seen q.pass.seen shown.looks.sees.more.begins (takes_begin gives m q run.number (Err cut) taken) in
          all_whole entries s q.pass t at_end begins (stand_on s p.pass q.pass t goes k)
      cut_stands entries s at_end (unrun p q t u run how starts r told) begins not k =
          but_last entries s p.pass q.pass q.pass t u run how at_end (starts_add gives seat p q run starts) r (prefix_self q.pass.seen) begins not k
      cut_stands entries s at_end (untold p k q t u run how ending cut starts r told tells) begins not kept =
          but_last entries s p.pass k.pass q.pass t u run how at_end (starts_add gives seat p k run starts) r
          (tells_begin gives k q run.number ending (Err cut) tells) begins not kept

      module _ (pauses : C → Bool → C → Type 0) where
        stand_turn : (s : S) {p q : TimedCaller C} {t u : S} → IsTurn o seat ran gives pauses p t q u → Stand s p.pass t → Stand s q.pass u
        stand_turn s (rests p r q t rest pause) k = subst (λ z. Stand s z t) (sym pause.same_pass) (stand_on s p.pass r.pass t (rest_begins gives seat rest) k)
        stand_turn s (runs p q t u one) kept = stand_run s p.pass one.started.pass q.pass t u one.run one.how one.ending
            (starts_add gives seat p one.started one.run one.starts) one.runs one.told
            (tells_add gives one.started q one.run.number one.ending one.tells) kept

        stand_turns : {p q : TimedCaller C} {s t : S} → AreTurns o seat ran gives pauses p s q t → Stand s q.pass t
        stand_turns (none p s) = record { whole = []; given = no_run s; in_order = no_run (calls_of p.pass.seen) }
        stand_turns (more p q r s t u turns turn) = stand_turn s turn (stand_turns turns)

        -- the runs that the spawner of a lane was given stand in a journal that begins with what the pass of the lane has seen
        pub lane_stands : (entries : List Entry) (p : TimedCaller C) (s : S) (q : TimedCaller C) (t : S) (why : LaneEnd)
            → IsLane o seat ran gives pauses p s q t why → IsPrefix (calls_of q.pass.seen) entries → RunsStand ran entries s t (Some why)
        lane_stands entries p s q t end.Ended lane begins =
            let rested = stand_on s lane.before.pass lane.rested.pass t (rest_begins gives seat lane.rest) (stand_turns lane.turns) in
            all_whole entries s q.pass t _ begins (subst (λ z. Stand s z t) (sym lane.pause.same_pass) rested)
        lane_stands entries p s q t end.JournalFull lane begins = cut_stands entries s _ lane.last begins (λ e. cc e) (stand_turns lane.turns)
        lane_stands entries p s q t end.Memory lane begins = cut_stands entries s _ lane.last begins (λ e. cc e) (stand_turns lane.turns)
