-- A desk goes on by one line more.
use Rattle.std.proofs.Common.{◌≡◌, ◌≤◌, ◌+◌, ◌-◌, min, ℕ, zero, suc, Bool, true, false, ◌||◌, List, [], ◌∷◌, ◌++◌, Option, Result, Ok, Err}
use Rattle.std.proofs.Common.{length, refl, ap, ◌∙◌, sym, subst, arith, map, take, inl, inr, append_assoc}
use Rattle.std.proofs.lemmas.List.{length_push, append-nil, length-append, length-map, length-take, map-append, take_at, take-take}
use Rattle.byte_streams.specs.Content.{Gains, GainsFront}
use Rattle.byte_streams.proofs.Gaining.{gains_nothing, gains_more}
use Rattle.bt_rows.specs.declared.event.EventKind.{EventKind}
use Rattle.bt_rows.specs.declared.refusal.Refusal.{Refusal}
use Rattle.wire_lines.specs.declared.line.LineRequest.{LineRequest}
use Rattle.wire_lines.specs.declared.line.LineRequest.TheVariants.{Skip, Call, Look}
use Rattle.wire_lines.specs.Lines.{line_of}
use Rattle.wire_texts.specs.Tables.{tables_text}
use Rattle.batch_desk.specs.declared.entry.Entry.{Entry}
use Rattle.batch_desk.specs.Kept.{Desk}
use Rattle.batch_desk.specs.History.{asked_of, fault_count}
use Rattle.batch_desk.specs.Answers.{HasSameOpening, Begins}
use Rattle.batch_cli.specs.Shown.{outputs, calls_of, call_in, is_refused, has_refused, memory_stops, but_last, outputs_before, line_shown}
use Rattle.batch_cli.specs.Written.{BeginsWith, GainsBetween}
use Rattle.batch_model.specs.Variants.{State}
use Rattle.batch_cli.specs.Advance.{Advances, Did, Halts, Counts, room_of}
use Rattle.batch_cli.specs.Going.{Going, Whole, Part}
use Rattle.batch_cli.specs.declared.tally.Tally.{Tally}

take_none : {A : Type 0} (n : ℕ) → take {A = A} n [] ≡ []
take_none zero = refl
take_none (suc n) = refl

pub take_append : {A : Type 0} (k : ℕ) (xs ys : List A) → take k (xs ++ ys) ≡ take k xs ++ take (k - length xs) ys
take_append zero [] ys = refl
take_append (suc k) [] ys = let same : suc k ≡ suc k - 0 = omega arith in ap (λ m. take m ys) same
take_append zero (x ∷ xs) ys = let none : 0 ≡ 0 - length (x ∷ xs) = omega arith in ap (λ m. take m ys) none
take_append (suc k) (x ∷ xs) ys =
    ap (λ w. x ∷ w) (take_append k xs ys ∙ ap (λ m. take k xs ++ take m ys) (omega arith))

pub faults_append : (xs ys : List Entry) → fault_count (xs ++ ys) ≡ fault_count xs + fault_count ys
faults_append [] ys = omega arith
faults_append (x ∷ xs) ys = omega (arith, faults_append xs ys)

pub stops_append : (xs ys : List Entry) → memory_stops (xs ++ ys) ≡ memory_stops xs + memory_stops ys
stops_append [] ys = omega arith
stops_append (x ∷ xs) ys = omega (arith, stops_append xs ys)

stops_take : (k : ℕ) (xs : List Entry) → memory_stops (take k xs) ≤ memory_stops xs
stops_take zero xs = omega arith
stops_take (suc k) [] = omega arith
stops_take (suc k) (x ∷ xs) = omega (arith, stops_take k xs)

-- the entries but the last, after one more
but_last_push : (es : List Entry) (e : Entry) → but_last (es ++ e ∷ []) ≡ es
but_last_push es e =
    let n : length (es ++ e ∷ []) - 1 ≡ length es = omega (arith, length_push es e) in
    ap (λ k. take k (es ++ e ∷ [])) n ∙ take_at es (e ∷ []) (length es) refl

-- before the last call all calls before it are shown
before_push : (seats limit : ℕ) (script : List (List ℕ)) (es : List Entry) (e : Entry) (s : State) →
    outputs_before seats script limit (es ++ e ∷ []) s ≡ outputs seats 1 script limit es s
before_push seats limit script [] e s = refl
before_push seats limit script (x ∷ es) e s = ap (λ h. outputs seats 1 script limit h s) (but_last_push (x ∷ es) e)

-- if no due steps before the line stopped because memory ran out, none before the last call did
pub settled_added : (old new added : List Entry) → new ≡ old ++ added → length added ≤ 1 → memory_stops old ≡ 0 → memory_stops (but_last new) ≡ 0
settled_added old new [] e few h = omega (arith, stops_take (length new - 1) new, ap memory_stops (e ∙ append-nil old), h)
settled_added old new (x ∷ []) e few h = ap memory_stops (ap but_last e ∙ but_last_push old x) ∙ h
settled_added old new (x ∷ (y ∷ more)) e few h = absurd (omega arith)

-- longer bytes begin with the same prefix
begins_more : (front least text : List ℕ) → BeginsWith front least → BeginsWith (front ++ text) least
begins_more front least text b = record { rest = b.rest ++ text; cut = ap (λ w. w ++ text) b.cut ∙ append_assoc least b.rest text }

-- a line asks one call at most
pub one_call : (request : Result LineRequest Refusal) → length (call_in request) ≤ 1
one_call (Ok Skip) = omega arith
one_call (Ok (Call moment event)) = omega arith
one_call (Ok (Look read)) = omega arith
one_call (Err refusal) = omega arith

-- the room after a line
room_after : {K : Type 0} {faults : K → ℕ} {old new : Desk K} {n : ℕ} {request : Result LineRequest Refusal} {text : List ℕ} → HasSameOpening old new →
    Advances faults old new n request text → room_of new ≡ room_of old - length (call_in request)
room_after {K} {faults} {old} {new} {n} {request} {text} same a =
    let some : length a.added ≡ min (room_of old) (length (call_in request)) = sym (length-map a.added asked_of) ∙ ap length a.calls
    ∙ length-take (room_of old) (call_in request) in
    omega (arith, some, same.limit, ap length a.entries, length-append old.entries a.added)

same_at_once : {K : Type 0} (d : Desk K) → HasSameOpening d d
same_at_once d = record { opened = refl; seats = refl; limit = refl }

pub same_on : {K : Type 0} {a b c : Desk K} → HasSameOpening a b → HasSameOpening b c → HasSameOpening a c
same_on f g = record { opened = g.opened ∙ f.opened; seats = g.seats ∙ f.seats; limit = g.limit ∙ f.limit }

-- no line was done
pub going_start : {K : Type 0} {d : Desk K} (faults : K → ℕ) (script : List (List ℕ)) (a : Option (List ℕ)) → Begins d d.seats d.limit →
    Going faults d d script script 1 a a
going_start {K} {d} faults script a b =
    let none : d.entries ≡ [] = b.entries in
    let room : room_of d ≡ d.limit = omega (arith, ap length none) in
    record {
      front = [];
      gained = gains_nothing a;
      behind = subst (λ (es : List Entry). BeginsWith [] (outputs_before d.seats script d.limit es d.state)) (sym none) (record { rest = []; cut = refl });
      shows = λ more. ap (λ es. outputs d.seats 1 script d.limit (es ++ more) d.state) none ∙ ap (λ r. outputs d.seats 1 script r more d.state) (sym room);
      calls = ap (λ r. take r (calls_of script)) (sym room) ∙ ap (λ es. map asked_of es ++ take (room_of d) (calls_of script)) (sym none);
      rose = omega (arith, ap fault_count none);
      settled = ap memory_stops none;
      same = same_at_once d;
    }

-- the calls so far, and those to come
calls_on : {K : Type 0} {faults : K → ℕ} {old new : Desk K} {all : List (List ℕ)} {n : ℕ} {text : List ℕ} (calls : List (ℕ × EventKind)) (limit : ℕ)
    (line : List ℕ) (rest : List (List ℕ)) → take limit calls ≡ map asked_of old.entries ++ take (room_of old) (calls_of all) → all ≡ line ∷ rest →
    HasSameOpening old new → Advances faults old new n (line_of line) text → take limit calls ≡ map asked_of new.entries ++ take (room_of new) (calls_of rest)
calls_on {K} {faults} {old} {new} {all} {n} {text} calls limit line rest before split same step =
    before
    ∙ ap (λ ls. map asked_of old.entries ++ take (room_of old) (calls_of ls)) split
    ∙ ap (λ w. map asked_of old.entries ++ w) (take_append (room_of old) (call_in (line_of line)) (calls_of rest))
    ∙ ap (λ r. map asked_of old.entries ++ (take (room_of old) (call_in (line_of line)) ++ take r (calls_of rest))) (sym (room_after same step))
    ∙ ap (λ w. map asked_of old.entries ++ (w ++ take (room_of new) (calls_of rest))) (sym step.calls)
    ∙ sym (append_assoc (map asked_of old.entries) (map asked_of step.added) (take (room_of new) (calls_of rest)))
    ∙ ap (λ w. w ++ take (room_of new) (calls_of rest)) (sym (map-append asked_of old.entries step.added) ∙ ap (map asked_of) (sym step.entries))

-- the calls that were made are the first of the calls that are asked
front_made : {A : Type 0} (limit : ℕ) (calls made rest : List A) → take limit calls ≡ made ++ rest → length made ≤ limit → made ≡ take (length made) calls
front_made limit calls made rest e le =
    sym (take_at made rest (length made) refl) ∙ ap (take (length made)) (sym e) ∙ take-take (length made) limit calls le

made_front : {K : Type 0} (d : Desk K) (limit : ℕ) (calls rest : List (ℕ × EventKind)) → take limit calls ≡ map asked_of d.entries ++ rest →
    length d.entries ≤ limit → map asked_of d.entries ≡ take (length d.entries) calls
made_front d limit calls rest e le =
    let n = length-map d.entries asked_of in
    front_made limit calls (map asked_of d.entries) rest e (omega (arith, n)) ∙ ap (λ k. take k calls) n

-- the line's text, and what comes after it, show the rest
shown_on : {K : Type 0} {faults : K → ℕ} {start old new : Desk K} {script all : List (List ℕ)} {n : ℕ} {a b : Option (List ℕ)} {text : List ℕ}
    (line : List ℕ) (rest : List (List ℕ)) → (g : Going faults start old script all n a b) → all ≡ line ∷ rest →
    Advances faults old new n (line_of line) text → (more : List Entry) →
    outputs start.seats 1 script start.limit (new.entries ++ more) start.state ≡ g.front ++
    (text ++ outputs start.seats (n + 1) rest (room_of new) more new.state)
shown_on {K} {faults} {start} {old} {new} {script} {all} {n} {a} {b} {text} line rest g split step more =
    ap (λ es. outputs start.seats 1 script start.limit (es ++ more) start.state) step.entries
    ∙ ap (λ es. outputs start.seats 1 script start.limit es start.state) (append_assoc old.entries step.added more)
    ∙ g.shows (step.added ++ more)
    ∙ ap (λ w. g.front ++ w) (
    ap (λ ls. outputs start.seats n ls (room_of old) (step.added ++ more) old.state) split
    ∙ ap (λ seats. line_shown seats (λ r fs t. outputs start.seats (n + 1) rest r fs t) n (line_of line) (room_of old) (step.added ++ more) old.state)
    (sym g.same.seats)
    ∙ step.shows (λ r fs t. outputs start.seats (n + 1) rest r fs t) more)

-- a line that asks a call shows nothing if the history has no entry for it
no_entry : (seats n room : ℕ) (rest : ℕ → List Entry → State → List ℕ) (request : Result LineRequest Refusal) (s : State) (e : Entry) (added : List Entry) →
    map asked_of (e ∷ added) ≡ take room (call_in request) → line_shown seats rest n request room [] s ≡ []
no_entry seats n room rest (Ok Skip) s e added h = let none = take_none {A = ℕ × EventKind} room in absurd (cc)
no_entry seats n zero rest (Ok (Call moment event)) s e added h = absurd (cc)
no_entry seats n (suc room) rest (Ok (Call moment event)) s e added h = refl
no_entry seats n room rest (Ok (Look read)) s e added h = let none = take_none {A = ℕ × EventKind} room in absurd (cc)
no_entry seats n room rest (Err refusal) s e added h = let none = take_none {A = ℕ × EventKind} room in absurd (cc)

-- a line adds one entry at most
one_added : (room : ℕ) (request : Result LineRequest Refusal) (added : List Entry) → map asked_of added ≡ take room (call_in request) → length added ≤ 1
one_added room request added h =
    let some : length added ≡ min room (length (call_in request)) = sym (length-map added asked_of) ∙ ap length h ∙ length-take room (call_in request) in
    omega (arith, some, one_call request)

-- all before the line of the last call is written
behind_on : {K : Type 0} {faults : K → ℕ} {start old : Desk K} {script all : List (List ℕ)} {n : ℕ} {a b : Option (List ℕ)} (now added : List Entry)
    (line : List ℕ) (rest : List (List ℕ)) →
    (g : Going faults start old script all n a b) → all ≡ line ∷ rest → now ≡ old.entries ++ added →
    map asked_of added ≡ take (room_of old) (call_in (line_of line)) →
    BeginsWith g.front (outputs_before start.seats script start.limit now start.state)
behind_on {K} {faults} {start} {old} {script} {all} {n} {a} {b} now [] line rest g split pushed calls =
    subst (λ es. BeginsWith g.front (outputs_before start.seats script start.limit es start.state)) (sym (pushed ∙ append-nil old.entries)) g.behind
behind_on {K} {faults} {start} {old} {script} {all} {n} {a} {b} now (e ∷ []) line rest g split pushed calls =
    let none : outputs start.seats n all (room_of old) [] old.state ≡ [] =
    ap (λ ls. outputs start.seats n ls (room_of old) [] old.state) split
    ∙ no_entry start.seats n (room_of old) (λ r fs t. outputs start.seats (n + 1) rest r fs t) (line_of line) old.state e [] calls in
    let shown : outputs_before start.seats script start.limit now start.state ≡ g.front =
    ap (λ es. outputs_before start.seats script start.limit es start.state) pushed
    ∙ before_push start.seats start.limit script old.entries e start.state
    ∙ ap (λ es. outputs start.seats 1 script start.limit es start.state) (sym (append-nil old.entries))
    ∙ g.shows []
    ∙ ap (λ w. g.front ++ w) none
    ∙ append-nil g.front in
    record { rest = []; cut = sym shown ∙ sym (append-nil (outputs_before start.seats script start.limit now start.state)) }
behind_on {K} {faults} {start} {old} {script} {all} {n} {a} {b} now (e ∷ (f ∷ more)) line rest g split pushed calls =
    let few = one_added (room_of old) (line_of line) (e ∷ (f ∷ more)) calls in
    absurd (omega arith)

-- one line more was done
pub going_on : {K : Type 0} {faults : K → ℕ} {start old new : Desk K} {script all : List (List ℕ)} {n : ℕ} {a b c : Option (List ℕ)} (line : List ℕ)
    (rest : List (List ℕ)) → Going faults start old script all n a b → all ≡ line ∷ rest → HasSameOpening old new → Did faults old new n (line_of line) b c →
    Going faults start new script rest (n + 1) a c
going_on {K} {faults} {start} {old} {new} {script} {all} {n} {a} {b} {c} line rest g split same did =
    let step = did.step in
    record {
      front = g.front ++ did.text;
      gained = gains_more a b c g.front did.text g.gained did.written;
      behind = begins_more g.front _ did.text (behind_on new.entries step.added line rest g split step.entries step.calls);
      shows = λ more. shown_on line rest g split step more ∙ sym
          (append_assoc g.front did.text (outputs start.seats (n + 1) rest (room_of new) more new.state));
      calls = calls_on (calls_of script) start.limit line rest g.calls split same step;
      rose = omega (arith, g.rose, step.rose, ap fault_count step.entries, faults_append old.entries step.added);
      settled = omega (arith, g.settled, did.settled, ap memory_stops step.entries, stops_append old.entries step.added);
      same = same_on g.same same;
    }

-- all lines were done, and the tables text written
pub going_ends : {K : Type 0} {faults : K → ℕ} {start now : Desk K} {script : List (List ℕ)} {n : ℕ} {a b : Option (List ℕ)} (c : Option (List ℕ)) →
    Going faults start now script [] n a b → Gains b c (tables_text now.state) → Whole faults start now script a c
going_ends {K} {faults} {start} {now} {script} {n} {a} {b} c g last =
    let all : outputs start.seats 1 script start.limit now.entries start.state ≡ g.front ++ tables_text now.state = ap
    (λ es. outputs start.seats 1 script start.limit es start.state) (sym (append-nil now.entries)) ∙ g.shows [] in
    record {
      written = subst (λ w. Gains a c w) (sym all) (gains_more a b c g.front (tables_text now.state) g.gained last);
      calls = sym (g.calls ∙ ap (λ w. map asked_of now.entries ++ w) (take_none (room_of now)) ∙ append-nil (map asked_of now.entries));
      rose = g.rose;
      settled = g.settled;
      same = g.same;
    }

-- a prefix of what comes next was written
between : (a b c : Option (List ℕ)) (least whole front text rest : List ℕ) → whole ≡ front ++ (text ++ rest) → BeginsWith front least → Gains a b front →
    GainsFront b c text → GainsBetween a c least whole
between a b c least whole front text rest e begins f g = record {
  front = front ++ g.front;
  gained = gains_more a b c front g.front f g.gained;
  at_least = begins_more front least g.front begins;
  at_most = record {
    rest = g.rest ++ rest;
    cut = e ∙ ap (λ w. front ++ (w ++ rest)) g.cut ∙ ap (λ w. front ++ w) (append_assoc g.front g.rest rest)
        ∙ sym (append_assoc front g.front (g.rest ++ rest));
  };
}

-- all lines were done, and a prefix of the tables text written
pub going_cut : {K : Type 0} {faults : K → ℕ} {start now : Desk K} {script : List (List ℕ)} {n : ℕ} {a b : Option (List ℕ)} (c : Option (List ℕ)) →
    Going faults start now script [] n a b → length now.entries ≤ now.limit → GainsFront b c (tables_text now.state) → Part faults start now script a c
going_cut {K} {faults} {start} {now} {script} {n} {a} {b} c g within last =
    let all : outputs start.seats 1 script start.limit now.entries start.state ≡ g.front ++ tables_text now.state = ap
    (λ es. outputs start.seats 1 script start.limit es start.state) (sym (append-nil now.entries)) ∙ g.shows [] in
    record {
      written = between a b c _ _ g.front (tables_text now.state) [] (all ∙ ap (λ w. g.front ++ w) (sym (append-nil (tables_text now.state)))) g.behind
          g.gained last;
      settled = omega (arith, stops_take (length now.entries - 1) now.entries, g.settled);
      calls = made_front now start.limit (calls_of script) _ g.calls (omega (arith, within, g.same.limit));
      rose = g.rose;
      same = g.same;
    }

-- the run ends at a line
pub going_halts : {K : Type 0} {faults : K → ℕ} {start old new : Desk K} {script all : List (List ℕ)} {n : ℕ} {a b c : Option (List ℕ)} (line : List ℕ)
    (rest : List (List ℕ)) → Going faults start old script all n a b → all ≡ line ∷ rest → HasSameOpening old new → length new.entries ≤ new.limit →
    faults old.keeper ≤ faults new.keeper → Halts faults old new n (line_of line) b c → Part faults start new script a c
going_halts {K} {faults} {start} {old} {new} {script} {all} {n} {a} {b} {c} line rest g split same within later (inl not_done) =
    let now : outputs start.seats 1 script start.limit new.entries start.state ≡ g.front ++ ([] ++ outputs start.seats n all (room_of old) [] old.state) =
    ap (λ es. outputs start.seats 1 script start.limit es start.state) (not_done.entries ∙ sym (append-nil old.entries)) ∙ g.shows [] in
    let behind = subst (λ (es : List Entry). BeginsWith g.front (outputs_before start.seats script start.limit es start.state)) (sym not_done.entries)
    g.behind in
    record {
      written = between a b c _ _ g.front [] _ now behind g.gained (record { front = []; rest = []; cut = refl; gained = not_done.written });
      settled = omega (arith, stops_take (length new.entries - 1) new.entries, ap memory_stops not_done.entries, g.settled);
      calls = made_front new start.limit (calls_of script) (take (room_of old) (calls_of all))
          (g.calls ∙ ap (λ es. map asked_of es ++ take (room_of old) (calls_of all)) (sym not_done.entries)) (omega (arith, within, same.limit, g.same.limit));
      rose = omega (arith, g.rose, later, ap fault_count not_done.entries);
      same = same_on g.same same;
    }
going_halts {K} {faults} {start} {old} {new} {script} {all} {n} {a} {b} {c} line rest g split same within later (inr cut) =
    let now : outputs start.seats 1 script start.limit new.entries start.state ≡ g.front ++
    (cut.text ++ outputs start.seats (n + 1) rest (room_of new) [] new.state) =
    ap (λ es. outputs start.seats 1 script start.limit es start.state) (sym (append-nil new.entries)) ∙ shown_on line rest g split cut.step [] in
    record {
      written = between a b c _ _ g.front cut.text _ now (behind_on new.entries cut.step.added line rest g split cut.step.entries cut.step.calls) g.gained
          cut.written;
      settled = settled_added old.entries new.entries cut.step.added cut.step.entries (one_added (room_of old) (line_of line) cut.step.added cut.step.calls)
          g.settled;
      calls = made_front new start.limit (calls_of script) (take (room_of new) (calls_of rest))
          (calls_on (calls_of script) start.limit line rest g.calls split same cut.step) (omega (arith, within, same.limit, g.same.limit));
      rose = omega (arith, g.rose, cut.step.rose, ap fault_count cut.step.entries, faults_append old.entries cut.step.added);
      same = same_on g.same same;
    }

pub or_assoc : (a b c : Bool) → ((a || b) || c) ≡ (a || (b || c))
or_assoc true b c = refl
or_assoc false b c = refl

-- the calls so far, and those of the rest
pub calls_next : (so_far now all : ℕ) (asked : Tally) (rest : List (List ℕ)) (line : List ℕ) (lines : List (List ℕ)) → rest ≡ line ∷ lines →
    Counts (line_of line) asked → now ≡ so_far + asked.calls → so_far + length (calls_of rest) ≡ all → now + length (calls_of lines) ≡ all
calls_next so_far now all asked rest line lines e c f g =
    omega (arith, f, g, c.calls, ap (λ ls. length (calls_of ls)) e, length-append (call_in (line_of line)) (calls_of lines))

-- whether a line so far is not a valid request, and one of the rest
pub refused_next : (so_far now all : Bool) (asked : Tally) (rest : List (List ℕ)) (line : List ℕ) (lines : List (List ℕ)) → rest ≡ line ∷ lines →
    Counts (line_of line) asked → now ≡ (so_far || asked.refused) → (so_far || has_refused rest) ≡ all → (now || has_refused lines) ≡ all
refused_next so_far now all asked rest line lines e c f g =
    ap (λ b. b || has_refused lines) (f ∙ ap (λ b. so_far || b) c.refused)
    ∙ or_assoc so_far (is_refused (line_of line)) (has_refused lines)
    ∙ ap (λ ls. so_far || has_refused ls) (sym e) ∙ g
