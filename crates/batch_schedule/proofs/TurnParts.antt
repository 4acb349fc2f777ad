-- Turns, and the turns of all schedules.
use Rattle.std.proofs.Common.{◌≡◌, ℕ, suc, ◌+◌, ◌<◌, ◌≤◌, length, take, drop, set, get_or, drop-cons, add-one, arith, Bool, true, false, nat_eq}
use Rattle.std.proofs.Common.{List, [], ◌∷◌, ◌++◌, inr, Option, Some, None, refl, sym, subst, ap, ◌∙◌, append_assoc, append-nil, if◌then◌else◌}
use Rattle.std.proofs.lemmas.Grind.{flat_map-append}
use Rattle.std.proofs.lemmas.List.{take_more_set, take_all, drop_all, drop-set-lt, set_split}
use Rattle.batch_desk.specs.Exchanges.{Exchange, Leads}
use Rattle.schedule_rows.specs.Interactions.{Interaction, Looks, Reaches, StandsAt}
use Rattle.schedule_rows.specs.Fires.{exchange_fires, fires_of, AllAnswered, StopsWithoutMemory}
use Rattle.schedule_rows.specs.Jobs.{job_read}
use Rattle.schedule_rows.specs.Occurrences.{firing_at, completed_at}
use Rattle.schedule_rows.specs.Rows.{Schedule}
use Rattle.schedule_rows.specs.Turns.{after_look, adds_job, fires_for, fires, retries_stage, retries_and_fires, ends_turn, turn, turns}
use Rattle.schedule_rows.specs.declared.fire.Fire.{Fire}
use Rattle.batch_schedule.specs.Runs.{RunsPart, RunsTurn, RunsTurns}
use Rattle.batch_schedule.proofs.Runs.{in_sequence, stops_in_sequence}
use Rattle.batch_schedule.proofs.Reaching.{reaches_itself, passed, reaches_on, leads_on, all_on, stops_on}

-- firing starts with the schedule as it is

if_free_stands : (first : Bool) (now k : ℕ) (s : Schedule) (put : Schedule → List Schedule) (next : Schedule → Interaction) →
    StandsAt (if first then adds_job now k s put next else Looks (put s) (job_read s) (λ shown. after_look now k s shown put next)) (put s)
if_free_stands true now k s put next = refl
if_free_stands false now k s put next = refl

fires_for_stands : (now : ℕ) (s : Schedule) (due : Option ℕ) (put : Schedule → List Schedule) (next : Schedule → Interaction) →
    ((r : Schedule) → StandsAt (next r) (put r)) → StandsAt (fires_for now s due put next) (put s)
fires_for_stands now s None put next stands = stands s
fires_for_stands now s (Some k) put next stands = if_free_stands (nat_eq s.number 0) now k s put next

-- a point that is reached from another one with no more exchanges
reaches_near : (c : Interaction) (xs : List Exchange) (middle point : Interaction) → Reaches c xs middle → Reaches middle [] point → Reaches c xs point
reaches_near c xs middle point h k = subst (λ ys. Reaches c ys point) (append-nil xs) (reaches_on c xs [] middle point h k)

module _ {A : Type 0} (exchanged : A → Exchange → A → Type 0) where
  pub retried_and_fired : (now : ℕ) (s row last : Schedule) (old middle new : A) (before mid after : List Fire) (whole : Bool)
      → RunsPart exchanged (retries_stage now s.stage s) old middle row before mid true → RunsPart exchanged (fires now row) middle new last mid after whole
      → RunsPart exchanged (retries_and_fires now s) old new last before after whole
  retried_and_fired now s row last old middle new before mid after whole first goes =
      in_sequence exchanged old middle new row last before mid after whole (retries_stage now s.stage s) (fires now) first goes

  pub stopped_retrying : (now : ℕ) (s last : Schedule) (old new : A) (before after : List Fire)
      → RunsPart exchanged (retries_stage now s.stage s) old new last before after false → RunsPart exchanged (retries_and_fires now s) old new last before
      after false
  stopped_retrying now s last old new before after first =
      stops_in_sequence exchanged old new last before after (retries_stage now s.stage s) (fires now)
      (λ r put next stands. fires_for_stands now r (firing_at now r) put next stands) first

  -- the turn was run, and the schedule is completed if it will never fire again
  pub turn_had : (now : ℕ) (s row last : Schedule) (old new : A) (before after : List Fire) → last ≡ completed_at now row
      → RunsPart exchanged (retries_and_fires now s) old new row before after true → RunsTurn exchanged (turn now s) old new last before after true
  turn_had now s row last old new before after e goes = record {
    exchanges = goes.exchanges;
    leads = goes.leads;
    fires = goes.fires;
    stops = goes.stops;
    answered = goes.answered;
    ended = λ w put next.
        subst (λ r. Reaches (turn now s put next) goes.exchanges (next r)) (sym e)
        (passed (put s) (retries_and_fires now s put (λ r. ends_turn now r put next)) (next (completed_at now row)) goes.exchanges
        (reaches_near (retries_and_fires now s put (λ r. ends_turn now r put next)) goes.exchanges (ends_turn now row put next) (next (completed_at now row))
        (goes.ended refl put (λ r. ends_turn now r put next)) (inr (reaches_itself (next (completed_at now row))))));
    begun = λ w put next. cc;
  }

  pub turn_stopped : (now : ℕ) (s last : Schedule) (old new : A) (before after : List Fire)
      → RunsPart exchanged (retries_and_fires now s) old new last before after false → RunsTurn exchanged (turn now s) old new last before after false
  turn_stopped now s last old new before after goes = record {
    exchanges = goes.exchanges;
    leads = goes.leads;
    fires = goes.fires;
    stops = goes.stops;
    answered = λ w. cc;
    ended = λ w put next. cc;
    begun = λ w put next.
        let b = goes.begun refl put (λ r. ends_turn now r put next) (λ r. refl) in
        record {
          point = b.point;
          reached = passed (put s) (retries_and_fires now s put (λ r. ends_turn now r put next)) b.point goes.exchanges b.reached;
          stands = b.stands;
        };
  }

  -- the turns of the first schedules were run
  pub record SoFar (now : ℕ) (old_rows rows : List Schedule) (at : ℕ) (old new : A) (before after : List Fire) : Type 0 where
    pub exchanges : List Exchange
    pub leads : Leads exchanged old exchanges new
    pub fires : after ≡ before ++ fires_of exchanges
    pub answered : AllAnswered exchanges
    pub reached : Reaches (turns now [] old_rows) exchanges (turns now (take at rows) (drop at rows))

  pub no_turns : (now : ℕ) (rows : List Schedule) (a : A) (fired : List Fire) → SoFar now rows rows 0 a a fired fired
  no_turns now rows a fired = record {
    exchanges = [];
    leads = refl;
    fires = sym (append-nil fired);
    answered = tt;
    reached = reaches_itself (turns now [] rows);
  }

  -- one more turn was run
  pub one_more : (now : ℕ) (old_rows rows : List Schedule) (s d last : Schedule) (at : ℕ) (old middle new : A) (before mid after : List Fire)
      → at < length rows → s ≡ get_or rows at d → SoFar now old_rows rows at old middle before mid
      → RunsTurn exchanged (turn now s) middle new last mid after true
      → SoFar now old_rows (set rows at last) (at + 1) old new before after
  one_more now old_rows rows s d last at old middle new before mid after lt there so_far first =
      let done = take at rows in
      let rest = drop (suc at) rows in
      let behind : drop at rows ≡ s ∷ rest = drop-cons rows at d lt ∙ ap (λ x. x ∷ rest) (sym there) in
      let after_done : take (at + 1) (set rows at last) ≡ done ++ last ∷ [] = take_more_set rows at last lt in
      let after_rest : drop (at + 1) (set rows at last) ≡ rest = drop-set-lt (at + 1) rows at last (omega arith) ∙ ap (λ n. drop n rows) (add-one at) in
      let step : Reaches (turns now done (s ∷ rest)) first.exchanges (turns now (done ++ last ∷ []) rest) =
      first.ended refl (λ row. done ++ row ∷ rest) (λ row. turns now (done ++ row ∷ []) rest) in
      let led : Reaches (turns now done (drop at rows)) first.exchanges (turns now (take (at + 1) (set rows at last)) (drop (at + 1) (set rows at last))) =
      rw (behind, after_done, after_rest) step in
      record {
        exchanges = so_far.exchanges ++ first.exchanges;
        leads = leads_on exchanged old middle new so_far.exchanges first.exchanges so_far.leads first.leads;
        fires = first.fires ∙ (ap (λ w. w ++ fires_of first.exchanges) so_far.fires ∙ (append_assoc before (fires_of so_far.exchanges)
            (fires_of first.exchanges)
            ∙ ap (λ w. before ++ w) (sym (flat_map-append exchange_fires so_far.exchanges first.exchanges))));
        answered = all_on so_far.exchanges first.exchanges so_far.answered (first.answered refl);
        reached = reaches_on (turns now [] old_rows) so_far.exchanges first.exchanges (turns now done (drop at rows))
            (turns now (take (at + 1) (set rows at last)) (drop (at + 1) (set rows at last))) so_far.reached led;
      }

  -- memory ran out in the next turn
  pub stopped_turns : (now : ℕ) (old_rows rows : List Schedule) (s d last : Schedule) (at : ℕ) (old middle new : A) (before mid after : List Fire)
      → at < length rows → s ≡ get_or rows at d → SoFar now old_rows rows at old middle before mid
      → RunsTurn exchanged (turn now s) middle new last mid after false
      → RunsTurns exchanged now old_rows (set rows at last) old new before after false
  stopped_turns now old_rows rows s d last at old middle new before mid after lt there so_far first =
      let done = take at rows in
      let rest = drop (suc at) rows in
      let behind : drop at rows ≡ s ∷ rest = drop-cons rows at d lt ∙ ap (λ x. x ∷ rest) (sym there) in
      let b = first.begun refl (λ row. done ++ row ∷ rest) (λ row. turns now (done ++ row ∷ []) rest) in
      let led : Reaches (turns now done (drop at rows)) first.exchanges b.point = rw behind b.reached in
      record {
        exchanges = so_far.exchanges ++ first.exchanges;
        leads = leads_on exchanged old middle new so_far.exchanges first.exchanges so_far.leads first.leads;
        fires = first.fires ∙ (ap (λ w. w ++ fires_of first.exchanges) so_far.fires ∙ (append_assoc before (fires_of so_far.exchanges)
            (fires_of first.exchanges)
            ∙ ap (λ w. before ++ w) (sym (flat_map-append exchange_fires so_far.exchanges first.exchanges))));
        stops = stops_on so_far.exchanges first.exchanges so_far.answered first.stops;
        answered = λ w. cc;
        ended = λ w. cc;
        begun = λ w. record {
          point = b.point;
          reached = reaches_on (turns now [] old_rows) so_far.exchanges first.exchanges (turns now done (drop at rows)) b.point so_far.reached led;
          stands = rw (set_split rows at last lt) b.stands;
        };
      }

  answered_stop : (xs : List Exchange) → AllAnswered xs → StopsWithoutMemory xs
  answered_stop [] h = tt
  answered_stop (x ∷ []) h = tt
  answered_stop (x ∷ y ∷ xs) h = (h.0, answered_stop (y ∷ xs) h.1)

  -- all turns were run
  pub all_turns : (now : ℕ) (old_rows rows : List Schedule) (at : ℕ) (old new : A) (before after : List Fire)
      → length rows ≤ at → SoFar now old_rows rows at old new before after → RunsTurns exchanged now old_rows rows old new before after true
  all_turns now old_rows rows at old new before after le so_far = record {
    exchanges = so_far.exchanges;
    leads = so_far.leads;
    fires = so_far.fires;
    stops = answered_stop so_far.exchanges so_far.answered;
    answered = λ w. so_far.answered;
    ended = λ w.
        let whole : take at rows ≡ rows = take_all at rows le in
        let none : drop at rows ≡ [] = drop_all at rows le in
        rw (whole, none) at so_far.reached;
    begun = λ w. cc;
  }
