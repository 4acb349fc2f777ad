-- Each run ends once in a legal history from sound tables.
use Rattle.std.proofs.Common.{◌≡◌, ◌≤◌, ◌<◌, ℕ, false, List, ◌∷◌, ◌++◌, Option, Some, None, ap, refl, sym, ◌∙◌, subst, arith}
use Rattle.std.specs.Option.{option_map_or}
use Rattle.bt_rows.specs.declared.event.EventKind.{EventKind}
use Rattle.bt_rows.specs.declared.event.EventKind.TheVariants.{End}
use Rattle.bt_rows.specs.declared.refusal.Refusal.{Refusal}
use Rattle.bt_rows.specs.declared.refusal.Refusal.TheVariants.{RunNotFound, RunAlreadyEnded}
use Rattle.bt_rows.specs.declared.reply.Reply.{Reply}
use Rattle.bt_rows.specs.declared.reply.Reply.TheVariants.{Status, Refused}
use Rattle.batch_model.specs.Finding.{first_of}
use Rattle.batch_model.specs.Events.{at_moment, accept, end_refusals, end_run, event_step, for_row, refuse, run_ended}
use Rattle.batch_model.specs.Rows.{run_of}
use Rattle.batch_model.specs.Sound.{IsSound}
use Rattle.batch_model.specs.Variants.{State, Ending, RunRow}
use Rattle.model_events.proofs.EventSound.{sound_by_event, refused_keeps}
use Rattle.model_laws.specs.Runs.{KeepsRuns, RefusesEnd, of_ended, of_absent, is_open}
use Rattle.model_laws.proofs.RunsByEvents.{event_keeps_runs, ended_closes, ended_was_there, not_open_refused}
use Rattle.model_laws.proofs.RunsByDues.{due_keeps_runs}
use Rattle.batch_desk.specs.declared.entry.Entry.{Entry}
use Rattle.batch_desk.specs.declared.entry.Mark.{Mark}
use Rattle.batch_desk.specs.declared.entry.Mark.TheVariants.{Done, KeeperFault as NotKept}
use Rattle.batch_desk.specs.History.{due_state, after_event, after_call, after_all, reply_to, refusal_of, IsCall, IsLegal}
use Rattle.batch_desk.specs.Once.{IsTurnedDown, already_ended, not_there, not_kept, EndsRunsOnce}
use Rattle.batch_desk.proofs.KeptThrough.{IsKeptBySteps, IsHeld, held_after_all, held_after_dues, legal_after, sound_after_all}

-- the number was given, and no run with it is left to end
pub record IsShut (number : ℕ) (s : State) : Type 0 where
  pub given : number < s.next_run
  pub closed : is_open s number ≡ false

-- a step that keeps runs keeps this
still_shut : (number : ℕ) (s t : State) → KeepsRuns s t → IsShut number s → IsShut number t
still_shut number s t keeps shut =
    let given : number < s.next_run = shut.given in
    let counter : s.next_run ≤ t.next_run = keeps.counter in
    record { given = omega (arith, given, counter); closed = keeps.closed number shut.given shut.closed }

shut_kept : (seats number : ℕ) → IsKeptBySteps seats (IsShut number)
shut_kept seats number = record {
  events = λ moment event s h shut. still_shut number s (event_step moment event s).state (event_keeps_runs seats moment event s h) shut;
  dues = λ s step h e shut. still_shut number s step.state (due_keeps_runs seats s step h e) shut;
}

-- replies to `end`

-- an answer that is no refusal is its status
answered : (s after : State) (status : ℕ) (first : Option Refusal) →
    refusal_of (option_map_or (λ refusal. refuse refusal s) first (accept status after)).reply ≡ None →
    (option_map_or (λ refusal. refuse refusal s) first (accept status after)).reply ≡ Status status
answered s after status None e = refl
answered s after status (Some refusal) e = cc

end_answered : (s : State) (ending : Ending) (row : Option RunRow) → refusal_of (for_row s RunNotFound (end_run s ending) row).reply ≡ None →
    (for_row s RunNotFound (end_run s ending) row).reply ≡ Status 200
end_answered s ending None e = cc
end_answered s ending (Some run) e = answered s (run_ended s ending run) 200 (first_of (end_refusals run)) e

-- an ending that is not refused is accepted
accepted : (moment number : ℕ) (ending : Ending) (s : State) → refusal_of (event_step moment (End number ending) s).reply ≡ None →
    (event_step moment (End number ending) s).reply ≡ Status 200
accepted moment number ending s e = end_answered (at_moment moment s) ending (run_of (at_moment moment s) number) e

module _ (seats number : ℕ) where
  -- the tables after the event of an ending that was accepted
  shut_by_end : (moment : ℕ) (ending : Ending) (s : State) → IsSound seats s → refusal_of (event_step moment (End number ending) s).reply ≡ None →
      IsShut number (event_step moment (End number ending) s).state
  shut_by_end moment ending s h e =
      let ok : (event_step moment (End number ending) s).reply ≡ Status 200 = accepted moment number ending s e in
      let there : number < s.next_run = ended_was_there seats moment number ending s h ok in
      let counter : s.next_run ≤ (event_step moment (End number ending) s).state.next_run = (event_keeps_runs seats moment (End number ending) s h).counter in
      record { given = omega (arith, there, counter); closed = ended_closes seats moment number ending s h ok }

  -- the refusal of a call that was made is its reply's
  call_refusal : (s : State) (e : Entry) (refusal : Option Refusal) → e.mark ≡ Done refusal → IsCall seats s e → refusal ≡ refusal_of (reply_to s e)
  call_refusal s e refusal is c =
      let made : IsCall seats s (record e { mark = Done refusal }) = subst (λ mark. IsCall seats s (record e { mark = mark })) is c in
      made.1.0

  -- after the call of an ending that was accepted
  shut_by_call : (s : State) (first : Entry) (ending : Ending) → IsSound seats s → IsCall seats s first → first.event ≡ End number ending →
      first.mark ≡ Done None → IsHeld seats (IsShut number) (after_call seats s first)
  shut_by_call s first ending h c ends is =
      let none : refusal_of (event_step first.moment (End number ending) s).reply ≡ None =
      ap (λ (event : EventKind). refusal_of (event_step first.moment event s).reply) (sym ends) ∙ sym (call_refusal s first None is c)
      in
      let shut : IsShut number (after_event s first) =
      subst (λ (event : EventKind). IsShut number (event_step first.moment event s).state) (sym ends) (shut_by_end first.moment ending s h none)
      in
      let sound : IsSound seats (after_event s first) = sound_by_event seats first.moment first.event s c.0.last c.0.ranges h in
      let made : after_call seats s first ≡ due_state seats first.dues (after_event s first) = rw is refl in
      subst (IsHeld seats (IsShut number)) (sym made)
      (held_after_dues seats (IsShut number) (shut_kept seats number) first.dues (after_event s first) (record { sound = sound; held = shut }))

  -- the mark of a call whose reply refuses an ending
  turned_down : (reply : Reply) (refusal : Option Refusal) → RefusesEnd reply → refusal ≡ refusal_of reply → IsTurnedDown (Done refusal)
  turned_down reply refusal of_ended e = subst (λ o. IsTurnedDown (Done o)) (sym e) already_ended
  turned_down reply refusal of_absent e = subst (λ o. IsTurnedDown (Done o)) (sym e) not_there

  -- a later ending of the run
  later_turned_down : (s : State) (later : Entry) (ending : Ending) (mark : Mark) → later.mark ≡ mark → IsHeld seats (IsShut number) s → IsCall seats s later →
      later.event ≡ End number ending → IsTurnedDown mark
  later_turned_down s later ending NotKept is held c ends = not_kept
  later_turned_down s later ending (Done refusal) is held c ends =
      turned_down (reply_to s later) refusal
      (subst (λ (event : EventKind). RefusesEnd (event_step later.moment event s).reply) (sym ends)
      (not_open_refused seats later.moment number ending s held.sound held.held.closed))
      (call_refusal s later refusal is c)

-- the event of a refused ending changes the last moment alone
refusal_in : (reply : Reply) → RefusesEnd reply → (refusal : Refusal) × (reply ≡ Refused refusal)
refusal_in reply of_ended = (RunAlreadyEnded, refl)
refusal_in reply of_absent = (RunNotFound, refl)

later_leaves : (seats number : ℕ) (s : State) (later : Entry) (ending : Ending) → IsHeld seats (IsShut number) s → later.event ≡ End number ending →
    after_event s later ≡ at_moment later.moment s
later_leaves seats number s later ending held ends =
    let refuses : RefusesEnd (event_step later.moment later.event s).reply =
    subst (λ (event : EventKind). RefusesEnd (event_step later.moment event s).reply) (sym ends)
    (not_open_refused seats later.moment number ending s held.sound held.held.closed)
    in
    let refused : (refusal : Refusal) × ((event_step later.moment later.event s).reply ≡ Refused refusal) = refusal_in _ refuses in
    refused_keeps later.moment later.event s refused.0 refused.1

-- in the whole history
pub ended_once : (seats : ℕ) (opened : State) (entries : List Entry) → IsSound seats opened → IsLegal seats opened entries → EndsRunsOnce seats opened entries
ended_once seats opened entries h l number first later a =
    let after_first : List Entry = a.between ++ later ∷ a.rest in
    let legal : IsLegal seats opened (a.before ++ first ∷ after_first) = subst (IsLegal seats opened) a.in_order l in
    let start : State = after_all seats opened a.before in
    let legal_start : IsLegal seats start (first ∷ after_first) = legal_after seats opened a.before (first ∷ after_first) legal in
    let sound : IsSound seats start = sound_after_all seats opened a.before (first ∷ after_first) h legal in
    let ended : State = after_call seats start first in
    let shut : IsHeld seats (IsShut number) ended = shut_by_call seats number start first a.ending sound legal_start.0 a.ends a.accepted in
    let legal_later : IsLegal seats (after_all seats ended a.between) (later ∷ a.rest) = legal_after seats ended a.between (later ∷ a.rest) legal_start.1 in
    let still : IsHeld seats (IsShut number) (after_all seats ended a.between) =
    held_after_all seats (IsShut number) (shut_kept seats number) ended a.between (later ∷ a.rest) shut legal_start.1
    in
    record {
      turned_down = later_turned_down seats number (after_all seats ended a.between) later a.later_ending later.mark refl still legal_later.0 a.ends_again;
      unchanged = later_leaves seats number (after_all seats ended a.between) later a.later_ending still a.ends_again;
    }
