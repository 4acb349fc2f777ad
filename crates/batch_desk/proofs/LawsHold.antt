-- Laws hold at every moment of a legal history, since its tables are sound.
use Rattle.std.proofs.Common.{ℕ, ◌≤◌, max, List, ◌∷◌, ◌++◌, subst, arith}
use Rattle.batch_model.specs.Events.{event_step}
use Rattle.batch_model.specs.Sound.{IsSound}
use Rattle.batch_model.specs.Variants.{State}
use Rattle.model_rules.proofs.DueSound.{within_slots, jobs_end_at_rest, jobs_release_once, sound_by_due}
use Rattle.model_events.proofs.EventSound.{sound_by_event, refused_keeps}
use Rattle.model_laws.specs.Releases.{releases_of}
use Rattle.model_laws.proofs.Measure.{rank_falls}
use Rattle.model_laws.proofs.RunsByEvents.{event_keeps_runs}
use Rattle.model_laws.proofs.RunsByDues.{due_keeps_runs}
use Rattle.model_laws.proofs.ReleaseRunsByEvents.{event_releases}
use Rattle.model_laws.proofs.ReleaseRunsByDues.{due_releases}
use Rattle.model_laws.proofs.ReleasesByEvents.{few_by_event}
use Rattle.model_laws.proofs.ReleasesByDues.{few_by_due}
use Rattle.model_laws.proofs.OrderOfAll.{places_in_order}
use Rattle.model_laws.proofs.NoneToPlace.{none_to_place}
use Rattle.model_laws.proofs.PlacingsByDues.{due_placings}
use Rattle.model_laws.proofs.PlacingsByEvents.{event_placings}
use Rattle.model_laws.proofs.StartsByEvents.{event_retries}
use Rattle.model_laws.proofs.StartsByDues.{due_retries}
use Rattle.model_laws.proofs.TakesOfPresent.{takes_present}
use Rattle.batch_desk.specs.declared.entry.Entry.{Entry}
use Rattle.batch_desk.specs.History.{after_event, after_all, IsLegal}
use Rattle.batch_desk.specs.Laws.{IsReached, between_calls, in_call, HasFewReleases, HoldsLaws, KeepsLaws}
use Rattle.batch_desk.proofs.KeptThrough.{IsKeptBySteps, IsHeld, held_after_dues, held_after_event, held_after_all, legal_after}
use Rattle.batch_desk.proofs.EndedOnce.{ended_once}
use Rattle.batch_desk.proofs.MadeOnce.{made_once, none_made_again}

module _ (seats : ℕ) (opened : State) where
  -- release runs stay few

  abbrev IsFew : State → Type 0
  IsFew s = HasFewReleases opened s

  few_kept : IsKeptBySteps seats IsFew
  few_kept = record {
    events =
        λ moment event s h few job node.
        let before : releases_of s job node ≤ max (releases_of opened job node) 1 = few job node in
        let after : releases_of (event_step moment event s).state job node ≤ releases_of s job node = few_by_event job node seats moment event s h in
        omega (arith, before, after);
    dues =
        λ s step h e few job node.
        let before : releases_of s job node ≤ max (releases_of opened job node) 1 = few job node in
        let after : releases_of step.state job node ≤ max (releases_of s job node) 1 = few_by_due job node s seats h step e in
        omega (arith, before, after);
  }

  -- sound tables with few release runs hold the laws
  laws_of_held : (s : State) → IsHeld seats IsFew s → HoldsLaws seats opened s
  laws_of_held s h = record {
    slots = within_slots seats s h.sound;
    ends = jobs_end_at_rest seats s h.sound;
    releases = jobs_release_once seats s h.sound;
    few = h.held;
    belonging = h.sound.consistent.belonging;
    takes = takes_present seats s h.sound;
    event_placings = λ moment event. event_placings moment event s;
    due_placings = λ step e. due_placings seats s step h.sound e;
    order = places_in_order seats s h.sound;
    idle = none_to_place s seats;
    events = λ moment event. event_retries seats moment event s h.sound;
    dues = λ step e. due_retries seats s step h.sound e;
    sound = h.sound;
    sound_events = λ moment event asked. sound_by_event seats moment event s asked.last asked.ranges h.sound;
    sound_dues = λ step e. sound_by_due seats s step h.sound e;
    falls = λ step e. rank_falls seats s step h.sound e;
    run_events = λ moment event. event_keeps_runs seats moment event s h.sound;
    run_dues = λ step e. due_keeps_runs seats s step h.sound e;
    release_events = λ moment event. event_releases seats moment event s h.sound;
    release_dues = λ step e. due_releases seats s step h.sound e;
    refused = λ moment event refusal e. refused_keeps moment event s refusal e;
  }

  -- at each moment of a legal history
  reached_held : (entries : List Entry) (s : State) → IsHeld seats IsFew opened → IsLegal seats opened entries → IsReached seats opened entries s →
      IsHeld seats IsFew s
  reached_held entries s h l (between_calls before rest is) =
      held_after_all seats IsFew few_kept opened before rest h (subst (IsLegal seats opened) is l)
  reached_held entries s h l (in_call before e rest refusal n is made few) =
      let legal : IsLegal seats opened (before ++ e ∷ rest) = subst (IsLegal seats opened) is l in
      let start : State = after_all seats opened before in
      let legal_start : IsLegal seats start (e ∷ rest) = legal_after seats opened before (e ∷ rest) legal in
      held_after_dues seats IsFew few_kept n (after_event start e)
      (held_after_event seats IsFew few_kept start e (held_after_all seats IsFew few_kept opened before (e ∷ rest) h legal) legal_start.0)

-- from sound tables
pub laws_kept : (seats : ℕ) (opened : State) (entries : List Entry) → IsSound seats opened → IsLegal seats opened entries → KeepsLaws seats opened entries
laws_kept seats opened entries h l = record {
  moments =
      λ s reached.
      laws_of_held seats opened s
      (reached_held seats opened entries s (record { sound = h; held = λ job node. omega arith }) l reached);
  made = made_once seats opened entries h l;
  old = none_made_again seats opened entries h l;
  ended = ended_once seats opened entries h l;
}
