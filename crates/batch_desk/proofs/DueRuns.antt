-- Due steps, one after the other.
use Rattle.std.proofs.Common.{◌≡◌, ℕ, zero, suc, ◌<◌, List, [], ◌∷◌, ◌++◌, Option, None, Some, length, refl, ap, ◌∙◌, sym, subst, add-one}
use Rattle.std.proofs.lemmas.List.{length_push}
use Rattle.std.specs.Option.{option_map, option_map_or}
use Rattle.bt_base.proofs.Turns.{turns, turns-fall}
use Rattle.bt_rows.specs.declared.due.Due.{Due}
use Rattle.batch_model.specs.Dues.{due_step}
use Rattle.batch_model.specs.Measure.{rank}
use Rattle.batch_model.specs.Steps.{DueStep}
use Rattle.batch_model.specs.Variants.{State}
use Rattle.model_rules.proofs.DueSound.{falls_by_due}
use Rattle.batch_desk.specs.History.{due_state, due_list}
use Rattle.batch_desk.specs.Turns.{MakesDue}

-- the tables after the due step
next_state : ℕ → State → Option State
next_state seats s = option_map (λ (step : DueStep). step.state) (due_step seats s)

-- how many due steps are left
pub turns_left : ℕ → State → ℕ
turns_left seats s = turns (next_state seats) rank s

next_is : (seats : ℕ) (s : State) (step : DueStep) → due_step seats s ≡ Some step → next_state seats s ≡ Some step.state
unfolding next_state
next_is seats s step e = ap (λ o. option_map (λ (x : DueStep). x.state) o) e

-- a due step leaves fewer of them
pub turn_falls : (seats : ℕ) (old new : State) (due : Due) → MakesDue seats old new due → turns_left seats new < turns_left seats old
unfolding turns_left
turn_falls seats old new due m =
    let step : DueStep = record { due = due; state = new } in
    turns-fall (next_state seats) rank old new (next_is seats old step m.applies) (falls_by_due seats old step m.sound m.applies)

-- after n steps from s, the next one is this
pub record IsNext (seats n : ℕ) (s : State) (step : DueStep) : Type 0 where
  pub state : due_state seats (suc n) s ≡ step.state
  pub dues : due_list seats (suc n) s ≡ due_list seats n s ++ step.due ∷ []

-- the first of several steps
state_first : (seats n : ℕ) (s : State) (o : Option DueStep) → due_step seats s ≡ o →
    due_state seats (suc n) s ≡ option_map_or (λ (x : DueStep). due_state seats n x.state) o s
state_first seats n s o e = ap (λ w. option_map_or (λ (x : DueStep). due_state seats n x.state) w s) e

list_first : (seats n : ℕ) (s : State) (o : Option DueStep) → due_step seats s ≡ o →
    due_list seats (suc n) s ≡ option_map_or (λ (x : DueStep). x.due ∷ due_list seats n x.state) o []
list_first seats n s o e = ap (λ w. option_map_or (λ (x : DueStep). x.due ∷ due_list seats n x.state) w []) e

none_is_some : (step : DueStep) → None ≡ Some step → ⊥
none_is_some step e = cc

next_from : (seats n : ℕ) (s : State) (step : DueStep) (o : Option DueStep) → due_step seats s ≡ o →
    ((t : State) → due_step seats (due_state seats n t) ≡ Some step → IsNext seats n t step) → due_step seats (due_state seats (suc n) s) ≡ Some step →
    IsNext seats (suc n) s step
next_from seats n s step None e below d =
    absurd (none_is_some step (sym e ∙ (sym (ap (due_step seats) (state_first seats n s None e)) ∙ d)))
next_from seats n s step (Some first) e below d =
    let more = below first.state (subst (λ t. due_step seats t ≡ Some step) (state_first seats n s (Some first) e) d) in
    record {
      state = state_first seats (suc n) s (Some first) e ∙ more.state;
      dues = list_first seats (suc n) s (Some first) e
          ∙ ap (λ w. first.due ∷ w) more.dues
          ∙ sym (ap (λ w. w ++ step.due ∷ []) (list_first seats n s (Some first) e));
    }

next_at : (seats n : ℕ) (s : State) (step : DueStep) → due_step seats (due_state seats n s) ≡ Some step → IsNext seats n s step
next_at seats zero s step d = record { state = state_first seats 0 s (Some step) d; dues = list_first seats 0 s (Some step) d }
next_at seats (suc n) s step d = next_from seats n s step (due_step seats s) refl (λ t. next_at seats n t step) d

-- as many due steps as this list has lead from s to now, and show the list
pub record DuesSo (seats : ℕ) (dues : List Due) (s now : State) : Type 0 where
  pub state : now ≡ due_state seats (length dues) s
  pub list : dues ≡ due_list seats (length dues) s

-- one more
pub dues_more : (seats : ℕ) (dues more : List Due) (s now new : State) (due : Due) → DuesSo seats dues s now → MakesDue seats now new due →
    more ≡ dues ++ due ∷ [] → DuesSo seats more s new
dues_more seats dues more s now new due so made e =
    let step : DueStep = record { due = due; state = new } in
    let next = next_at seats (length dues) s step (ap (due_step seats) (sym so.state) ∙ made.applies) in
    let n : length more ≡ suc (length dues) = ap length e ∙ length_push dues due ∙ add-one (length dues) in
    record {
      state = sym next.state ∙ ap (λ k. due_state seats k s) (sym n);
      list = e ∙ ap (λ w. w ++ due ∷ []) so.list ∙ sym next.dues ∙ ap (λ k. due_list seats k s) (sym n);
    }
