-- Each run number is given once in a legal history from sound tables.
use Rattle.std.proofs.Common.{◌≡◌, ◌≤◌, ◌<◌, ℕ, zero, suc, Bool, true, false, ◌&&◌, nat_lt, List, [], ◌∷◌, ◌++◌}
use Rattle.std.proofs.Common.{Option, Some, None, is_some, is_none, refl, subst, arith}
use Rattle.std.proofs.lemmas.Bool.Decides.{Decides-ltb}
use Rattle.std.specs.Option.{option_map_or}
use Rattle.batch_model.specs.Steps.{DueStep}
use Rattle.batch_model.specs.Dues.{due_step}
use Rattle.batch_model.specs.Rows.{is_run, run_of}
use Rattle.batch_model.specs.Sound.{IsSound}
use Rattle.batch_model.specs.Variants.{State, RunRow}
use Rattle.model_lists.proofs.NextNumbers.{equal_below}
use Rattle.model_lists.proofs.RowLists.{each_found, find_test}
use Rattle.model_lists.proofs.Tests.{and_second}
use Rattle.model_rules.proofs.DueSound.{sound_by_due}
use Rattle.model_events.proofs.EventSound.{sound_by_event}
use Rattle.model_laws.specs.Runs.{KeepsRuns}
use Rattle.model_laws.proofs.RunsByEvents.{event_keeps_runs}
use Rattle.model_laws.proofs.RunsByDues.{due_keeps_runs}
use Rattle.batch_desk.specs.declared.entry.Entry.{Entry}
use Rattle.batch_desk.specs.declared.entry.Mark.{Mark}
use Rattle.batch_desk.specs.declared.entry.Mark.TheVariants.{Done, KeeperFault as NotKept}
use Rattle.batch_desk.specs.History.{due_state, after_event, after_call, IsCall, IsLegal}
use Rattle.batch_desk.proofs.KeptThrough.{sound_after_call}
use Rattle.batch_desk.specs.Once.{due_trace, call_trace, trace, makes, times_made, MakesRunsOnce, MakesNoOldRuns}

-- a step leads to sound tables and makes no run with a number that was given
pub record Follows (seats : ℕ) (before after : State) : Type 0 where
  pub sound : IsSound seats after
  pub keeps : KeepsRuns before after

-- each of these tables follows the one before it
abbrev pub IsChain : ℕ → State → List State → Type 0
IsChain seats s [] = Unit {0}
IsChain seats s (t ∷ ts) = Follows seats s t × IsChain seats t ts

module _ (seats number : ℕ) where
  -- a run's number was given
  given : (s : State) (run : RunRow) → IsSound seats s → run_of s number ≡ Some run → number < s.next_run
  given s run h e =
      (Decides-ltb number s.next_run).0
      (equal_below run.number number s.next_run (find_test (is_run number) run s.runs e)
      (each_found (λ other. nat_lt other.number s.next_run) (is_run number) run s.runs e h.consistent.numbers.runs))

  -- a step that makes no run with this number if there is none before
  makes_none : (o p : Option RunRow) → (o ≡ None → p ≡ None) → (is_none o && is_some p) ≡ false
  makes_none None p gone = rw (gone refl) refl
  makes_none (Some run) p gone = refl

  -- a number that was given is not given again
  not_again : (s : State) (ts : List State) → number < s.next_run → IsChain seats s ts → times_made number s ts ≡ 0
  not_again s [] before chain = refl
  not_again s (t ∷ ts) before chain =
      let none : makes number s t ≡ false = makes_none (run_of s number) (run_of t number) (chain.0.keeps.gone number before) in
      let counter : s.next_run ≤ t.next_run = chain.0.keeps.counter in
      let later : times_made number t ts ≡ 0 = not_again t ts (omega (arith, before, counter)) chain.1 in
      rw (none, later) refl

  -- a run that is there has a number that was given
  given_some : (s : State) (o : Option RunRow) → IsSound seats s → run_of s number ≡ o → is_some o ≡ true → number < s.next_run
  given_some s None h e some = cc
  given_some s (Some run) h e some = given s run h e

  -- whether the first step makes it or not
  by_first : (s t : State) (ts : List State) (b : Bool) → makes number s t ≡ b → IsSound seats t → IsChain seats t ts → times_made number t ts ≤ 1 →
      times_made number s (t ∷ ts) ≤ 1
  by_first s t ts true e h chain later =
      let after : number < t.next_run = given_some t (run_of t number) h refl (and_second (is_none (run_of s number)) (is_some (run_of t number)) e) in
      let none : times_made number t ts ≡ 0 = not_again t ts after chain in
      rw (e, none) (omega arith)
  by_first s t ts false e h chain later = rw e (omega (arith, later))

  -- at most one of the steps makes it
  once : (s : State) (ts : List State) → IsChain seats s ts → times_made number s ts ≤ 1
  once s [] chain = omega arith
  once s (t ∷ ts) chain = by_first s t ts (makes number s t) refl chain.0.sound chain.1 (once t ts chain.1)

module _ (seats : ℕ) where
  -- due steps, and what comes after them
  step_chain : (n : ℕ) (s : State) (rest : List State) (o : Option DueStep) → due_step seats s ≡ o → IsSound seats s →
      ((t : State) → IsSound seats t → IsChain seats (due_state seats n t) rest → IsChain seats t (due_trace seats n t ++ rest)) →
      IsChain seats (option_map_or (λ (step : DueStep). due_state seats n step.state) o s) rest →
      IsChain seats s (option_map_or (λ (step : DueStep). step.state ∷ due_trace seats n step.state) o [] ++ rest)
  step_chain n s rest None e h more chain = chain
  step_chain n s rest (Some step) e h more chain =
      let sound : IsSound seats step.state = sound_by_due seats s step h e in
      (record { sound = sound; keeps = due_keeps_runs seats s step h e }, more step.state sound chain)

  dues_chain : (n : ℕ) (s : State) (rest : List State) → IsSound seats s → IsChain seats (due_state seats n s) rest →
      IsChain seats s (due_trace seats n s ++ rest)
  dues_chain zero s rest h chain = chain
  dues_chain (suc n) s rest h chain = step_chain n s rest (due_step seats s) refl h (λ t. dues_chain n t rest) chain

  -- a call, and what comes after it
  call_chain : (s : State) (e : Entry) (rest : List State) (mark : Mark) → e.mark ≡ mark → IsSound seats s → IsCall seats s e →
      IsChain seats (after_call seats s e) rest → IsChain seats s (call_trace seats s e ++ rest)
  call_chain s e rest NotKept is h c chain =
      let stays : after_call seats s e ≡ s = rw is refl in
      rw is (subst (λ t. IsChain seats t rest) stays chain)
  call_chain s e rest (Done refusal) is h c chain =
      let made : after_call seats s e ≡ due_state seats e.dues (after_event s e) = rw is refl in
      let sound : IsSound seats (after_event s e) = sound_by_event seats e.moment e.event s c.0.last c.0.ranges h in
      rw is (
        record { sound = sound; keeps = event_keeps_runs seats e.moment e.event s h },
        dues_chain e.dues (after_event s e) rest sound (subst (λ t. IsChain seats t rest) made chain),
      )

  -- a history
  history_chain : (s : State) (entries : List Entry) → IsSound seats s → IsLegal seats s entries → IsChain seats s (trace seats s entries)
  history_chain s [] h l = tt
  history_chain s (e ∷ es) h l =
      call_chain s e (trace seats (after_call seats s e) es) e.mark refl h l.0
      (history_chain (after_call seats s e) es (sound_after_call seats s e h l.0) l.1)

pub made_once : (seats : ℕ) (opened : State) (entries : List Entry) → IsSound seats opened → IsLegal seats opened entries → MakesRunsOnce seats opened entries
made_once seats opened entries h l number = once seats number opened (trace seats opened entries) (history_chain seats opened entries h l)

-- none is given again that was given before
pub none_made_again : (seats : ℕ) (opened : State) (entries : List Entry) → IsSound seats opened → IsLegal seats opened entries →
    MakesNoOldRuns seats opened entries
none_made_again seats opened entries h l number old =
    not_again seats number opened (trace seats opened entries) old (history_chain seats opened entries h l)
