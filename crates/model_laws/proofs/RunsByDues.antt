-- A due step gives new numbers to the runs that it makes, and an ended run stays ended.
use Rattle.std.proofs.Common.{◌≡◌, ℕ, ◌<◌, ◌≤◌, Bool, true, false, not, ◌&&◌, nat_eq, Some, refl, arith}
use Rattle.std.proofs.lemmas.Bool.Decides.{nat_tests}
use Rattle.batch_model.specs.Dues.{due_step}
use Rattle.batch_model.specs.Rows.{is_run}
use Rattle.batch_model.specs.Runs.{is_ended}
use Rattle.batch_model.specs.Sound.{IsSound}
use Rattle.batch_model.specs.Steps.{DueStep}
use Rattle.batch_model.specs.Variants.{State, RunRow}
use Rattle.model_laws.specs.Runs.{KeepsRuns}
use Rattle.model_laws.proofs.LastingByDues.{stays, counter_by_due, RefusesNew, no_more_by_due}
use Rattle.model_laws.proofs.LastingRuns.{IsLasting, HasNoMore, number_lasts, is_open_run, open_lasts, still_gone, still_closed}
use Rattle.model_laws.proofs.SameRuns.{same_run_later}

-- the first of two tests does not pass
first_fails : (a b : Bool) → a ≡ false → (a && b) ≡ false
first_fails true b e = cc
first_fails false b e = refl

-- a higher number is another
other_number : (number next given : ℕ) → number < next → next ≤ given → nat_eq given number ≡ false
other_number number next given h k = grind (arith, nat_tests)

module _ (s : State) where
  -- no new run has such a number
  refuses_number : (number : ℕ) → number < s.next_run → RefusesNew (is_run number) s
  refuses_number number old = record {
    release = λ node job release. other_number number s.next_run s.next_run old (stays s.next_run s.next_run refl);
    start = λ seat pool start. other_number number s.next_run s.next_run old (stays s.next_run s.next_run refl);
    preparation = λ job node preparation absent. other_number number s.next_run s.next_run old (stays s.next_run s.next_run refl);
    work = λ node task t state later. other_number number s.next_run t.next_run old later;
  }

  -- so none passes a test that only runs with the number pass
  refuses_with : (test : RunRow → Bool) (number : ℕ) → ((run : RunRow) → nat_eq run.number number ≡ false → test run ≡ false) → number < s.next_run
      → RefusesNew test s
  refuses_with test number of_number old =
      let refuses : RefusesNew (is_run number) s = refuses_number number old in
      record {
        release = λ node job release. of_number _ (refuses.release node job release);
        start = λ seat pool start. of_number _ (refuses.start seat pool start);
        preparation = λ job node preparation absent. of_number _ (refuses.preparation job node preparation absent);
        work = λ node task t state later. of_number _ (refuses.work node task t state later);
      }

  -- so no more runs pass such a test after a due step
  no_more_with : (seats : ℕ) (step : DueStep) → due_step seats s ≡ Some step → (number : ℕ) → number < s.next_run → (test : RunRow → Bool) → IsLasting test
      → ((run : RunRow) → nat_eq run.number number ≡ false → test run ≡ false) → HasNoMore test s step.state
  no_more_with seats step e number old test lasts of_number = no_more_by_due test lasts seats s step (refuses_with test number of_number old) e

-- each number is given once, and each run ends once
pub due_keeps_runs : (seats : ℕ) (s : State) (step : DueStep) → IsSound seats s → due_step seats s ≡ Some step → KeepsRuns s step.state
due_keeps_runs seats s step h e = record {
  counter = counter_by_due seats s step e;
  gone =
      λ number old gone_before.
      still_gone number s step.state (no_more_with s seats step e number old (is_run number) (number_lasts number) (λ run other. other)) gone_before;
  same = λ number run old. same_run_later number s step.state h.consistent.keys.runs (no_more_with s seats step e number old) run;
  closed =
      λ number old closed_before.
      still_closed number s step.state
      (no_more_with s seats step e number old (is_open_run number) (open_lasts number)
      (λ run other. first_fails (nat_eq run.number number) (not (is_ended run.state)) other))
      closed_before;
}
