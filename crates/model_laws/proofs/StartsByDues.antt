-- A due step makes start runs with new nodes alone, and preparation runs with preparations that begin.
use Rattle.std.proofs.Common.{◌≡◌, ℕ, Bool, true, false, not, nat_eq, nat_lt, nat_le, List, Option, Some, None, is_some, is_none, refl, subst}
use Rattle.std.proofs.Common.{arith}
use Rattle.std.specs.Option.{option_map_or}
use Rattle.std.proofs.lemmas.Bool.Decides.{nat_tests}
use Rattle.batch_model.specs.Dues.{due_step}
use Rattle.batch_model.specs.Rows.{is_node, node_of, prep_of}
use Rattle.batch_model.specs.Runs.{is_start, is_preparation}
use Rattle.batch_model.specs.Sound.{IsSound, NumbersAreNew}
use Rattle.batch_model.specs.Steps.{DueStep}
use Rattle.batch_model.specs.Variants.{State, NodeRow, RunRow, PrepRow}
use Rattle.model_lists.proofs.NextNumbers.{is_itself}
use Rattle.model_lists.proofs.RowLists.{none_any, each_weaker}
use Rattle.model_laws.specs.Retries.{DueRetries, StartsFirst, PreparesFirst}
use Rattle.model_laws.proofs.FailuresByDues.{failures_by_due}
use Rattle.model_laws.proofs.LastingByDues.{RefusesNew, no_more_by_due}
use Rattle.model_laws.proofs.LastingRuns.{lasting_if_fixed, nothing_found}
use Rattle.model_laws.proofs.MadeWithRows.{not_refused, is_stray, allowed_after, has_its_node, nodes_there, has_its_preparation, preparations_there}

-- start runs

-- the run is on the node that comes next
abbrev is_on_new_node : State → RunRow → Bool
is_on_new_node s run = nat_eq run.node s.next_node

new_starts : (s : State) → RefusesNew (is_stray s is_start (is_on_new_node s)) s
new_starts s = record {
  release = λ node job release. refl;
  start = λ seat pool start. not_refused (nat_le s.next_run s.next_run) (nat_eq s.next_node s.next_node) (is_itself s.next_node);
  preparation = λ job node preparation absent. refl;
  work = λ node task t state later. refl;
}

-- a node with a lower number than the next is not the next
not_next : (number next node : ℕ) → nat_eq node next ≡ true → nat_lt number next ≡ true → not (nat_eq number node) ≡ true
not_next number next node e h = let k : nat_eq number node ≡ false = grind (arith, nat_tests) in rw k refl

-- such a node is not there yet
not_there : (s : State) → NumbersAreNew s → (node : ℕ) → nat_eq node s.next_node ≡ true → node_of s node ≡ None
not_there s new node e =
    nothing_found (is_node node) s.nodes
    (none_any (is_node node) s.nodes
    (each_weaker (λ (row : NodeRow). nat_lt row.number s.next_node) (λ row. not (is_node node row))
    (λ row below. not_next row.number s.next_node node e below) s.nodes new.nodes))

-- preparation runs

-- the preparation of the run's job on its node has not begun
abbrev begins : State → RunRow → Bool
begins s run = option_map_or (λ job. is_none (prep_of s job run.node)) run.job false

-- what is not there
is_absent : {A : Type 0} (o : Option A) → is_some o ≡ false → is_none o ≡ true
is_absent None e = refl
is_absent (Some x) e = cc

absent : {A : Type 0} (o : Option A) → is_none o ≡ true → o ≡ None
absent None e = refl
absent (Some x) e = cc

new_preparations : (s : State) → RefusesNew (is_stray s is_preparation (begins s)) s
new_preparations s = record {
  release = λ node job release. refl;
  start = λ seat pool start. refl;
  preparation =
      λ job node preparation none.
      not_refused (nat_le s.next_run s.next_run) (is_none (prep_of s job.id node.number)) (is_absent (prep_of s job.id node.number) none);
  work = λ node task t state later. refl;
}

-- what is there
is_there : {A : Type 0} (o : Option A) → is_some o ≡ true → (x : A) × (o ≡ Some x)
is_there None e = cc
is_there (Some x) e = (x, refl)

-- a node that was not there and is there afterwards
starts_first : (s t : State) (made : RunRow) → node_of s made.node ≡ None → has_its_node t made ≡ true → StartsFirst s t made
starts_first s t made new e =
    let node : (row : NodeRow) × (node_of t made.node ≡ Some row) = is_there (node_of t made.node) e in
    record { node = node.0; absent = new; there = node.1 }

-- a preparation that begins, by the run's job, and is there afterwards
prepares_first : (s t : State) (made : RunRow) → begins s made ≡ true → has_its_preparation t made ≡ true → PreparesFirst s t made
prepares_first s t made new e = by_job made.job refl
  where
    by_job : (o : Option (List ℕ)) → made.job ≡ o → PreparesFirst s t made
    by_job None is = let n : begins s made ≡ false = rw is refl in cc
    by_job (Some job) is =
        let none : is_none (prep_of s job made.node) ≡ true =
        subst (λ o. option_map_or (λ id. is_none (prep_of s id made.node)) o false ≡ true) is new
        in
        let some : is_some (prep_of t job made.node) ≡ true =
        subst (λ o. option_map_or (λ id. is_some (prep_of t id made.node)) o false ≡ true) is e
        in
        let prep : (row : PrepRow) × (prep_of t job made.node ≡ Some row) = is_there (prep_of t job made.node) some in
        record { job = job; prep = prep.0; of_job = is; absent = absent (prep_of s job made.node) none; there = prep.1 }

-- tasks fail once more only below their limit, and start and preparation runs are made with new nodes and with preparations that begin
pub due_retries : (seats : ℕ) (s : State) (step : DueStep) → IsSound seats s → due_step seats s ≡ Some step → DueRetries s step
due_retries seats s step h e =
    let new : NumbersAreNew s = h.consistent.numbers in
    record {
      failures = λ job id. failures_by_due job id seats s h step e;
      starts =
          λ number made found later kind.
          starts_first s step.state made
          (not_there s new made.node
          (allowed_after s is_start (is_on_new_node s) new step.state
          (no_more_by_due (is_stray s is_start (is_on_new_node s))
          (lasting_if_fixed (is_stray s is_start (is_on_new_node s)) (λ run next stop from to. refl)) seats s step (new_starts s) e)
          number made found later kind))
          (allowed_after s is_start (has_its_node step.state) new step.state (nodes_there s seats step e) number made found later kind);
      preparations =
          λ number made found later kind.
          prepares_first s step.state made
          (allowed_after s is_preparation (begins s) new step.state
          (no_more_by_due (is_stray s is_preparation (begins s))
          (lasting_if_fixed (is_stray s is_preparation (begins s)) (λ run next stop from to. refl)) seats s step (new_preparations s) e)
          number made found later kind)
          (allowed_after s is_preparation (has_its_preparation step.state) new step.state (preparations_there s seats step e)
          number made found later kind);
    }
