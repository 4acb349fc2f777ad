-- What an event does to retries: the failures of tasks, and the start and preparation runs that are made again.
use Rattle.std.proofs.Common.{ℕ}
use Rattle.bt_rows.specs.declared.event.EventKind.{EventKind}
use Rattle.batch_model.specs.Events.{event_step, at_moment}
use Rattle.batch_model.specs.Sound.{IsSound}
use Rattle.batch_model.specs.Variants.{State, RunRow}
use Rattle.model_laws.specs.Retries.{StartsAgain, PreparesAgain, EventRetries}
use Rattle.model_laws.proofs.MadeRuns.{starts_on, preparations_on}
use Rattle.model_laws.proofs.FailuresByEvents.{failures_by_event}
use Rattle.model_laws.proofs.RunsByEvents.{does_now}

module _ (moment : ℕ) (event : EventKind) (s : State) (made : RunRow) where
  -- the last moment has no part in it
  starts_at : StartsAgain (at_moment moment s) event made → StartsAgain s event made
  starts_at h = record {
    number = h.number;
    ending = h.ending;
    run = h.run;
    node = h.node;
    start = h.start;
    ended = h.ended;
    run_there = h.run_there;
    of_start = h.of_start;
    failed = h.failed;
    node_there = h.node_there;
    start_there = h.start_there;
    left = h.left;
    next = h.next;
    on_node = h.on_node;
  }

  prepares_at : PreparesAgain (at_moment moment s) event made → PreparesAgain s event made
  prepares_at h = record {
    number = h.number;
    ending = h.ending;
    run = h.run;
    prep = h.prep;
    preparation = h.preparation;
    ended = h.ended;
    run_there = h.run_there;
    of_preparation = h.of_preparation;
    failed = h.failed;
    prep_there = h.prep_there;
    preparation_there = h.preparation_there;
    left = h.left;
    next = h.next;
    on_node = h.on_node;
    of_job = h.of_job;
  }

-- no event raises the failures of a task, and start and preparation runs are only made again after a failure that left a retry
pub event_retries : (seats moment : ℕ) (event : EventKind) (s : State) → IsSound seats s → EventRetries s event (event_step moment event s).state
event_retries seats moment event s h = record {
  failures = λ job id. failures_by_event job id moment event s h.consistent.keys.tasks;
  starts =
      λ number made found from start. starts_at moment event s made
      (starts_on (at_moment moment s) (at_moment moment s) event h.consistent.numbers.runs (event_step moment event s).state
      (does_now (at_moment moment s) h.consistent.keys.runs event) number made found from start);
  preparations =
      λ number made found from prep. prepares_at moment event s made
      (preparations_on (at_moment moment s) (at_moment moment s) event h.consistent.numbers.runs (event_step moment event s).state
      (does_now (at_moment moment s) h.consistent.keys.runs event) number made found from prep);
}
