-- No event makes a release run of a job on a node.
use Rattle.std.proofs.Common.{ℕ, ◌≤◌, List}
use Rattle.bt_rows.specs.declared.event.EventKind.{EventKind}
use Rattle.batch_model.specs.Events.{event_step, at_moment}
use Rattle.batch_model.specs.Sound.{IsSound}
use Rattle.batch_model.specs.Variants.{State}
use Rattle.model_laws.specs.Releases.{releases_of}
use Rattle.model_laws.proofs.MadeRuns.{releases_on}
use Rattle.model_laws.proofs.RunsByEvents.{does_now}

-- after an event there are no more of them; some go with their task
pub few_by_event : (job : List ℕ) (node seats moment : ℕ) (event : EventKind) (s : State) → IsSound seats s
    → releases_of (event_step moment event s).state job node ≤ releases_of s job node
few_by_event job node seats moment event s h =
    releases_on (at_moment moment s) (at_moment moment s) event job node (event_step moment event s).state
    (does_now (at_moment moment s) h.consistent.keys.runs event)
