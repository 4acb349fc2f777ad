-- Tables, and what is kept beside them.
use Rattle.std.specs.Prelude.{◌≤◌, ℕ, List, Option}
use Rattle.first_tree.specs.Ranks.{Ranks}
use Rattle.kept_table.specs.Slots.{rows}
use Rattle.ranked_groups.specs.Items.{GroupsView}
use Rattle.text_chains.specs.Chains.{ChainsView}
use Rattle.batch_model.specs.Variants.{State, TaskRow, RunRow}
use Rattle.run_index.specs.Attempts.{HasRuns}
use Rattle.run_index.specs.Held.{SumsView, HasHeld}
use Rattle.task_index.specs.Over.{AreOver}
use Rattle.task_index.specs.Active.{AreItemsOf}
use Rattle.task_index.specs.Timed.{AreTimed}
use Rattle.run_index.specs.Queued.{AreQueued}
use Rattle.run_index.specs.Asked.{AreAsked}
use Rattle.task_index.specs.Numbered.{HasNumbered}
use Rattle.run_index.specs.Nodes.{HasNodeRuns}

-- what contracts see of the tables: the state, and how many changes can be made without allocating
pub record IndexedView : Type 0 where
  pub state : State
  pub room : ℕ

-- each part is that of these tasks and runs
pub record IsIndexed (tasks : List (Option TaskRow)) (slots : List (Option RunRow)) (view : ChainsView) (groups : GroupsView)
    (ranks : Ranks) (sums : SumsView) (times numbers stops : Ranks) (chains nodes : ChainsView) : Type 0 where
  pub runs : HasRuns view slots
  pub active : AreItemsOf tasks groups.items
  pub over : AreOver (rows slots) tasks ranks.items
  pub held : HasHeld sums (rows tasks) slots
  pub timed : AreTimed tasks times.items
  pub queued : AreQueued slots numbers.items
  pub asked : AreAsked slots stops.items
  pub numbered : HasNumbered chains tasks
  pub on_nodes : HasNodeRuns nodes slots

-- the tables and each part have room for so many changes
pub record HasRoom (room tables runs active over held timed queued asked numbered nodes : ℕ) : Type 0 where
  pub of_tables : room ≤ tables
  pub of_runs : room ≤ runs
  pub of_active : room ≤ active
  pub of_over : room ≤ over
  pub of_held : room ≤ held
  pub of_timed : room ≤ timed
  pub of_queued : room ≤ queued
  pub of_asked : room ≤ asked
  pub of_numbered : room ≤ numbered
  pub of_nodes : room ≤ nodes
