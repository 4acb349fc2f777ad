-- The slots that are held on each node.
use Rattle.std.specs.Prelude.{◌≡◌, ℕ, ◌<◌, Bool, true, ◌&&◌, nat_eq, List, sum_by, Option, Some, is_some, if◌then◌else◌}
use Rattle.std.specs.Option.{unwrap_or}
use Rattle.std.specs.List.{list_any}
use Rattle.std.specs.Map.{lookup}
use Rattle.kept_table.specs.Slots.{slot_at, rows}
use Rattle.batch_model.specs.Slots.{owns}
use Rattle.batch_model.specs.Variants.{TaskRow, RunRow}

-- what contracts see of the sums: those of the nodes by their numbers, and how many more nodes can be added without allocating
pub record SumsView : Type 0 where
  pub sums : List (ℕ × ℕ)
  pub room : ℕ

-- the node's sum, if it was added
abbrev pub sum_at : SumsView → ℕ → Option ℕ
sum_at view node = lookup (nat_eq node) view.sums

-- the sum that is kept for the node
abbrev pub kept_sum : SumsView → ℕ → ℕ
kept_sum view node = unwrap_or (sum_at view node) 0

-- the slots that the run holds on the node, if it passes the test
abbrev pub run_held : (RunRow → Bool) → ℕ → RunRow → ℕ
run_held test node run = if nat_eq run.node node && test run then run.slots else 0

-- the slots that the task's runs hold on the node
abbrev pub task_held : List RunRow → ℕ → TaskRow → ℕ
task_held runs node task = sum_by (run_held (λ run. owns run task) node) runs

-- the run is of the present attempt of a placed task
abbrev pub is_owned : List TaskRow → RunRow → Bool
is_owned tasks run = list_any (owns run) tasks

-- the node of the run was added, and its slots are a byte
pub record IsCounted (view : SumsView) (run : RunRow) : Type 0 where
  pub key : is_some (sum_at view run.node) ≡ true
  pub byte : run.slots < 256

-- the nodes of all runs were added
abbrev pub AreCounted : SumsView → List (Option RunRow) → Type 0
AreCounted view slots = (place : ℕ) (run : RunRow) → slot_at slots place ≡ Some run → IsCounted view run

-- the sums are those of the slots that the runs of placed tasks hold
pub record HasHeld (view : SumsView) (tasks : List TaskRow) (slots : List (Option RunRow)) : Type 0 where
  pub held : (node : ℕ) → kept_sum view node ≡ sum_by (run_held (is_owned tasks) node) (rows slots)
  pub counted : AreCounted view slots

-- this many slots more on one node
abbrev pub if_node : ℕ → ℕ → ℕ → ℕ
if_node node slots other = if nat_eq node other then slots else 0

-- the same nodes were added
pub record HasKeys (old new : SumsView) : Type 0 where
  pub keys : (node : ℕ) → is_some (sum_at old node) ≡ true → is_some (sum_at new node) ≡ true
