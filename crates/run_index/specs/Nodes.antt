-- The places of the runs on each node.
use Rattle.std.specs.Prelude.{◌≡◌, ℕ, Bool, ◌&&◌, nat_eq, List, Option, Some}
use Rattle.std.specs.List.{Contains, filter_map, list_any}
use Rattle.kept_table.specs.Keys.{number_text}
use Rattle.kept_table.specs.Slots.{slot_at}
use Rattle.text_chains.specs.Chains.{ChainsView, places_of}
use Rattle.batch_model.specs.Variants.{RunRow}

-- each run is at one of the places of its node
pub record HasNodeRuns (view : ChainsView) (slots : List (Option RunRow)) : Type 0 where
  pub has : (place : ℕ) (run : RunRow) → slot_at slots place ≡ Some run → Contains (places_of view (number_text run.node)) place

-- the run is on the node
abbrev pub is_on_node : ℕ → RunRow → Bool
is_on_node node run = nat_eq run.node node

-- the runs at the places, in their order
abbrev pub runs_at : List (Option RunRow) → List ℕ → List RunRow
runs_at slots places = filter_map (slot_at slots) places

-- a run on the node that passes a test is among the first runs exactly if one is among the others
abbrev pub AreOnNode : ℕ → (some all : List RunRow) → Type 0
AreOnNode node some all = (test : RunRow → Bool) → list_any (λ run. is_on_node node run && test run) some ≡ list_any (λ run. is_on_node node run && test run) all
