-- Pools and their nodes.
use Rattle.std.specs.Prelude.{ℕ, List, [], ◌∷◌, replicate, codes, false}
use Rattle.bt_rows.specs.declared.event.EventKind.TheVariants.{AddPool, End}
use Rattle.bt_rows.specs.declared.reply.Reply.{Reply}
use Rattle.bt_rows.specs.declared.reply.Reply.TheVariants.{Status, Refused}
use Rattle.bt_rows.specs.declared.refusal.Table.TheVariants.{Pools}
use Rattle.bt_rows.specs.declared.refusal.Refusal.TheVariants as refusal
use Rattle.bt_rows.specs.declared.due.ResizeEnd.TheVariants.{Reached}
use Rattle.bt_rows.specs.declared.due.Due.TheVariants.{PoolResized, NodeAdded}
use Rattle.batch_model.specs.Variants.{State, empty_state, Steady, Resizing, Usable, NoCode}
use Rattle.batch_model.specs.Pools.{new_pool}
use Rattle.batch_model.specs.Events.{event_step}
use Rattle.model_scripts.specs.Scripts.{Call, at, Line, line, Sheet}
use Rattle.model_scripts.specs.Bodies.{pool_body}

-- ids are the same but for case
abbrev pub same_pool : List Call
same_pool =
    at 0 (AddPool (pool_body (codes "Render") 0))
    ∷ at 0 (AddPool (pool_body (codes "render") 0))
    ∷ []

abbrev pub same_pool_lines : List Line
same_pool_lines =
    line (Status 201) []
    ∷ line (Refused refusal.PoolExists) []
    ∷ []

abbrev pub same_pool_rows : Sheet
same_pool_rows = record {
  pools = (codes "Render", false, Steady, 0, 0) ∷ [];
  nodes = [];
  jobs = [];
  tasks = [];
  runs = [];
  moment = 0;
}

-- three nodes
abbrev pub three_nodes : List Call
three_nodes = at 7 (AddPool (pool_body (codes "p") 3)) ∷ []

abbrev pub three_nodes_lines : List Line
three_nodes_lines =
    line (Status 201) (NodeAdded (codes "p") 1 1 ∷ NodeAdded (codes "p") 2 2 ∷ NodeAdded (codes "p") 3 3 ∷ PoolResized (codes "p") Reached ∷ [])
    ∷ []

abbrev pub three_nodes_rows : Sheet
three_nodes_rows = record {
  pools = (codes "p", false, Steady, 3, 7) ∷ [];
  nodes = (1, codes "p", 1, Usable) ∷ (2, codes "p", 2, Usable) ∷ (3, codes "p", 3, Usable) ∷ [];
  jobs = [];
  tasks = [];
  runs = [];
  moment = 7;
}

-- eight seats for forty nodes
abbrev pub too_few_seats : List Call
too_few_seats =
    at 0 (AddPool (pool_body (codes "p") 40))
    ∷ at 1 (End 1 NoCode)
    ∷ []

abbrev pub too_few_seats_lines : List Line
too_few_seats_lines =
    line (Status 201)
    (NodeAdded (codes "p") 1 1
    ∷ NodeAdded (codes "p") 2 2
    ∷ NodeAdded (codes "p") 3 3
    ∷ NodeAdded (codes "p") 4 4
    ∷ NodeAdded (codes "p") 5 5
    ∷ NodeAdded (codes "p") 6 6
    ∷ NodeAdded (codes "p") 7 7
    ∷ NodeAdded (codes "p") 8 8
    ∷ [])
    ∷ line (Refused refusal.RunNotFound) []
    ∷ []

abbrev pub too_few_seats_rows : Sheet
too_few_seats_rows = record {
  pools = (codes "p", false, Resizing, 40, 0) ∷ [];
  nodes =
      (1, codes "p", 1, Usable)
      ∷ (2, codes "p", 2, Usable)
      ∷ (3, codes "p", 3, Usable)
      ∷ (4, codes "p", 4, Usable)
      ∷ (5, codes "p", 5, Usable)
      ∷ (6, codes "p", 6, Usable)
      ∷ (7, codes "p", 7, Usable)
      ∷ (8, codes "p", 8, Usable)
      ∷ [];
  jobs = [];
  tasks = [];
  runs = [];
  moment = 1;
}

-- five of the eight seats are taken when a pool of four comes
abbrev pub shared_seats : List Call
shared_seats =
    at 0 (AddPool (pool_body (codes "p") 5))
    ∷ at 1 (AddPool (pool_body (codes "q") 4))
    ∷ []

abbrev pub shared_seats_lines : List Line
shared_seats_lines =
    line (Status 201)
    (NodeAdded (codes "p") 1 1
    ∷ NodeAdded (codes "p") 2 2
    ∷ NodeAdded (codes "p") 3 3
    ∷ NodeAdded (codes "p") 4 4
    ∷ NodeAdded (codes "p") 5 5
    ∷ PoolResized (codes "p") Reached
    ∷ [])
    ∷ line (Status 201) (NodeAdded (codes "q") 6 6 ∷ NodeAdded (codes "q") 7 7 ∷ NodeAdded (codes "q") 8 8 ∷ [])
    ∷ []

abbrev pub shared_seats_rows : Sheet
shared_seats_rows = record {
  pools = (codes "p", false, Steady, 5, 0) ∷ (codes "q", false, Resizing, 4, 1) ∷ [];
  nodes =
      (1, codes "p", 1, Usable)
      ∷ (2, codes "p", 2, Usable)
      ∷ (3, codes "p", 3, Usable)
      ∷ (4, codes "p", 4, Usable)
      ∷ (5, codes "p", 5, Usable)
      ∷ (6, codes "q", 6, Usable)
      ∷ (7, codes "q", 7, Usable)
      ∷ (8, codes "q", 8, Usable)
      ∷ [];
  jobs = [];
  tasks = [];
  runs = [];
  moment = 1;
}

-- so many pools, which only their number tells apart from sound ones
abbrev pub with_pools : ℕ → State
with_pools count = record empty_state { pools = replicate count (new_pool 0 (pool_body (codes "p") 0)) }

-- one more
abbrev pub reply_among : ℕ → Reply
reply_among count = (event_step 0 (AddPool (pool_body (codes "q") 0)) (with_pools count)).reply

abbrev pub is_added : Reply
is_added = Status 201

abbrev pub is_full : Reply
is_full = Refused (refusal.TableFull Pools 64)
