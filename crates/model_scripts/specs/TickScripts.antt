-- Ticks, and resizes that time out.
use Rattle.std.specs.Prelude.{List, [], ◌∷◌, map, codes, Option, Some, false}
use Rattle.bt_rows.specs.declared.event.EventKind.TheVariants.{AddPool, Tick}
use Rattle.bt_rows.specs.declared.reply.Reply.TheVariants.{Status}
use Rattle.bt_rows.specs.declared.due.ResizeEnd.TheVariants.{TimedOut}
use Rattle.bt_rows.specs.declared.due.Due.TheVariants.{PoolResized, NodeAdded}
use Rattle.batch_model.specs.Variants.{State, Steady, ResizeError, AllocationTimedOut, PoolRow, Usable}
use Rattle.model_scripts.specs.Scripts.{Call, at, Line, line, Sheet, state_after}
use Rattle.model_scripts.specs.Bodies.{pool_body}

-- ticks, one of them back
abbrev pub ticks : List Call
ticks = at 5 Tick ∷ at 3 Tick ∷ at 9 Tick ∷ at 7 Tick ∷ []

abbrev pub ticks_lines : List Line
ticks_lines = line (Status 200) [] ∷ line (Status 200) [] ∷ line (Status 200) [] ∷ line (Status 200) [] ∷ []

abbrev pub ticks_rows : Sheet
ticks_rows = record { pools = []; nodes = []; jobs = []; tasks = []; runs = []; moment = 9 }

-- eight seats for forty nodes, one millisecond before the timeout is over, then, and later
abbrev pub long_resize : List Call
long_resize =
    at 0 (AddPool (pool_body (codes "p") 40))
    ∷ at 899999 Tick
    ∷ at 900000 Tick
    ∷ at 1800000 Tick
    ∷ []

abbrev pub long_resize_lines : List Line
long_resize_lines =
    line (Status 201)
    (NodeAdded (codes "p") 1 1
    ∷ NodeAdded (codes "p") 2 2
    ∷ NodeAdded (codes "p") 3 3
    ∷ NodeAdded (codes "p") 4 4
    ∷ NodeAdded (codes "p") 5 5
    ∷ NodeAdded (codes "p") 6 6
    ∷ NodeAdded (codes "p") 7 7
    ∷ NodeAdded (codes "p") 8 8
    ∷ [])
    ∷ line (Status 200) []
    ∷ line (Status 200) (PoolResized (codes "p") TimedOut ∷ [])
    ∷ line (Status 200) []
    ∷ []

abbrev pub long_resize_rows : Sheet
long_resize_rows = record {
  pools = (codes "p", false, Steady, 40, 0) ∷ [];
  nodes =
      (1, codes "p", 1, Usable)
      ∷ (2, codes "p", 2, Usable)
      ∷ (3, codes "p", 3, Usable)
      ∷ (4, codes "p", 4, Usable)
      ∷ (5, codes "p", 5, Usable)
      ∷ (6, codes "p", 6, Usable)
      ∷ (7, codes "p", 7, Usable)
      ∷ (8, codes "p", 8, Usable)
      ∷ [];
  jobs = [];
  tasks = [];
  runs = [];
  moment = 1800000;
}

-- the errors of pools
abbrev pub errors_of : State → List (Option ResizeError)
errors_of s = map (λ (pool : PoolRow). pool.error) s.pools

abbrev pub long_resize_errors : List (Option ResizeError)
long_resize_errors = errors_of (state_after long_resize)

abbrev pub timed_out_once : List (Option ResizeError)
timed_out_once = Some AllocationTimedOut ∷ []
