-- Tables that are filled with the rows of a store, one put after another.
use Rattle.std.specs.Prelude.{Bool, ◌&&◌, List, [], ◌∷◌, ◌++◌, Option, Some, None, map, length, nat_eq, is_some}
use Rattle.bt_rows.specs.State.{State}
use Rattle.bt_rows.specs.Changes.{apply_changes}
use Rattle.bt_rows.specs.declared.tables.Change.{Change}
use Rattle.bt_rows.specs.declared.tables.Change.TheVariants.{PutPool, PutNode, PutJob, PutTask, PutRun, PutPrep, PutSample, PutScale}
use Rattle.keeper_store.specs.declared.content.Metas.{Metas}
use Rattle.keeper_store.specs.declared.content.Stored.{Stored}
use Rattle.store_keeper.specs.Reading.{number_or, pools_in, nodes_in, jobs_in, tasks_in, runs_in, preps_in, samples_in, scales_in}

-- with the put of the row, if there is one
abbrev pub with_put : {R : Type 0} → (R → Change) → Option R → List Change → List Change
with_put put None puts = puts
with_put put (Some row) puts = puts ++ put row ∷ []

-- with these rows put, if they were read
abbrev pub with_rows : {R : Type 0} → (R → Change) → Option (List R) → State → State
with_rows put None s = s
with_rows put (Some rows) s = apply_changes (map put rows) s

-- each entry of a pool, node, job or task is a row
abbrev pub first_are_rows : Stored → Bool
first_are_rows stored =
    (is_some (pools_in stored.pools) && is_some (nodes_in stored.nodes)) && (is_some (jobs_in stored.jobs) && is_some (tasks_in stored.tasks))

-- each entry is a row
abbrev pub are_rows : Stored → Bool
are_rows stored =
    first_are_rows stored
    && ((is_some (runs_in stored.runs) && is_some (preps_in stored.preps)) && (is_some (samples_in stored.samples) && is_some (scales_in stored.scales)))

-- with the pools, nodes, jobs and tasks put
abbrev pub first_filled : Stored → State → State
first_filled stored s =
    with_rows PutTask (tasks_in stored.tasks) (with_rows PutJob (jobs_in stored.jobs)
    (with_rows PutNode (nodes_in stored.nodes) (with_rows PutPool (pools_in stored.pools) s)))

-- with all rows put
abbrev pub filled : Stored → State → State
filled stored s =
    with_rows PutScale (scales_in stored.scales) (with_rows PutSample (samples_in stored.samples)
    (with_rows PutPrep (preps_in stored.preps) (with_rows PutRun (runs_in stored.runs) (first_filled stored s))))

-- with the numbers beside the rows
abbrev pub numbered : Metas → State → State
numbered metas s = record s { next_node = number_or 1 metas.next_node; next_run = number_or 1 metas.next_run; moment = number_or 0 metas.moment }

-- there are as many rows of each kind as entries
abbrev pub has_all : State → Stored → Bool
has_all s stored =
    ((nat_eq (length s.pools) (length stored.pools) && nat_eq (length s.nodes) (length stored.nodes))
    && (nat_eq (length s.jobs) (length stored.jobs) && nat_eq (length s.tasks) (length stored.tasks)))
    && ((nat_eq (length s.runs) (length stored.runs) && nat_eq (length s.preps) (length stored.preps))
    && (nat_eq (length s.samples) (length stored.samples) && nat_eq (length s.scales) (length stored.scales)))
