-- Room for more rows in each table.
use Rattle.std.specs.Prelude.{◌≤◌}
use Rattle.bt_rows.specs.declared.tables.Tables.TheInside.{Inside}

-- each table takes `room` more rows
pub record HasRoom (t : Inside) : Type 0 where
  pub pools : t.room ≤ t.pools.room
  pub nodes : t.room ≤ t.nodes.room
  pub jobs : t.room ≤ t.jobs.room
  pub tasks : t.room ≤ t.tasks.room
  pub runs : t.room ≤ t.runs.room
  pub preps : t.room ≤ t.preps.room
  pub samples : t.room ≤ t.samples.room
  pub scales : t.room ≤ t.scales.room
