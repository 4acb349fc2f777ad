use Rattle.kept_table.proofs.Listed.{as_listed}
use Rattle.kept_table.proofs.table.places_are_lists.Goals as goal

pub returns : goal.returns
returns g c = as_listed g.row.R.Denot
