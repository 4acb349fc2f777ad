use Rattle.text_chains.proofs.Covered.{are_covered}
use Rattle.text_chains.proofs.laws.places_cover_rows.Goals as goal

pub returns : goal.returns
returns g c = are_covered g.row.R.Denot
