use Rattle.std.proofs.Common.{◌≡◌, length, IsUtf8}
use Rattle.http_routes.specs.Targets.{value_in}
use Rattle.http_routes.proofs.target.query_value.Given as goal

abbrev pub invariant-members : goal.invariant-members
invariant-members l = (value_in l.name l.rest ≡ value_in l.name l.query) × IsUtf8 l.rest

abbrev pub decreases-members : goal.decreases-members
decreases-members l = length l.rest
