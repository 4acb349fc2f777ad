use Rattle.std.proofs.Common.{◌≡◌, length, IsUtf8}
use Rattle.http_routes.specs.Targets.{segment_at}
use Rattle.http_routes.proofs.target.path_segment.Given as goal

abbrev pub invariant-segments : goal.invariant-segments
invariant-segments l = (segment_at l.left l.rest ≡ segment_at l.place l.path) × IsUtf8 l.rest

abbrev pub decreases-segments : goal.decreases-segments
decreases-segments l = length l.rest
