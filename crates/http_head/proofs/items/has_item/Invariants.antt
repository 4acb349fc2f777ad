use Rattle.std.proofs.Common.{◌≡◌, length}
use Rattle.http_head.specs.Items.{has_item}
use Rattle.http_head.proofs.items.has_item.Given as goal

abbrev pub invariant-items : goal.invariant-items
invariant-items l = has_item l.name l.rest ≡ has_item l.name l.value

abbrev pub decreases-items : goal.decreases-items
decreases-items l = length l.rest
