use Rattle.std.proofs.Common.{◌≡◌, Some}
use Rattle.std.specs.List.{position}
use Rattle.keeper_store.specs.Lists.{has_key}
use Rattle.keeper_store.proofs.Places.{set_is_put}
use Rattle.keeper_store.proofs.entries.put_entry.Goals as goal

pub returns-in-Some : goal.returns-in-Some
returns-in-Some c =
    let search_gave = c.place_of.ensures in
    let place = c.in-Some.is in
    let items = c.as_slice.ensures.value in
    let key = c.as_str.ensures in
    let found : position (has_key c.args.entry.key) c.args.entries.now.items ≡ Some c.in-Some.place = cc in
    set_is_put (has_key c.args.entry.key) c.args.entries.now.items c.args.entry c.in-Some.place found
