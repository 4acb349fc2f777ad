-- Pages of lists of items (Azure Batch REST reference: maxresults; that a list goes on after an id is this project's own).
use Rattle.std.specs.Prelude.{ℕ, ◌-◌, Bool, List, length, take, slice_get, Option, Some, None, nat_lt, if◌then◌else◌}
use Rattle.std.specs.List.{after_first}
use Rattle.std.specs.Option.{option_and_then}
use Rattle.batch_model.specs.Finding.{names}
use Rattle.bt_rows.specs.declared.reply.Item.{Item}
use Rattle.bt_rows.specs.declared.reply.Item.TheVariants as items
use Rattle.bt_rows.specs.declared.reply.Reply.{Reply}
use Rattle.bt_rows.specs.declared.reply.Reply.TheVariants as replies
use Rattle.wire_words.specs.Nodes.{node_id}
use Rattle.table_reads.specs.declared.request.Listing.{Listing}

-- the id of an item of a list; counts are in no list
abbrev pub item_id : Item → Option (List ℕ)
item_id (items.Pool pool) = Some pool.id
item_id (items.Node node) = Some (node_id node.number)
item_id (items.Job job) = Some job.id
item_id (items.Task task) = Some task.id
item_id (items.Counts counts) = None

-- the item has this id, compared without regard to case
abbrev pub has_id : List ℕ → Item → Bool
has_id id item = names (item_id item) id

-- the items after the one with this id, none if it is not there; all items if no id is given
abbrev pub items_after : Option (List ℕ) → List Item → List Item
items_after None all = all
items_after (Some id) all = after_first (has_id id) all

-- the id of the last item
abbrev pub last_id : List Item → Option (List ℕ)
last_id shown = option_and_then item_id (slice_get shown (length shown - 1))

-- the first items, at most `count`, and the id of the last of them if more follow
abbrev pub first_page : ℕ → List Item → Reply
first_page count all = replies.Page (take count all) (if nat_lt count (length all) then last_id (take count all) else None)

-- the page that the listing asks for
abbrev pub page_of : Listing → List Item → Reply
page_of listing all = first_page listing.count (items_after listing.after all)
