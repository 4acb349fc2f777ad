-- Arrays that are being written.
use Rattle.serde_json.specs.Data.{Items}
use Rattle.serde_json.specs.View.{items_view}
use Rattle.row_fields.specs.declared.array.ArrayBuilder.{ArrayBuilder}

-- the items so far
abbrev pub items_built : ArrayBuilder → Items
items_built array = items_view array.values.items
