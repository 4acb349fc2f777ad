use Rattle.std.proofs.Common.{◌≡◌, Ok, drop}
use Rattle.row_fields.specs.Arrays.{items_built}
use Rattle.row_fields.specs.Fields.{items_data, items_in}
use Rattle.row_fields.proofs.ItemLists.{before}
use Rattle.row_fields.proofs.array.list_values.Given as goal

-- what is written, and what is left to write, is all; and all reads back once the rest does
abbrev pub invariant-loop-field : goal.invariant-loop-field
invariant-loop-field g l =
    let data_of = g.T.Field.data_of in
    let in_data = g.T.Field.in_data in
    let left = drop l.field-index l.list in
    record {
      written : before (items_built l.array) (items_data data_of left) ≡ items_data data_of l.list;
      back : items_in in_data (items_data data_of left) ≡ Ok left → items_in in_data (items_data data_of l.list) ≡ Ok l.list;
    }
