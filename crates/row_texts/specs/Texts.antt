-- Rows of one type as texts.
use Rattle.std.specs.Prelude.{ℕ, List, Result}
use Rattle.serde_json.specs.Data.{Data}
use Rattle.serde_json.specs.Read.{read}
use Rattle.bt_base.specs.Fails.{◌>>=◌}
use Rattle.row_fields.specs.declared.fault.RowFault.{RowFault}
use Rattle.row_fields.specs.Fields.{or_not_a_row}

-- the row that the text is, as JSON
abbrev pub row_in_text : {T : Type 0} → (Data → Result T RowFault) → List ℕ → Result T RowFault
row_in_text in_data text = or_not_a_row (read text) >>= in_data
