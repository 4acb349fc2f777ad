-- Texts, ids and command lines as JSON.
use Rattle.std.proofs.Common.{ℕ, List, Result, refl, arith}
use Rattle.std.specs.Result.{result_ok}
use Rattle.serde_json.specs.Data.{Data, string}
use Rattle.serde_json.specs.Find.{as_str}
use Rattle.bt_base.specs.Fails.{◌>>=◌}
use Rattle.bt_base.specs.Ids.{read_id}
use Rattle.bt_base.specs.CommandLines.{command_line_of}
use Rattle.row_fields.specs.declared.fault.RowFault.{RowFault}
use Rattle.row_fields.specs.Fields.{IsPlain, or_not_a_row}

-- a text
abbrev pub text_in : Data → Result (List ℕ) RowFault
text_in d = or_not_a_row (as_str d)

-- a text that is an id
unfoldable pub id_in : Data → Result (List ℕ) RowFault
id_in d = text_in d >>= λ text. or_not_a_row (result_ok (read_id text))

-- a text that is a command line
unfoldable pub command_in : Data → Result (List ℕ) RowFault
command_in d = text_in d >>= λ text. or_not_a_row (command_line_of text)

pub text_plain : (text : List ℕ) → IsPlain 0 (string text)
text_plain text = record { not_null = refl; no_float = refl; nests = omega arith }
