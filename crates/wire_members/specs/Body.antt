-- The bytes of a body.
use Rattle.std.specs.Prelude.{ℕ, List, Option, Some, None, Result, Ok, Err, option_and_then}
use Rattle.bt_base.specs.Utf8.{utf8_text}
use Rattle.serde_json.specs.Data.{Data, null, boolean, number, string, array, object}
use Rattle.serde_json.specs.Read.{read}
use Rattle.bt_rows.specs.declared.refusal.Refusal.{Refusal}
use Rattle.bt_rows.specs.declared.refusal.Refusal.TheVariants.{UnreadableBody}

-- the value, if it is an object
abbrev pub if_object : Data → Result Data Refusal
if_object null = Err UnreadableBody
if_object (boolean b) = Err UnreadableBody
if_object (number n) = Err UnreadableBody
if_object (string s) = Err UnreadableBody
if_object (array ds) = Err UnreadableBody
if_object (object ms) = Ok (object ms)

-- a value that is an object; None is a text that is not JSON
abbrev pub object_or_unreadable : Option Data → Result Data Refusal
object_or_unreadable None = Err UnreadableBody
object_or_unreadable (Some d) = if_object d

-- the JSON object that the bytes are, as `serde_json` reads it
abbrev pub object_of : List ℕ → Result Data Refusal
object_of bytes = object_or_unreadable (option_and_then read (utf8_text bytes))
