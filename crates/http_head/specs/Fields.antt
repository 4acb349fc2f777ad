-- The fields of a head that are looked at.
use Rattle.std.specs.Prelude.{ℕ, Bool, ◌&&◌, List, map, count_by, nat_lt, codes}
use Rattle.std.specs.Str.{str_eq_ignore_ascii_case}
use Rattle.httparse.specs.Grammar.{RequestHead}
use Rattle.httparse.specs.Spans.{name_and_value}
use Rattle.http_head.specs.declared.names.FieldName.{FieldName}
use Rattle.http_head.specs.declared.names.FieldName.TheVariants.{Host, ContentLength, TransferEncoding, Connection, Origin}
use Rattle.http_head.specs.Items.{has_item}

-- the name of a field, in lower case
unfoldable pub name_text : FieldName → List ℕ
name_text Host = codes "host"
name_text ContentLength = codes "content-length"
name_text TransferEncoding = codes "transfer-encoding"
name_text Connection = codes "connection"
name_text Origin = codes "origin"

-- the field has this name, in any case (RFC 9110, section 5.1)
abbrev pub is_named : FieldName → List ℕ × List ℕ → Bool
is_named name field = str_eq_ignore_ascii_case field.0 (name_text name)

-- how many fields have this name
abbrev pub count_named : FieldName → List (List ℕ × List ℕ) → ℕ
count_named name fields = count_by (is_named name) fields

-- one field at least is an `Origin`, whatever its value (RFC 6454, section 7)
abbrev pub has_origin : List (List ℕ × List ℕ) → Bool
has_origin fields = nat_lt 0 (count_named Origin fields)

unfoldable pub close_text : List ℕ
close_text = codes "close"

-- the field is a `Connection` with the option `close` among its items (RFC 9112, section 9.6)
abbrev pub is_close : List ℕ × List ℕ → Bool
is_close field = is_named Connection field && has_item close_text field.1

-- the names and the values of a head's fields
abbrev pub fields_of : RequestHead → List (List ℕ × List ℕ)
fields_of head = map name_and_value head.fields
