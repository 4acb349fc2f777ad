-- How many bytes a request's body has, by the fields of its head (RFC 9112, section 6, in this project's profile), and whether
-- the request is the last one.
use Rattle.std.specs.Prelude.{ℕ, Bool, ◌||◌, ◌&&◌, List, length, find, count_by, if◌then◌else◌, ◌==◌, nat_le, nat_lt, Option, Some, None}
use Rattle.bt_base.specs.Digits.{number_in}
use Rattle.http_head.specs.declared.framing.TheConstants.{BODY_LIMIT}
use Rattle.http_head.specs.declared.framing.Framing.{Framing}
use Rattle.http_head.specs.declared.framing.Framing.TheVariants.{Bad, TooLong, Body}
use Rattle.http_head.specs.declared.names.FieldName.TheVariants.{Host, ContentLength, TransferEncoding}
use Rattle.http_head.specs.Fields.{is_named, count_named, is_close}

-- 1 to 10 digits, as a number
abbrev pub length_in : List ℕ → Option ℕ
length_in text = if nat_le (length text) 10 then number_in text else None

-- the length that a field states
abbrev pub length_of_field : Option (List ℕ × List ℕ) → Option ℕ
length_of_field None = None
length_of_field (Some field) = length_in field.1

-- the length that the fields state: 0 if none does; None if more than one does, or if one cannot be read
abbrev pub stated_length : List (List ℕ × List ℕ) → Option ℕ
stated_length fields =
    if count_named ContentLength fields == 0 then Some 0 else (
    if count_named ContentLength fields == 1 then length_of_field (find (is_named ContentLength) fields) else None)

-- the request cannot be read by its fields: it has a transfer coding, or more than one host, or none in HTTP/1.1 (RFC 9112,
-- sections 6.1 and 3.2)
abbrev pub has_bad_fields : ℕ → List (List ℕ × List ℕ) → Bool
has_bad_fields minor fields =
    nat_lt 0 (count_named TransferEncoding fields)
    || nat_lt 1 (count_named Host fields)
    || (minor == 1 && count_named Host fields == 0)

-- the framing of a body of this length
abbrev pub framing_of_length : Option ℕ → Framing
framing_of_length None = Bad
framing_of_length (Some n) = if nat_le n BODY_LIMIT then Body n else TooLong

-- the framing of a request of HTTP/1.minor with these fields
abbrev pub framing_of : ℕ → List (List ℕ × List ℕ) → Framing
framing_of minor fields = if has_bad_fields minor fields then Bad else framing_of_length (stated_length fields)

-- the request is the last one that is answered: it is of HTTP/1.0, or asks that the connection be closed (RFC 9112, section 9.3)
abbrev pub is_last : ℕ → List (List ℕ × List ℕ) → Bool
is_last minor fields = minor == 0 || nat_lt 0 (count_by is_close fields)
