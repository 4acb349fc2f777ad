-- Members of a body. A part is a body or an object in it; an absent one has no members.
use Rattle.std.specs.Prelude.{ℕ, ℤ, Bool, false, unwrap_or, List, Option, Some, None, Result, Ok, Err, option_map, option_and_then, int_le, ◌&&◌, if◌then◌else◌}
use Rattle.std.specs.Result.{result_ok}
use Rattle.serde_json.specs.Data.{Data, null, boolean, number, string, array, object, Items, no_items}
use Rattle.serde_json.specs.Find.{get, as_number, as_u64, as_i64, as_bool, as_str, as_array, as_object}
use Rattle.bt_base.specs.Ids.{within, read_id}
use Rattle.bt_base.specs.CommandLines.{command_line_of}
use Rattle.bt_rows.specs.declared.member.Member.{Member}
use Rattle.bt_rows.specs.Names.{member_text}
use Rattle.bt_rows.specs.declared.refusal.Refusal.{Refusal}
use Rattle.bt_rows.specs.declared.refusal.Refusal.TheVariants.{InvalidPropertyValue}

-- null counts as absent
abbrev pub unless_null : Data → Option Data
unless_null null = None
unless_null (boolean b) = Some (boolean b)
unless_null (number n) = Some (number n)
unless_null (string s) = Some (string s)
unless_null (array ds) = Some (array ds)
unless_null (object ms) = Some (object ms)

-- the member of that name, unless it is absent or null
abbrev pub member_of : Option Data → Member → Option Data
member_of part name = option_and_then unless_null (option_and_then (get (member_text name)) part)

-- the value, or the refusal that names the member
abbrev pub or_invalid : {A : Type 0} → Member → Option A → Result A Refusal
or_invalid name (Some a) = Ok a
or_invalid name None = Err (InvalidPropertyValue name)

-- what is read of a value; the default if there is none
abbrev pub or_default : {A : Type 0} → (Data → Option A) → A → Member → Option Data → Result A Refusal
or_default read default name None = Ok default
or_default read default name (Some d) = or_invalid name (read d)

-- a member that may be absent, with its default
abbrev pub optional : {A : Type 0} → (Data → Option A) → A → Option Data → Member → Result A Refusal
optional read default part name = or_default read default name (member_of part name)

-- a member that is required
abbrev pub required : {A : Type 0} → (Data → Option A) → Option Data → Member → Result A Refusal
required read part name = or_invalid name (option_and_then read (member_of part name))

-- ---- values

-- a whole number from low to high
abbrev pub count_in : ℕ → ℕ → Data → Option ℕ
count_in low high d = option_and_then (λ n. if within low high n then Some n else None) (option_and_then as_u64 (as_number d))

-- a whole number from low to high, which may be below 0
abbrev pub signed_in : ℤ → ℤ → Data → Option ℤ
signed_in low high d = option_and_then (λ n. if int_le low n && int_le n high then Some n else None) (option_and_then as_i64 (as_number d))

-- an id
abbrev pub id_in : Data → Option (List ℕ)
id_in d = option_and_then (λ text. result_ok (read_id text)) (as_str d)

-- a command line
abbrev pub command_in : Data → Option (List ℕ)
command_in d = option_and_then command_line_of (as_str d)

-- an object
abbrev pub object_in : Data → Option Data
object_in d = option_map (λ ms. object ms) (as_object d)

-- a word of a kind
abbrev pub word_in : {X : Type 0} → (List ℕ → Option X) → Data → Option X
word_in word d = option_and_then word (as_str d)

-- a value that is present
abbrev pub there : {A : Type 0} → Option A → Option (Option A)
there value = option_map (λ a. Some a) value

-- ---- members

-- a whole number with a default
abbrev pub count_member : Option Data → Member → ℕ → ℕ → ℕ → Result ℕ Refusal
count_member part name low high default = optional (count_in low high) default part name

-- a whole number; None if it is absent
abbrev pub count_if : Option Data → Member → ℕ → ℕ → Result (Option ℕ) Refusal
count_if part name low high = optional (λ d. there (count_in low high d)) None part name

-- a whole number that is required
abbrev pub required_count : Option Data → Member → ℕ → ℕ → Result ℕ Refusal
required_count part name low high = required (count_in low high) part name

-- a whole number with a default, which may be below 0
abbrev pub signed_member : Option Data → Member → ℤ → ℤ → ℤ → Result ℤ Refusal
signed_member part name low high default = optional (signed_in low high) default part name

-- a whole number, which may be below 0; None if it is absent
abbrev pub signed_if : Option Data → Member → ℤ → ℤ → Result (Option ℤ) Refusal
signed_if part name low high = optional (λ d. there (signed_in low high d)) None part name

-- a whole number that is required and may be below 0
abbrev pub required_signed : Option Data → Member → ℤ → ℤ → Result ℤ Refusal
required_signed part name low high = required (signed_in low high) part name

-- a truth value with a default
abbrev pub flag_member : Option Data → Member → Bool → Result Bool Refusal
flag_member part name default = optional as_bool default part name

-- the member is `true`: neither absent, nor another value
abbrev pub is_true : Option Data → Member → Bool
is_true part name = unwrap_or (option_and_then as_bool (member_of part name)) false

-- a text; None if it is absent
abbrev pub text_member : Option Data → Member → Result (Option (List ℕ)) Refusal
text_member part name = optional (λ d. there (as_str d)) None part name

-- an id that is required
abbrev pub id_member : Option Data → Member → Result (List ℕ) Refusal
id_member part name = required id_in part name

-- a command line that is required
abbrev pub command_member : Option Data → Member → Result (List ℕ) Refusal
command_member part name = required command_in part name

-- a word with a default
abbrev pub word_member : {X : Type 0} → (List ℕ → Option X) → Option Data → Member → X → Result X Refusal
word_member word part name default = optional (word_in word) default part name

-- a word that is required
abbrev pub required_word : {X : Type 0} → (List ℕ → Option X) → Option Data → Member → Result X Refusal
required_word word part name = required (word_in word) part name

-- a word; None if it is absent
abbrev pub word_if : {X : Type 0} → (List ℕ → Option X) → Option Data → Member → Result (Option X) Refusal
word_if word part name = optional (λ d. there (word_in word d)) None part name

-- an object; None if it is absent
abbrev pub object_member : Option Data → Member → Result (Option Data) Refusal
object_member part name = optional (λ d. there (object_in d)) None part name

-- an object that is required
abbrev pub required_object : Option Data → Member → Result Data Refusal
required_object part name = required object_in part name

-- the items of a list; no items if it is absent
abbrev pub list_member : Option Data → Member → Result Items Refusal
list_member part name = optional as_array no_items part name

-- the items of a list that is required
abbrev pub required_list : Option Data → Member → Result Items Refusal
required_list part name = required as_array part name

-- an item that is an object; another one is refused under the list's name
abbrev pub object_item : Data → Member → Result Data Refusal
object_item d name = or_invalid name (object_in d)

-- an item that is an id; another one is refused under the list's name
abbrev pub id_item : Data → Member → Result (List ℕ) Refusal
id_item d name = or_invalid name (id_in d)

-- ---- members that are not taken yet

-- the refusal of a member, if it is there
abbrev pub refuse_if_there : Member → Option Data → Result (Unit {0}) Refusal
refuse_if_there name None = Ok tt
refuse_if_there name (Some d) = Err (InvalidPropertyValue name)

-- a member that the service does not support yet: refused whatever it holds, unless it is absent or null
abbrev pub unbuilt_member : Option Data → Member → Result (Unit {0}) Refusal
unbuilt_member part name = refuse_if_there name (member_of part name)
