-- The texts of values.
use Rattle.std.specs.Prelude.{ℕ, zero, suc, ◌+◌, ◌/◌, ◌%◌, ℤ, unsigned_abs, codes, List, [], ◌∷◌, ◌++◌}
use Rattle.std.specs.Fmt.{signed_decimal}
use Rattle.bt_base.specs.Numbers.{number_text}
use Rattle.bt_times.specs.declared.parts.Civil.{Civil}
use Rattle.bt_times.specs.Civils.{civil_of}
use Rattle.formula_values.specs.declared.value.Value.{Value}
use Rattle.formula_values.specs.declared.value.Value.TheVariants.{Double, DoubleVec, Text, Timestamp, TimeInterval}

-- the last digits of a number, of the given count
abbrev pub places : ℕ → ℕ → List ℕ
places zero n = []
places (suc more) n = places more (n / 10) ++ (48 + n % 10) ∷ []

-- a date and a time of day, with `units` of 100 ns past the second, as ISO 8601 writes them
unfoldable pub time_text : Civil → ℕ → List ℕ
time_text shown units =
    places 4 shown.year ++ codes "-" ++ places 2 shown.month ++ codes "-" ++ places 2 shown.day
    ++ codes "T" ++ places 2 shown.hour ++ codes ":" ++ places 2 shown.minute ++ codes ":" ++ places 2 shown.second
    ++ codes "." ++ places 7 units ++ codes "Z"

-- a timestamp, in units of 100 ns since 1970
abbrev pub timestamp_text : ℕ → List ℕ
timestamp_text t = time_text (civil_of t) (t % 10000000)

-- numbers after one, each after a comma
abbrev pub more_items : List ℤ → List ℕ
more_items [] = []
more_items (x ∷ xs) = 44 ∷ number_text x ++ more_items xs

-- numbers with commas between them
abbrev pub items_text : List ℤ → List ℕ
items_text [] = []
items_text (x ∷ xs) = number_text x ++ more_items xs

-- a vector: its items in brackets
abbrev pub vector_text : List ℤ → List ℕ
vector_text v = 91 ∷ items_text v ++ 93 ∷ []

-- a value's text; a timeinterval shows its units of 100 ns
abbrev pub value_text : Value → List ℕ
value_text (Double a) = number_text a
value_text (DoubleVec v) = vector_text v
value_text (Text text) = text
value_text (Timestamp t) = timestamp_text (unsigned_abs t)
value_text (TimeInterval t) = signed_decimal t
