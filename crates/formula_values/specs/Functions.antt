-- The results of functions.
use Rattle.std.specs.Prelude.{ℕ, zero, suc, ◌+◌, ◌-◌, ◌*◌, ◌/◌, nat_le, max, ◌||◌, ℤ, pos, negsuc, ◌+ℤ◌, ◌-ℤ◌, int_lt, int_le, unsigned_abs, List, [], ◌∷◌}
use Rattle.std.specs.Prelude.{◌++◌, length, slice_get, slice_index_or, Option, Some, None, Result, Ok, Err, if◌then◌else◌}
use Rattle.bt_base.specs.declared.fail.Fail.{Fail}
use Rattle.bt_base.specs.declared.fail.Fail.TheVariants.{Why}
use Rattle.bt_base.specs.Numbers.{bounded, cut, whole_number, difference_of}
use Rattle.bt_times.specs.declared.fault.TimeFault.{TimeFault}
use Rattle.bt_times.specs.declared.fault.TimeFault.TheVariants.{OutOfRange}
use Rattle.bt_times.specs.Instants.{read_instant}
use Rattle.formula_trees.specs.declared.names.Function.{Function}
use Rattle.formula_trees.specs.declared.names.Function.TheVariants as functions
use Rattle.formula_values.specs.declared.fault.ValueFault.{ValueFault}
use Rattle.formula_values.specs.declared.fault.ValueFault.TheVariants.{EmptyVector, IndexOutOfRange, BadTimeText, TimeOutOfRange}
use Rattle.formula_values.specs.declared.value.Value.{Value}
use Rattle.formula_values.specs.declared.value.Value.TheVariants.{Double, DoubleVec, Text, Timestamp}
use Rattle.formula_values.specs.Values.{double_of, timestamp_value, no_value}

-- the doubles of a value: itself, or its items
abbrev pub doubles_of : Value → List ℤ
doubles_of (Double a) = a ∷ []
doubles_of (DoubleVec v) = v
doubles_of _ = []

-- the doubles of values, one after the other
abbrev pub flattened : List Value → List ℤ
flattened [] = []
flattened (a ∷ values) = doubles_of a ++ flattened values

-- the exact sum
abbrev pub total : List ℤ → ℤ
total [] = pos 0
total (x ∷ xs) = x +ℤ total xs

-- the exact sum, or its fault
abbrev pub sum_of_items : List ℤ → Result Value ValueFault
sum_of_items xs = double_of (bounded (total xs))

-- the exact sum over the number of items, cut toward zero
abbrev pub average : List ℤ → Result Value ValueFault
average [] = Err EmptyVector
average (x ∷ xs) = double_of (bounded (cut (total (x ∷ xs)) (pos (length (x ∷ xs)))))

-- the greater of two
abbrev pub greater_of : ℤ → ℤ → ℤ
greater_of a b = if int_lt a b then b else a

-- the lesser of two
abbrev pub less_of : ℤ → ℤ → ℤ
less_of a b = if int_lt b a then b else a

-- the greatest of an item and others
abbrev pub greatest : ℤ → List ℤ → ℤ
greatest x [] = x
greatest x (y ∷ ys) = greatest (greater_of x y) ys

-- the least of an item and others
abbrev pub least : ℤ → List ℤ → ℤ
least x [] = x
least x (y ∷ ys) = least (less_of x y) ys

-- the greatest item, if there is one
abbrev pub greatest_item : List ℤ → Result Value ValueFault
greatest_item [] = Err EmptyVector
greatest_item (x ∷ xs) = Ok (Double (greatest x xs))

-- the least item, if there is one
abbrev pub least_item : List ℤ → Result Value ValueFault
least_item [] = Err EmptyVector
least_item (x ∷ xs) = Ok (Double (least x xs))

-- the greatest item less the least one
abbrev pub range_of_items : List ℤ → Result Value ValueFault
range_of_items [] = Err EmptyVector
range_of_items (x ∷ xs) = double_of (difference_of (greatest x xs) (least x xs))

-- the number of items of a vector
abbrev pub length_value : List Value → Result Value ValueFault
length_value (DoubleVec v ∷ []) = double_of (whole_number (pos (length v)))
length_value _ = no_value

-- the greatest number whose square is at most this one: one more than that of the number before if its square still is
unfoldable pub square_root : ℕ → ℕ
square_root zero = zero
square_root (suc n) =
    let root = square_root n in
    if nat_le ((root + 1) * (root + 1)) (suc n) then root + 1 else root

-- the sum of the squares
abbrev pub squares : List ℤ → ℕ
squares [] = 0
squares (x ∷ xs) = unsigned_abs x * unsigned_abs x + squares xs

-- the root of the sum of the squares, cut after six decimals
abbrev pub norm_of : List ℤ → Result Value ValueFault
norm_of v = double_of (bounded (pos (square_root (squares v))))

-- the norm of a vector
abbrev pub norm_value : List Value → Result Value ValueFault
norm_value (DoubleVec v ∷ []) = norm_of v
norm_value _ = no_value

-- an item among others that rise
abbrev pub inserted : ℤ → List ℤ → List ℤ
inserted x [] = x ∷ []
inserted x (y ∷ ys) = if int_le x y then x ∷ (y ∷ ys) else y ∷ inserted x ys

-- the items, sorted upward
abbrev pub sorted : List ℤ → List ℤ
sorted [] = []
sorted (x ∷ xs) = inserted x (sorted xs)

-- of n items, the rank of the percentile p in millionths: p times n over 100, cut upward, and at least 1
abbrev pub rank_of : ℕ → ℕ → ℕ
rank_of p n = max 1 ((p * n + 99999999) / 100000000)

-- the item of this rank, from 1 for the least
abbrev pub item_of_rank : List ℤ → ℕ → ℤ
item_of_rank v rank = slice_index_or (sorted v) (rank - 1) (pos 0)

-- the percentile p of the items, by nearest rank
abbrev pub percentile_of : List ℤ → ℤ → Result Value ValueFault
percentile_of [] p = Err EmptyVector
percentile_of (x ∷ xs) p =
    if int_lt p (pos 0) || int_lt (pos 100000000) p then Err IndexOutOfRange
    else Ok (Double (item_of_rank (x ∷ xs) (rank_of (unsigned_abs p) (length (x ∷ xs)))))

-- the item at the rank that the percentage of all ranks is, by nearest rank
abbrev pub percentile_value : List Value → Result Value ValueFault
percentile_value (DoubleVec v ∷ Double p ∷ []) = percentile_of v p
percentile_value _ = no_value

-- the greatest whole number that is at most these millionths
abbrev pub floor_of : ℤ → ℤ
floor_of (pos n) = pos (n / 1000000)
floor_of (negsuc n) = negsuc (n / 1000000)

-- the least whole number that is at least these millionths
abbrev pub ceil_of : ℤ → ℤ
ceil_of a = pos 0 -ℤ floor_of (pos 0 -ℤ a)

-- the whole number that is nearest; of two, the one away from zero
abbrev pub round_of : ℤ → ℤ
round_of a =
    if int_lt a (pos 0) then pos 0 -ℤ pos ((unsigned_abs a + 500000) / 1000000)
    else pos ((unsigned_abs a + 500000) / 1000000)

-- a double that is made whole
abbrev pub made_whole : (ℤ → ℤ) → List Value → Result Value ValueFault
made_whole by (Double a ∷ []) = double_of (whole_number (by a))
made_whole by _ = no_value

-- the item, if there is one
abbrev pub item_or : Option ℤ → Result Value ValueFault
item_or None = Err IndexOutOfRange
item_or (Some x) = Ok (Double x)

-- the item at an index, which counts from 0
abbrev pub item_at : List ℤ → ℤ → Result Value ValueFault
item_at v (pos index) = item_or (slice_get v index)
item_at v (negsuc below) = Err IndexOutOfRange

-- an item of a vector by its index
abbrev pub val_value : List Value → Result Value ValueFault
val_value (DoubleVec v ∷ Double i ∷ []) = item_at v (floor_of i)
val_value _ = no_value

-- the timestamp that a text shows
abbrev pub time_read : Result ℤ (Fail TimeFault) → Result Value ValueFault
time_read (Ok t) = timestamp_value t
time_read (Err (Why OutOfRange)) = Err TimeOutOfRange
time_read (Err _) = Err BadTimeText

-- the present moment, or the time of a text
abbrev pub time_value : ℕ → List Value → Result Value ValueFault
time_value now [] = Ok (Timestamp (pos (10000 * now)))
time_value now (Text text ∷ []) = time_read (read_instant text)
time_value now _ = no_value

-- the result of a function with these arguments, at a moment in milliseconds since 1970; `stop()` has no value
abbrev pub function_value : Function → List Value → ℕ → Result Value ValueFault
function_value functions.Avg args now = average (flattened args)
function_value functions.Max args now = greatest_item (flattened args)
function_value functions.Min args now = least_item (flattened args)
function_value functions.Sum args now = sum_of_items (flattened args)
function_value functions.Range args now = range_of_items (flattened args)
function_value functions.Len args now = length_value args
function_value functions.Norm args now = norm_value args
function_value functions.Percentile args now = percentile_value args
function_value functions.Val args now = val_value args
function_value functions.Ceil args now = made_whole ceil_of args
function_value functions.Floor args now = made_whole floor_of args
function_value functions.Round args now = made_whole round_of args
function_value functions.Time args now = time_value now args
function_value functions.Stop args now = no_value
