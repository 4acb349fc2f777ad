-- How many rows a list has, if one is added or rows change in place.
use Rattle.std.proofs.Common.{◌≡◌, ℕ, ◌+◌, ◌<◌, ◌≤◌, Bool, false, nat_le, List, [], ◌∷◌, ◌++◌, length, arith}
use Rattle.std.proofs.lemmas.Bool.Decides.{nat_tests}
use Rattle.std.proofs.lemmas.List.{length-append, length-map}
use Rattle.batch_model.specs.Finding.{change_where}

-- what is not at least a number is below it
below : (a b : ℕ) → nat_le a b ≡ false → b < a
below a b h = grind (arith, nat_tests)

-- a table that was not full takes one more row
pub takes_one : {R : Type 0} (limit : ℕ) (rows : List R) (row : R) → nat_le limit (length rows) ≡ false → length (rows ++ row ∷ []) ≤ limit
takes_one limit rows row h =
    let room : length rows < limit = below limit (length rows) h in
    let longer : length (rows ++ row ∷ []) ≡ length rows + 1 = length-append rows (row ∷ []) in
    omega (arith, room, longer)

-- a table whose rows change in place has the same number of rows
pub change_keeps_length : {R : Type 0} (test : R → Bool) (change : R → R) (limit : ℕ) (rows : List R) → length rows ≤ limit
    → length (change_where test change rows) ≤ limit
change_keeps_length test change limit rows h = rw length-map h
