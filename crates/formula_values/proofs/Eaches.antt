-- Steps of items, one by one: the numbers so far, and those of the items that are left.
use Rattle.std.proofs.Common.{◌≡◌, ℕ, ◌+◌, ◌<◌, ◌≤◌, List, [], ◌∷◌, ◌++◌, length, drop, get_or, append_assoc, append-nil, refl, sym, ap, ◌∙◌}
use Rattle.std.specs.Prelude.{ℤ, pos, Result, Ok, Err}
use Rattle.std.proofs.lemmas.List.{at_drop_more, at_drop_all}
use Rattle.bt_base.specs.Fails.{◌>>=◌}
use Rattle.bt_base.specs.declared.number.NumFault.{NumFault}
use Rattle.formula_values.specs.Operators.{each}

-- numbers after those that are there
abbrev pub joined : List ℤ → Result (List ℤ) NumFault → Result (List ℤ) NumFault
joined front (Ok ys) = Ok (front ++ ys)
joined front (Err e) = Err e

joined-one : (front : List ℤ) (y : ℤ) (r : Result (List ℤ) NumFault) → joined front (r >>= (λ ys. Ok (y ∷ ys))) ≡ joined (front ++ y ∷ []) r
joined-one front y (Ok ys) = ap (λ (zs : List ℤ). Ok zs) (sym (append_assoc front (y ∷ []) ys))
joined-one front y (Err f) = refl

each-cons : (step : ℤ → Result ℤ NumFault) (front : List ℤ) (x y : ℤ) (xs : List ℤ) → step x ≡ Ok y →
    joined front (each step (x ∷ xs)) ≡ joined (front ++ y ∷ []) (each step xs)
each-cons step front x y xs e = rw e (joined-one front y (each step xs))

each-fault : (step : ℤ → Result ℤ NumFault) (front : List ℤ) (x : ℤ) (f : NumFault) (xs : List ℤ) → step x ≡ Err f → joined front (each step (x ∷ xs)) ≡ Err f
each-fault step front x f xs e = rw e refl

-- one item more
pub each_more : (step : ℤ → Result ℤ NumFault) (front : List ℤ) (y : ℤ) (xs : List ℤ) (i : ℕ) (all : Result (List ℤ) NumFault) → i < length xs →
    step (get_or xs i (pos 0)) ≡ Ok y → joined front (each step (drop i xs)) ≡ all → joined (front ++ y ∷ []) (each step (drop (i + 1) xs)) ≡ all
each_more step front y xs i all h e so_far =
    sym (each-cons step front (get_or xs i (pos 0)) y (drop (i + 1) xs) e)
    ∙ sym (at_drop_more (λ ys. joined front (each step ys)) xs i (pos 0) h)
    ∙ so_far

-- the first fault
pub each_fails : (step : ℤ → Result ℤ NumFault) (front : List ℤ) (f : NumFault) (xs : List ℤ) (i : ℕ) (all : Result (List ℤ) NumFault) → i < length xs →
    step (get_or xs i (pos 0)) ≡ Err f → joined front (each step (drop i xs)) ≡ all → all ≡ Err f
each_fails step front f xs i all h e so_far =
    sym so_far
    ∙ at_drop_more (λ ys. joined front (each step ys)) xs i (pos 0) h
    ∙ each-fault step front (get_or xs i (pos 0)) f (drop (i + 1) xs) e

-- no item is left
pub each_all : (step : ℤ → Result ℤ NumFault) (front : List ℤ) (xs : List ℤ) (i : ℕ) (all : Result (List ℤ) NumFault) → length xs ≤ i →
    joined front (each step (drop i xs)) ≡ all → all ≡ Ok front
each_all step front xs i all h so_far =
    sym so_far
    ∙ at_drop_all (λ ys. joined front (each step ys)) xs i h
    ∙ ap (λ (zs : List ℤ). Ok zs) (append-nil front)

-- none is done
pub joined-none : (r : Result (List ℤ) NumFault) → joined [] r ≡ r
joined-none (Ok ys) = refl
joined-none (Err f) = refl
