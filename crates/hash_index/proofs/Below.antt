-- The places below a number.
use Rattle.std.proofs.Common.{◌≡◌, ℕ, zero, suc, ◌<◌, ◌≤◌, true, false, cond, nat_eq, List, [], ◌∷◌, ◌++◌, length, slice_index}
use Rattle.std.proofs.Common.{refl, sym, ap, ◌∙◌, ⊎_elim, arith}
use Rattle.std.specs.List.{Contains}
use Rattle.std.proofs.lemmas.Bool.{cases_Bool, cond-true, cond-false, cases_eq, eq-eqb}
use Rattle.hash_index.specs.Hashes.{places_below, places_with}

-- what a list has below its end after a push
pub index_before : (xs : List ℕ) (x k : ℕ) → k < length xs → slice_index (xs ++ x ∷ []) k ≡ slice_index xs k
index_before [] x k l = absurd (omega arith)
index_before (y ∷ xs) x zero l = refl
index_before (y ∷ xs) x (suc k) l = index_before xs x k (omega arith)

pub index_pushed : (xs : List ℕ) (x : ℕ) → slice_index (xs ++ x ∷ []) (length xs) ≡ x
index_pushed [] x = refl
index_pushed (y ∷ xs) x = index_pushed xs x

-- a hash that is added changes no places below
pub below_push : (place hash : ℕ) (hashes : List ℕ) (new : ℕ) → place ≤ length hashes
    → places_below place hash (hashes ++ new ∷ []) ≡ places_below place hash hashes
below_push zero hash hashes new l = refl
below_push (suc place) hash hashes new l =
    let rest = below_push place hash hashes new (omega arith) in
    ap (λ (n : ℕ). cond (nat_eq n hash) (place ∷ places_below place hash (hashes ++ new ∷ [])) (places_below place hash (hashes ++ new ∷ [])))
    (index_before hashes new place (omega arith))
    ∙ ap (λ (places : List ℕ). cond (nat_eq (slice_index hashes place) hash) (place ∷ places) places) rest

length_push : (xs : List ℕ) (x : ℕ) → length (xs ++ x ∷ []) ≡ suc (length xs)
length_push [] x = refl
length_push (y ∷ xs) x = ap suc (length_push xs x)

-- a hash that is added has the next place
pub with_push : (hash : ℕ) (hashes : List ℕ) (new : ℕ)
    → places_with hash (hashes ++ new ∷ []) ≡ cond (nat_eq new hash) (length hashes ∷ places_with hash hashes) (places_with hash hashes)
unfolding places_with
with_push hash hashes new =
    ap (λ (n : ℕ). places_below n hash (hashes ++ new ∷ [])) (length_push hashes new)
    ∙ ap (λ (n : ℕ). cond (nat_eq n hash) (length hashes ∷ places_below (length hashes) hash (hashes ++ new ∷ [])) (places_below (length hashes) hash (hashes ++ new ∷ [])))
    (index_pushed hashes new)
    ∙ ap (λ (places : List ℕ). cond (nat_eq new hash) (length hashes ∷ places) places) (below_push (length hashes) hash hashes new (omega arith))

-- a place of the list
contained_first : (place : ℕ) (places : List ℕ) → Contains (place ∷ places) place
contained_first place places = (0, omega arith, refl)

contained_later : (first : ℕ) (places : List ℕ) (place : ℕ) → Contains places place → Contains (first ∷ places) place
contained_later first places place c = let l = c.1 in (suc c.0, omega arith, c.2)

later_place : (at place hash : ℕ) (hashes : List ℕ) → Contains (places_below at hash hashes) place → Contains (places_below (suc at) hash hashes) place
later_place at place hash hashes c =
    ⊎_elim
    (λ (e : nat_eq (slice_index hashes at) hash ≡ true).
    rw (cond-true (nat_eq (slice_index hashes at) hash) (at ∷ places_below at hash hashes) (places_below at hash hashes) e)
    (contained_later at (places_below at hash hashes) place c))
    (λ (e : nat_eq (slice_index hashes at) hash ≡ false).
    rw (cond-false (nat_eq (slice_index hashes at) hash) (at ∷ places_below at hash hashes) (places_below at hash hashes) e) c)
    (cases_Bool (nat_eq (slice_index hashes at) hash))

-- each place with the hash is one of them
pub below_has : (count place hash : ℕ) (hashes : List ℕ) → place < count → slice_index hashes place ≡ hash → Contains (places_below count hash hashes) place
below_has zero place hash hashes l e = absurd (omega arith)
below_has (suc at) place hash hashes l e =
    ⊎_elim
    (λ (same : place ≡ at).
    rw (cond-true (nat_eq (slice_index hashes at) hash) (at ∷ places_below at hash hashes) (places_below at hash hashes)
    (eq-eqb (slice_index hashes at) hash (ap (slice_index hashes) (sym same) ∙ e)))
    (rw same (contained_first at (places_below at hash hashes))))
    (λ (other : place ≡ at → ⊥).
    later_place at place hash hashes (below_has at place hash hashes (omega (arith, other)) e))
    (cases_eq place at)

pub with_has : (place hash : ℕ) (hashes : List ℕ) → place < length hashes → slice_index hashes place ≡ hash → Contains (places_with hash hashes) place
unfolding places_with
with_has place hash hashes l e = below_has (length hashes) place hash hashes l e
