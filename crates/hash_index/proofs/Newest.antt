-- The places of a bucket, one after another.
use Rattle.std.proofs.Common.{◌≡◌, ℕ, zero, suc, ◌-◌, ◌%◌, ◌<◌, ◌≤◌, Bool, true, false, cond, nat_eq, List, [], ◌∷◌, ◌++◌, length, slice_index, set, get_or}
use Rattle.std.proofs.Common.{refl, sym, ap, ◌∙◌, ⊎_elim, arith}
use Rattle.std.proofs.lemmas.Bool.{cases_Bool, cond-true, cond-false, cases_eq, cases_lt, eq-eqb, eqb-true, eqb-false, ne_eqb}
use Rattle.hash_index.specs.Hashes.{places_below, places_with}
use Rattle.hash_index.specs.Chains.{newest, IsChained, IsOnChain}
use Rattle.hash_index.proofs.Below.{index_before, index_pushed}

module _ (count : ℕ) (hashes : List ℕ) where
  pub newest_within : (bucket number : ℕ) → newest bucket count hashes number ≤ number
  newest_within bucket zero = omega arith
  newest_within bucket (suc place) =
      ⊎_elim
      (λ (e : nat_eq (slice_index hashes place % count) bucket ≡ true).
      rw (cond-true (nat_eq (slice_index hashes place % count) bucket) (suc place) (newest bucket count hashes place) e) (omega arith))
      (λ (e : nat_eq (slice_index hashes place % count) bucket ≡ false).
      rw (cond-false (nat_eq (slice_index hashes place % count) bucket) (suc place) (newest bucket count hashes place) e)
      (let l = newest_within bucket place in omega arith))
      (cases_Bool (nat_eq (slice_index hashes place % count) bucket))

  -- the place that a bucket leads to is in the bucket
  pub newest_here : (bucket number : ℕ) → 0 < newest bucket count hashes number
      → slice_index hashes (newest bucket count hashes number - 1) % count ≡ bucket
  newest_here bucket zero l = absurd (omega arith)
  newest_here bucket (suc place) l = by_case (nat_eq (slice_index hashes place % count) bucket) refl l (λ m. newest_here bucket place m)
    where
      by_case : (b : Bool) → nat_eq (slice_index hashes place % count) bucket ≡ b
          → 0 < cond b (suc place) (newest bucket count hashes place)
          → (0 < newest bucket count hashes place → slice_index hashes (newest bucket count hashes place - 1) % count ≡ bucket)
          → slice_index hashes (cond b (suc place) (newest bucket count hashes place) - 1) % count ≡ bucket
      by_case true e m rest =
          let k : suc place - 1 ≡ place = omega arith in
          ap (λ (n : ℕ). slice_index hashes n % count) k ∙ eqb-true (slice_index hashes place % count) bucket e
      by_case false e m rest = rest m

  -- places of other buckets have other hashes
  pub below_newest : (hash number : ℕ) → places_below number hash hashes ≡ places_below (newest (hash % count) count hashes number) hash hashes
  below_newest hash zero = refl
  below_newest hash (suc place) = by_case (nat_eq (slice_index hashes place % count) (hash % count)) refl (below_newest hash place)
    where
      by_case : (b : Bool) → nat_eq (slice_index hashes place % count) (hash % count) ≡ b
          → places_below place hash hashes ≡ places_below (newest (hash % count) count hashes place) hash hashes
          → places_below (suc place) hash hashes ≡ places_below (cond b (suc place) (newest (hash % count) count hashes place)) hash hashes
      by_case true e rest = refl
      by_case false e rest =
          let other : nat_eq (slice_index hashes place) hash ≡ false =
          ne_eqb (slice_index hashes place) hash (λ same. eqb-false (slice_index hashes place % count) (hash % count) e (ap (λ (n : ℕ). n % count) same)) in
          cond-false (nat_eq (slice_index hashes place) hash) (place ∷ places_below place hash hashes) (places_below place hash hashes) other
          ∙ rest

-- a hash that is added changes nothing below
pub newest_push : (count : ℕ) (hashes : List ℕ) (new bucket number : ℕ) → number ≤ length hashes
    → newest bucket count (hashes ++ new ∷ []) number ≡ newest bucket count hashes number
newest_push count hashes new bucket zero l = refl
newest_push count hashes new bucket (suc place) l =
    ap (λ (n : ℕ). cond (nat_eq (n % count) bucket) (suc place) (newest bucket count (hashes ++ new ∷ []) place))
    (index_before hashes new place (omega arith))
    ∙ ap (λ (n : ℕ). cond (nat_eq (slice_index hashes place % count) bucket) (suc place) n) (newest_push count hashes new bucket place (omega arith))

-- the steps of the iterator
module _ (count : ℕ) (hashes nexts : List ℕ) (hash number place : ℕ) (is : number ≡ suc place) (chain : IsOnChain count hashes nexts hash number) where
  next_is : slice_index nexts place ≡ newest (hash % count) count hashes place
  next_is =
      let w = chain.within in
      let k : number - 1 ≡ place = omega (arith, is) in
      let here : slice_index hashes place % count ≡ hash % count =
      ap (λ (n : ℕ). slice_index hashes n % count) (sym k) ∙ chain.here (omega (arith, is)) in
      chain.next.each place (omega (arith, is)) ∙ ap (λ (bucket : ℕ). newest bucket count hashes place) here

  pub chain_less : slice_index nexts place < number
  chain_less = let l = newest_within count hashes (hash % count) place in omega (arith, is, next_is)

  pub chain_places : (b : Bool) → nat_eq (slice_index hashes place) hash ≡ b
      → places_below number hash hashes ≡ cond b (place ∷ places_below (slice_index nexts place) hash hashes) (places_below (slice_index nexts place) hash hashes)
  chain_places b e =
      let rest : places_below place hash hashes ≡ places_below (slice_index nexts place) hash hashes =
      below_newest count hashes hash place ∙ ap (λ (n : ℕ). places_below n hash hashes) (sym next_is) in
      ap (λ (n : ℕ). places_below n hash hashes) is
      ∙ ap (λ (c : Bool). cond c (place ∷ places_below place hash hashes) (places_below place hash hashes)) e
      ∙ ap (λ (places : List ℕ). cond b (place ∷ places) places) rest

  pub chain_next : IsOnChain count hashes nexts hash (slice_index nexts place)
  chain_next =
      let w = chain.within in
      let l = newest_within count hashes (hash % count) place in
      record {
        long = chain.long;
        next = chain.next;
        within = omega (arith, is, next_is);
        here = rw next_is (λ m. newest_here count hashes (hash % count) place m);
        some = λ m. chain.some (omega (arith, is));
      }

index_past : (xs : List ℕ) (k : ℕ) → length xs ≤ k → slice_index xs k ≡ 0
index_past [] k l = refl
index_past (x ∷ xs) zero l = absurd (omega arith)
index_past (x ∷ xs) (suc k) l = index_past xs k (omega arith)

-- the first step
module _ (hashes nexts heads : List ℕ) (hash : ℕ) (chained : IsChained hashes nexts heads) (some : 0 < length hashes → 0 < length heads) where
  no_heads : length heads ≤ 0 → slice_index heads (hash % length heads) ≡ 0
  no_heads none = index_past heads (hash % length heads) (omega arith)

  no_hashes : length heads ≤ 0 → length hashes ≡ 0
  no_hashes none =
      ⊎_elim (λ (l : 0 < length hashes). absurd (let m = some l in omega arith)) (λ (l : length hashes ≤ 0). omega arith) (cases_lt 0 (length hashes))

  first_is : 0 < length heads → slice_index heads (hash % length heads) ≡ newest (hash % length heads) (length heads) hashes (length hashes)
  first_is l = chained.head.each (hash % length heads) (omega arith)

  pub with_first : places_with hash hashes ≡ places_below (slice_index heads (hash % length heads)) hash hashes
  unfolding places_with
  with_first =
      ⊎_elim
      (λ (l : 0 < length heads).
      below_newest (length heads) hashes hash (length hashes) ∙ ap (λ (n : ℕ). places_below n hash hashes) (sym (first_is l)))
      (λ (none : length heads ≤ 0).
      let empty : length hashes ≡ 0 = no_hashes none in
      ap (λ (n : ℕ). places_below n hash hashes) (empty ∙ sym (no_heads none)))
      (cases_lt 0 (length heads))

  pub on_first : IsOnChain (length heads) hashes nexts hash (slice_index heads (hash % length heads))
  on_first =
      ⊎_elim
      (λ (l : 0 < length heads).
      let w = newest_within (length heads) hashes (hash % length heads) (length hashes) in
      let is = first_is l in
      record {
        long = chained.long;
        next = chained.next;
        within = omega (arith, is, w);
        here = rw is (λ m. newest_here (length heads) hashes (hash % length heads) (length hashes) m);
        some = λ m. l;
      })
      (λ (none : length heads ≤ 0).
      let is = no_heads none in
      record {
        long = chained.long;
        next = chained.next;
        within = omega (arith, is);
        here = λ m. absurd (omega (arith, is));
        some = λ m. absurd (omega (arith, is));
      })
      (cases_lt 0 (length heads))

index_set_same : (xs : List ℕ) (k v : ℕ) → k < length xs → slice_index (set xs k v) k ≡ v
index_set_same [] k v l = absurd (omega arith)
index_set_same (x ∷ xs) zero v l = refl
index_set_same (x ∷ xs) (suc k) v l = index_set_same xs k v (omega arith)

index_set_other : (xs : List ℕ) (k j v : ℕ) → (j ≡ k → ⊥) → slice_index (set xs k v) j ≡ slice_index xs j
index_set_other [] k j v h = refl
index_set_other (x ∷ xs) zero zero v h = absurd (h refl)
index_set_other (x ∷ xs) zero (suc j) v h = refl
index_set_other (x ∷ xs) (suc k) zero v h = refl
index_set_other (x ∷ xs) (suc k) (suc j) v h = index_set_other xs k j v (λ e. h (ap suc e))

pub index_any : (xs : List ℕ) (k d e : ℕ) → k < length xs → get_or xs k d ≡ get_or xs k e
index_any [] k d e l = absurd (omega arith)
index_any (x ∷ xs) zero d e l = refl
index_any (x ∷ xs) (suc k) d e l = index_any xs k d e (omega arith)

pub length_set : (xs : List ℕ) (k v : ℕ) → length (set xs k v) ≡ length xs
length_set [] k v = refl
length_set (x ∷ xs) zero v = refl
length_set (x ∷ xs) (suc k) v = ap suc (length_set xs k v)

length_push : (xs : List ℕ) (x : ℕ) → length (xs ++ x ∷ []) ≡ suc (length xs)
length_push [] x = refl
length_push (y ∷ xs) x = ap suc (length_push xs x)

-- one hash more
module _ (hashes nexts heads : List ℕ) (hash bucket number : ℕ) (chained : IsChained hashes nexts heads) (some : 0 < length heads)
    (bucket_is : bucket ≡ hash % length heads) (number_is : number ≡ suc (length hashes)) where
  within : bucket < length heads
  within = omega (arith, bucket_is)

  next_added : (place : ℕ) → place < suc (length hashes)
      → slice_index (nexts ++ slice_index heads bucket ∷ []) place
      ≡ newest (slice_index (hashes ++ hash ∷ []) place % length heads) (length heads) (hashes ++ hash ∷ []) place
  next_added place l =
      ⊎_elim
      (λ (before : place < length hashes).
      let long = chained.long in
      index_before nexts (slice_index heads bucket) place (omega arith)
      ∙ chained.next.each place before
      ∙ ap (λ (n : ℕ). newest (n % length heads) (length heads) hashes place) (sym (index_before hashes hash place before))
      ∙ sym (newest_push (length heads) hashes hash (slice_index (hashes ++ hash ∷ []) place % length heads) place (omega arith)))
      (λ (behind : length hashes ≤ place).
      let last : place ≡ length nexts = let long = chained.long in omega arith in
      let is : place ≡ length hashes = omega arith in
      ap (slice_index (nexts ++ slice_index heads bucket ∷ [])) last
      ∙ index_pushed nexts (slice_index heads bucket)
      ∙ chained.head.each bucket within
      ∙ ap (λ (n : ℕ). newest n (length heads) hashes (length hashes)) bucket_is
      ∙ ap (λ (n : ℕ). newest (n % length heads) (length heads) hashes (length hashes)) (sym (index_pushed hashes hash))
      ∙ sym (newest_push (length heads) hashes hash (slice_index (hashes ++ hash ∷ []) (length hashes) % length heads) (length hashes) (omega arith))
      ∙ ap (λ (n : ℕ). newest (slice_index (hashes ++ hash ∷ []) n % length heads) (length heads) (hashes ++ hash ∷ []) n) (sym is))
      (cases_lt place (length hashes))

  head_added : (other : ℕ) → other < length heads
      → slice_index (set heads bucket number) other ≡ newest other (length heads) (hashes ++ hash ∷ []) (suc (length hashes))
  head_added other l =
      let pushed : slice_index (hashes ++ hash ∷ []) (length hashes) % length heads ≡ bucket =
      ap (λ (n : ℕ). n % length heads) (index_pushed hashes hash) ∙ sym bucket_is in
      ⊎_elim
      (λ (same : other ≡ bucket).
      ap (slice_index (set heads bucket number)) same ∙ index_set_same heads bucket number within ∙ number_is
      ∙ sym (cond-true (nat_eq (slice_index (hashes ++ hash ∷ []) (length hashes) % length heads) other) (suc (length hashes))
      (newest other (length heads) (hashes ++ hash ∷ []) (length hashes)) (eq-eqb _ other (pushed ∙ sym same))))
      (λ (differs : other ≡ bucket → ⊥).
      index_set_other heads bucket other number differs
      ∙ chained.head.each other l
      ∙ sym (newest_push (length heads) hashes hash other (length hashes) (omega arith))
      ∙ sym (cond-false (nat_eq (slice_index (hashes ++ hash ∷ []) (length hashes) % length heads) other) (suc (length hashes))
      (newest other (length heads) (hashes ++ hash ∷ []) (length hashes)) (ne_eqb _ other (λ e. differs (sym e ∙ pushed)))))
      (cases_eq other bucket)

  pub chained_add : IsChained (hashes ++ hash ∷ []) (nexts ++ slice_index heads bucket ∷ []) (set heads bucket number)
  chained_add =
      record {
        long = length_push nexts (slice_index heads bucket) ∙ ap suc chained.long ∙ sym (length_push hashes hash);
        next = record { each = rw (length_set heads bucket number, length_push hashes hash) next_added };
        head = record { each = rw (length_set heads bucket number, length_push hashes hash) head_added };
      }
