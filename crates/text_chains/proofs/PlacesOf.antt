-- The places of each text, by the index of the hashes.
use Rattle.std.proofs.Common.{◌≡◌, ℕ, zero, suc, ◌+◌, ◌<◌, ◌≤◌, Bool, true, false, cond, nat_eq, List, [], ◌∷◌, ◌++◌, length, map, filter, slice_index}
use Rattle.std.proofs.Common.{refl, sym, ap, ◌∙◌, ⊎_elim, arith}
use Rattle.std.specs.List.{AllByRecursion}
use Rattle.std.specs.Str.{bytes_eq}
use Rattle.std.proofs.lemmas.Bool.{cases_Bool, cases_eq, cond-true, cond-false, eq-eqb}
use Rattle.std.proofs.lemmas.Slice.Eq.{bytes_eq-Decides}
use Rattle.hash_index.specs.Hashes.{text_hash, places_below, places_with}
use Rattle.text_chains.specs.declared.links.Link.{Link}
use Rattle.text_chains.specs.Chains.{places_of, place_at, text_at, chains_below, chains_of, has_text, placed, AreNumbers, AreHashed}
use Rattle.text_chains.proofs.Texts.{length_push, text_before, text_new, chains_push, ended_push, within_push}

-- the places of chains
abbrev found : List ℕ → List (List ℕ × ℕ) → List ℕ
found text chains = map (λ chain. chain.1) (filter (λ chain. bytes_eq text chain.0) chains)

true_false : (b : Bool) → b ≡ true → b ≡ false → ⊥
true_false b e f = cc

eq_sym : (text other : List ℕ) → bytes_eq text other ≡ bytes_eq other text
eq_sym text other =
    ⊎_elim
    (λ (e : bytes_eq text other ≡ true). e ∙ sym ((bytes_eq-Decides other text).1 (sym ((bytes_eq-Decides text other).0 e))))
    (λ (e : bytes_eq text other ≡ false).
    ⊎_elim
    (λ (f : bytes_eq other text ≡ true). absurd (true_false (bytes_eq text other) ((bytes_eq-Decides text other).1 (sym ((bytes_eq-Decides other text).0 f))) e))
    (λ (f : bytes_eq other text ≡ false). e ∙ sym f)
    (cases_Bool (bytes_eq other text)))
    (cases_Bool (bytes_eq text other))

both : {X Y : Type 0} (f : X → ℕ) (g : Y → ℕ) (b : Bool) (x : X) (xs : List X) (y : Y) (ys : List Y) → f x ≡ g y → map f xs ≡ map g ys
    → map f (cond b (x ∷ xs) xs) ≡ map g (cond b (y ∷ ys) ys)
both f g true x xs y ys e h = ap (λ (n : ℕ). n ∷ map f xs) e ∙ ap (λ (rest : List ℕ). g y ∷ rest) h
both f g false x xs y ys e h = h

found_first : (b : Bool) (chain : List ℕ × ℕ) (rest : List (List ℕ × ℕ))
    → map (λ (c : List ℕ × ℕ). c.1) (cond b (chain ∷ rest) rest) ≡ cond b (chain.1 ∷ map (λ (c : List ℕ × ℕ). c.1) rest) (map (λ (c : List ℕ × ℕ). c.1) rest)
found_first true chain rest = refl
found_first false chain rest = refl

all_cond : (P : ℕ → Type 0) (b : Bool) (number : ℕ) (rest : List ℕ) → P number → AllByRecursion P rest → AllByRecursion P (cond b (number ∷ rest) rest)
all_cond P true number rest p all = (p, all)
all_cond P false number rest p all = all

-- the numbers that the index gives are those of links
pub numbers_below : (links : List Link) (hash : ℕ) (hashes : List ℕ) (count : ℕ) → count ≤ length links → AreNumbers links (places_below count hash hashes)
numbers_below links hash hashes zero l = tt
numbers_below links hash hashes (suc number) l =
    all_cond (λ n. n < length links) (nat_eq (slice_index hashes number) hash) number (places_below number hash hashes) (omega arith)
    (numbers_below links hash hashes number (omega arith))

module _ (hashes : List ℕ) (links : List Link) (texts text : List ℕ) (hashed : AreHashed hashes links texts) where
  differs : (number : ℕ) → number < length links → nat_eq (slice_index hashes number) (text_hash text) ≡ false → bytes_eq text (text_at links texts number) ≡ false
  differs number l other =
      ⊎_elim
      (λ (e : bytes_eq text (text_at links texts number) ≡ true).
      absurd (true_false (nat_eq (slice_index hashes number) (text_hash text))
      (eq-eqb (slice_index hashes number) (text_hash text)
      (hashed.hashed number l ∙ ap text_hash (sym ((bytes_eq-Decides text (text_at links texts number)).0 e)))) other))
      (λ (e : bytes_eq text (text_at links texts number) ≡ false). e)
      (cases_Bool (bytes_eq text (text_at links texts number)))

  found_below : (count : ℕ) → count ≤ length links → placed links texts text (places_below count (text_hash text) hashes) ≡ found text (chains_below count links texts)
  found_below zero l = refl
  found_below (suc number) l =
      let rest = found_below number (omega arith) in
      let numbers = places_below number (text_hash text) hashes in
      let chains = chains_below number links texts in
      ⊎_elim
      (λ (e : nat_eq (slice_index hashes number) (text_hash text) ≡ true).
      ap (placed links texts text) (cond-true (nat_eq (slice_index hashes number) (text_hash text)) (number ∷ numbers) numbers e)
      ∙ both (place_at links) (λ (c : List ℕ × ℕ). c.1) (has_text links texts text number) number (filter (has_text links texts text) numbers)
      (text_at links texts number, place_at links number) (filter (λ (c : List ℕ × ℕ). bytes_eq text c.0) chains) refl rest)
      (λ (e : nat_eq (slice_index hashes number) (text_hash text) ≡ false).
      ap (placed links texts text) (cond-false (nat_eq (slice_index hashes number) (text_hash text)) (number ∷ numbers) numbers e)
      ∙ rest
      ∙ sym (ap (map (λ (c : List ℕ × ℕ). c.1))
      (cond-false (bytes_eq text (text_at links texts number))
      ((text_at links texts number, place_at links number) ∷ filter (λ (c : List ℕ × ℕ). bytes_eq text c.0) chains)
      (filter (λ (c : List ℕ × ℕ). bytes_eq text c.0) chains) (differs number (omega arith) e))))
      (cases_Bool (nat_eq (slice_index hashes number) (text_hash text)))

  -- the places of the links that the index gives are those of the text
  pub places_found : (room : ℕ) → placed links texts text (places_with (text_hash text) hashes) ≡ places_of (record { chains = chains_of links texts; room = room }) text
  unfolding places_of places_with
  places_found room =
      ap (λ (n : ℕ). placed links texts text (places_below n (text_hash text) hashes)) hashed.counted
      ∙ found_below (length links) (omega arith)

  pub numbers_found : (hash : ℕ) → AreNumbers links (places_with hash hashes)
  unfolding places_with
  numbers_found hash = numbers_below links hash hashes (length hashes) (let e = hashed.counted in omega (arith, e))

-- no links have no places
pub places_none : (room : ℕ) (text : List ℕ) → places_of (record { chains = chains_of [] []; room = room }) text ≡ []
unfolding places_of
places_none room text = refl

-- the same links have the same places
pub places_kept : (old new : List Link) (texts more : List ℕ) (room rest : ℕ) → new ≡ old → more ≡ texts → (text : List ℕ)
    → places_of (record { chains = chains_of new more; room = rest }) text ≡ places_of (record { chains = chains_of old texts; room = room }) text
unfolding places_of
places_kept old new texts more room rest e f text =
    ap (λ (links : List Link). found text (chains_of links more)) e ∙ ap (λ (bytes : List ℕ). found text (chains_of old bytes)) f

index_before : (xs : List ℕ) (x k : ℕ) → k < length xs → slice_index (xs ++ x ∷ []) k ≡ slice_index xs k
index_before [] x k l = absurd (omega arith)
index_before (y ∷ xs) x zero l = refl
index_before (y ∷ xs) x (suc k) l = index_before xs x k (omega arith)

index_pushed : (xs : List ℕ) (x : ℕ) → slice_index (xs ++ x ∷ []) (length xs) ≡ x
index_pushed [] x = refl
index_pushed (y ∷ xs) x = index_pushed xs x

module _ (hashes : List ℕ) (links : List Link) (texts : List ℕ) (new : Link) (text : List ℕ) (hashed : AreHashed hashes links texts)
    (long : new.text_end ≡ length texts + length text) where
  -- a text that is added comes first
  pub places_add : (room rest : ℕ) (other : List ℕ)
      → places_of (record { chains = chains_of (links ++ new ∷ []) (texts ++ text); room = rest }) other
      ≡ cond (bytes_eq text other) (new.place ∷ places_of (record { chains = chains_of links texts; room = room }) other)
      (places_of (record { chains = chains_of links texts; room = room }) other)
  unfolding places_of
  places_add room rest other =
      let places = found other (chains_of links texts) in
      ap (found other) (chains_push links texts new text hashed.within hashed.ended long)
      ∙ found_first (bytes_eq other text) (text, new.place) (filter (λ (c : List ℕ × ℕ). bytes_eq other c.0) (chains_of links texts))
      ∙ ap (λ (b : Bool). cond b (new.place ∷ places) places) (eq_sym other text)

  pub hashed_push : AreHashed (hashes ++ text_hash text ∷ []) (links ++ new ∷ []) (texts ++ text)
  hashed_push = record {
    counted = length_push hashes (text_hash text) ∙ ap suc hashed.counted ∙ sym (length_push links new);
    hashed = each;
    within = within_push links texts new text hashed.within hashed.ended long;
    ended = ended_push links texts new text hashed.within hashed.ended long;
  }
    where
      each : (number : ℕ) → number < length (links ++ new ∷ [])
          → slice_index (hashes ++ text_hash text ∷ []) number ≡ text_hash (text_at (links ++ new ∷ []) (texts ++ text) number)
      each number l =
          let count = length_push links new in
          let counted = hashed.counted in
          ⊎_elim
          (λ (e : number ≡ length links).
          ap (slice_index (hashes ++ text_hash text ∷ [])) (e ∙ sym counted) ∙ index_pushed hashes (text_hash text)
          ∙ sym (ap text_hash (ap (text_at (links ++ new ∷ []) (texts ++ text)) e ∙ text_new links texts new text hashed.within hashed.ended long)))
          (λ (e : number ≡ length links → ⊥).
          let old : number < length links = omega (arith, l, count, e) in
          index_before hashes (text_hash text) number (omega (arith, old, counted)) ∙ hashed.hashed number old
          ∙ sym (ap text_hash (text_before links texts new text hashed.within number old)))
          (cases_eq number (length links))
