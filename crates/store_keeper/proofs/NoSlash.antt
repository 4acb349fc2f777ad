-- Ids have no `/`, so the parts of a key can be told apart.
use Rattle.std.proofs.Common.{◌≡◌, ◌≢◌, ℕ, ◌+◌, ◌≤◌, Bool, true, false, not, cond, List, [], ◌∷◌, length, nat_eq, nat_lt}
use Rattle.std.proofs.Common.{Option, Some, None, refl, sym, ap, ◌∙◌, ⊎_elim, arith}
use Rattle.std.specs.Option.{option_map}
use Rattle.std.specs.List.{prefix_len, position_or_len}
use Rattle.std.specs.Char.{to_ascii_lowercase}
use Rattle.std.proofs.lemmas.Bool.{cases_Bool, cond-true, cond-false, ltb-false}
use Rattle.std.proofs.lemmas.Bool.Decides.{nat_tests}
use Rattle.bt_base.specs.declared.id.IdFault.{IdFault}
use Rattle.bt_base.specs.declared.id.IdFault.TheVariants.{Empty, TooLong, BadCharacter}
use Rattle.bt_base.specs.Ids.{lowered, is_id_byte, character_count, bad_place, IsId}
use Rattle.store_keeper.specs.Keys.{joined}

-- the text has no `/`, which is 47
abbrev pub NoSlash : List ℕ → Type 0
NoSlash [] = Unit {0}
NoSlash (b ∷ text) = (b ≢ 47) × NoSlash text

-- a text without `/`, then `/` and more: both parts are those of an equal text
pub parted : (a c b d : List ℕ) → NoSlash a → NoSlash c → joined a b ≡ joined c d → (a ≡ c) × (b ≡ d)
parted [] [] b d p q e = (refl, cc)
parted [] (y ∷ c) b d p q e = let h : 47 ≡ y = cc in absurd (q.0 (sym h))
parted (x ∷ a) [] b d p q e = let h : x ≡ 47 = cc in absurd (p.0 h)
parted (x ∷ a) (y ∷ c) b d p q e =
    let h : x ≡ y = cc in
    let k : joined a b ≡ joined c d = cc in
    let r = parted a c b d p.1 q.1 k in
    (ap (λ z. z ∷ a) h ∙ ap (λ z. y ∷ z) r.0, r.1)

low_byte : (x : ℕ) → not (not (is_id_byte x)) ≡ true → to_ascii_lowercase x ≢ 47
low_byte x h = λ e. grind (arith, nat_tests)

-- if no byte fails the test of ids, none is `/` in lower case
each_low : (xs : List ℕ) → length xs ≤ prefix_len (λ b. not (not (is_id_byte b))) xs → NoSlash (lowered xs)
each_low [] h = tt
each_low (x ∷ xs) h =
    let q = λ (b : ℕ). not (not (is_id_byte b)) in
    ⊎_elim
    (λ (e : q x ≡ true).
    let more : prefix_len q (x ∷ xs) ≡ 1 + prefix_len q xs = cond-true (q x) (1 + prefix_len q xs) 0 e in
    (low_byte x e, each_low xs (omega (arith, h, more))))
    (λ (e : q x ≡ false).
    let none : prefix_len q (x ∷ xs) ≡ 0 = cond-false (q x) (1 + prefix_len q xs) 0 e in
    absurd (omega (arith, h, none)))
    (cases_Bool (q x))

test_of_none : (b : Bool) (n : ℕ) → cond b (Some n) None ≡ None → b ≡ false
test_of_none true n h = absurd (cc)
test_of_none false n h = refl

last_fault : (a b : Bool) (e t : IdFault) (p : Option ℕ) → cond a (Some e) (cond b (Some t) (option_map (λ place. BadCharacter place) p)) ≡ None → p ≡ None
last_fault true b e t p h = absurd (cc)
last_fault false true e t p h = absurd (cc)
last_fault false false e t None h = refl
last_fault false false e t (Some k) h = absurd (cc)

-- an id in lower case has no `/`
pub no_slash : (text : List ℕ) → IsId text → NoSlash (lowered text)
no_slash text h =
    let fault = last_fault (nat_eq (length text) 0) (nat_lt 64 (character_count text)) Empty TooLong (bad_place text) h in
    let before = position_or_len (λ (b : ℕ). not (is_id_byte b)) text in
    let whole : length text ≤ before = ltb-false before (length text) (test_of_none (nat_lt before (length text)) before fault) in
    each_low text whole
