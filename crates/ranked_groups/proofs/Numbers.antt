-- Numbers of names.
use Rattle.std.proofs.Common.{◌≡◌, ℕ, suc, zero, ◌<◌, Bool, true, false, cond, List, [], ◌∷◌, ◌++◌, length, get_or}
use Rattle.std.proofs.Common.{Option, Some, None, refl, sym, ap, ◌∙◌, arith}
use Rattle.std.specs.Option.{option_map}
use Rattle.std.specs.Str.{bytes_eq}
use Rattle.std.proofs.lemmas.Slice.Eq.{bytes_eq-Decides}
use Rattle.std.proofs.lemmas.Bool.{cond-true, true≢false}
use Rattle.ranked_groups.specs.Groups.{number_in}

-- a number that was found is one of the names'
pub record IsFound (name : List ℕ) (names : List (List ℕ)) (number : ℕ) : Type 0 where
  pub within : number < length names
  pub is : get_or names number [] ≡ name

pub found : (name : List ℕ) (names : List (List ℕ)) (number : ℕ) → number_in name names ≡ Some number → IsFound name names number
found name [] number h = absurd (cc)
found name (old ∷ names) number h =
    found_by (bytes_eq old name) (number_in name names) number (λ e. (bytes_eq-Decides old name).0 e) h (λ k e. found name names k e)
  where
    found_by : (a : Bool) (p : Option ℕ) (number : ℕ) → (a ≡ true → old ≡ name) → cond a (Some 0) (option_map suc p) ≡ Some number
        → ((k : ℕ) → p ≡ Some k → IsFound name names k) → IsFound name (old ∷ names) number
    found_by true p zero same h f = record { within = omega arith; is = same refl }
    found_by true p (suc number) same h f = absurd (cc)
    found_by false None number same h f = absurd (cc)
    found_by false (Some k) number same h f =
        let next : number ≡ suc k = cc in
        let b = f k refl in
        let low = b.within in
        rw next (record { within = omega arith; is = b.is })

-- a name that is the same has the same number
pub number_same : (name other : List ℕ) (names : List (List ℕ)) → bytes_eq name other ≡ true → number_in other names ≡ number_in name names
number_same name other names e = ap (λ (n : List ℕ). number_in n names) (sym ((bytes_eq-Decides name other).0 e))

-- one more name at the end
pub number_push : (name other : List ℕ) (names : List (List ℕ)) → number_in name names ≡ None
    → number_in other (names ++ name ∷ []) ≡ cond (bytes_eq name other) (Some (length names)) (number_in other names)
number_push name other [] h = refl
number_push name other (old ∷ names) h =
    push_by (bytes_eq old name) (bytes_eq old other) (bytes_eq name other) (number_in name names) (number_in other names)
    (number_in other (names ++ name ∷ [])) (length names) h
    (λ e f. (bytes_eq-Decides old name).1 ((bytes_eq-Decides old other).0 e ∙ sym ((bytes_eq-Decides name other).0 f)))
    (λ e. number_push name other names e)
  where
    push_by : (mine a b : Bool) (p q r : Option ℕ) (n : ℕ) → cond mine (Some 0) (option_map suc p) ≡ None → (a ≡ true → b ≡ true → mine ≡ true)
        → (p ≡ None → r ≡ cond b (Some n) q)
        → cond a (Some 0) (option_map suc r) ≡ cond b (Some (suc n)) (cond a (Some 0) (option_map suc q))
    push_by true a b p q r n h f g = absurd (cc)
    push_by false a b (Some k) q r n h f g = absurd (cc)
    push_by false true true None q r n h f g = absurd (true≢false (sym (f refl refl)))
    push_by false true false None q r n h f g = refl
    push_by false false true None q r n h f g = ap (option_map suc) (g refl)
    push_by false false false None q r n h f g = ap (option_map suc) (g refl)

pub number_new : (name : List ℕ) (names : List (List ℕ)) → number_in name names ≡ None → number_in name (names ++ name ∷ []) ≡ Some (length names)
number_new name names h =
    number_push name name names h ∙ cond-true (bytes_eq name name) (Some (length names)) (number_in name names) ((bytes_eq-Decides name name).1 refl)
