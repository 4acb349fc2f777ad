-- The first row that passes a test is the first that passes a stronger one, if it does.
use Rattle.std.proofs.Common.{◌≡◌, Bool, true, false, List, [], ◌∷◌, Option, Some, None, cond, refl, sym, ◌∙◌, ap}
use Rattle.std.specs.List.{find}

module _ {R : Type 0} (p q : R → Bool) (weaker : (x : R) → q x ≡ true → p x ≡ true) where
  none_cons : (x : R) (o other : Option R) (b c : Bool) → (c ≡ true → b ≡ true) → cond b (Some x) o ≡ None → (o ≡ None → other ≡ None) → cond c (Some x) other ≡ None
  none_cons x o other true c w h ih = absurd (cc)
  none_cons x o other false true w h ih = let k : false ≡ true = w refl in absurd (cc)
  none_cons x o other false false w h ih = ih h

  -- no row passes the stronger test if none passes the weaker one
  pub none_weaker : (xs : List R) → find p xs ≡ None → find q xs ≡ None
  none_weaker [] h = refl
  none_weaker (x ∷ xs) h = none_cons x (find p xs) (find q xs) (p x) (q x) (weaker x) h (none_weaker xs)

  first_cons : (x row : R) (o other : Option R) (b c : Bool) → (c ≡ true → b ≡ true) → q x ≡ c → cond b (Some x) o ≡ Some row → q row ≡ true → (o ≡ Some row → other ≡ Some row)
      → cond c (Some x) other ≡ Some row
  first_cons x row o other true true w e h passes ih = h
  first_cons x row o other true false w e h passes ih =
      let same : x ≡ row = cc in
      let k : false ≡ true = sym e ∙ ap q same ∙ passes in
      absurd (cc)
  first_cons x row o other false true w e h passes ih = let k : false ≡ true = w refl in absurd (cc)
  first_cons x row o other false false w e h passes ih = ih h

  -- the first row that passes the weaker test is the first that passes the stronger one, if it does
  pub first_weaker : (row : R) (xs : List R) → find p xs ≡ Some row → q row ≡ true → find q xs ≡ Some row
  first_weaker row [] h passes = absurd (cc)
  first_weaker row (x ∷ xs) h passes = first_cons x row (find p xs) (find q xs) (p x) (q x) (weaker x) refl h passes (λ f. first_weaker row xs f passes)
