-- Steps that stop at the first fault.
use Rattle.std.proofs.Common.{◌≡◌, List, [], ◌∷◌, ◌++◌, Result, Ok, Err, refl, sym, ap, ◌∙◌, subst}
use Rattle.bt_base.specs.declared.fail.Fail.{Fail}
use Rattle.bt_base.specs.declared.fail.Fail.TheVariants.{Memory, Why}
use Rattle.bt_base.specs.Fails.{◌>>=◌, Fails, Gives}

-- a fault of the first step is one of both
pub fails_on : {A B E : Type 0} (r : Result A E) (go : A → Result B E) (f : Fail E) → Fails f r → Fails f (r >>= go)
fails_on r go Memory h = tt
fails_on r go (Why e) h = ap (λ q. q >>= go) h

-- the first step has a value
pub goes_on : {A B E : Type 0} (r : Result A E) (go : A → Result B E) (x : A) → r ≡ Ok x → (r >>= go) ≡ go x
goes_on r go x h = ap (λ q. q >>= go) h

pub ends_there : {A E : Type 0} (r : Result A E) → r ≡ (r >>= (λ x. Ok x))
ends_there (Ok x) = refl
ends_there (Err e) = refl

-- one more value after others, and what is made of them all
pub one_more : {A B E : Type 0} (r : Result (List A) E) (q : Result A E) (go : List A → Result B E) →
    ((r >>= (λ xs. q >>= (λ x. Ok (xs ++ x ∷ [])))) >>= go) ≡ (r >>= (λ xs. q >>= (λ x. go (xs ++ x ∷ []))))
one_more (Ok xs) (Ok x) go = refl
one_more (Ok xs) (Err e) go = refl
one_more (Err e) q go = refl

-- the result of two steps of which the first failed
pub first_failed : {A B E : Type 0} (result : Result B (Fail E)) (f : Fail E) (r : Result A E) (go : A → Result B E) (told : Result B E) → told ≡ (r >>= go) →
    result ≡ Err f → Fails f r → Gives result told
first_failed result f r go told e is h = subst (λ q. Gives q told) (sym is) (subst (λ q. Fails f q) (sym e) (fails_on r go f h))

-- the result of two steps of which the first succeeded
pub first_succeeded : {A B E : Type 0} (result : Result B (Fail E)) (x : A) (r : Result A E) (go : A → Result B E) (told : Result B E) → told ≡ (r >>= go) →
    r ≡ Ok x → Gives result (go x) → Gives result told
first_succeeded result x r go told e is h = subst (λ q. Gives result q) (sym (e ∙ goes_on r go x is)) h
