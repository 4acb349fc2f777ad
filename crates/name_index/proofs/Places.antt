-- Places in a list that grows at its end, or in which a row is replaced.
use Rattle.std.proofs.Common.{◌≡◌, ℕ, ◌+◌, Bool, true, false, List, [], ◌∷◌, ◌++◌, length, Option, Some, None, cond, not, eqb, ltb, ◌≤◌, refl, sym, ◌∙◌, ap}
use Rattle.std.proofs.Common.{subst, get_or, set, bytes_eq, arith}
use Rattle.std.specs.Cmp.Lexicographic.{bytes_decides}
use Rattle.std.specs.List.{position, position_or_len}
use Rattle.std.specs.Option.{option_or}
use Rattle.std.proofs.lemmas.Grind.{common_steps}
use Rattle.std.proofs.lemmas.List.Folds.{position_or_len-set, position_or_len_push}
use Rattle.std.proofs.lemmas.List.Sums.{prefix_len-le-length}
use Rattle.name_index.specs.declared.index.NameIndex.{NameIndex}
use Rattle.name_index.specs.Numbers.{number_of, with_number}
use Rattle.name_index.specs.Places.{ArePlaces}

module _ {X : Type 0} (p : X → Bool) (y : X) where
  -- by the two lengths
  at_end : (n l m : ℕ) (b : Bool) → n ≤ l → m ≡ cond (eqb n l) (l + cond b 0 1) n →
      cond (ltb m (l + 1)) (Some m) None ≡ option_or (cond (ltb n l) (Some n) None) (cond b (Some l) None)
  at_end n l m true short e = grind (arith, short, e)
  at_end n l m false short e = grind (arith, short, e)

  -- with one more row at the end
  last : (xs : List X) → position p (xs ++ y ∷ []) ≡ option_or (position p xs) (cond (p y) (Some (length xs)) None)
  last xs = let h = position_or_len_push p xs y in let short = prefix_len-le-length (λ x. not (p x)) xs in
      grind (common_steps, arith, at_end (position_or_len p xs) (length xs) (position_or_len p (xs ++ y ∷ [])) (p y) short h)

  -- a row in the place of one with the same result of the test
  pub replaced : (xs : List X) (k : ℕ) (d : X) → p y ≡ p (get_or xs k d) → position p (set xs k y) ≡ position p xs
  replaced xs k d e = let h = position_or_len-set p xs k y d e in grind (common_steps, arith, h)

module _ {X : Type 0} (named : List ℕ → X → Bool) where
  -- with one more at the end, whose name was not there, the number of that name is the length
  pub appended : (old new : NameIndex) (items : List X) (item : X) (name : List ℕ) → ArePlaces named old items → position (named name) items ≡ None →
      ((other : List ℕ) → named other item ≡ bytes_eq name other) →
      ((other : List ℕ) → number_of new other ≡ with_number (number_of old) name (length items) other) → ArePlaces named new (items ++ item ∷ [])
  appended old new items item name places absent has_name put other =
      put other ∙ either (bytes_eq name other) refl ∙ sym (last (named other) item items)
    where
      either : (b : Bool) → bytes_eq name other ≡ b →
          cond b (Some (length items)) (number_of old other) ≡ option_or (position (named other) items) (cond (named other item) (Some (length items)) None)
      either true h =
          sym (ap (λ r. option_or r (cond (named other item) (Some (length items)) None))
          (subst (λ l. position (named l) items ≡ None) ((bytes_decides name other).0 h) absent)
          ∙ ap (λ b. cond b (Some (length items)) None) (has_name other ∙ h))
      either false h =
          places other ∙ unchanged (position (named other) items)
          ∙ ap (λ b. option_or (position (named other) items) (cond b (Some (length items)) None)) (sym (has_name other ∙ h))
        where
          unchanged : (r : Option ℕ) → r ≡ option_or r None
          unchanged None = refl
          unchanged (Some k) = refl
