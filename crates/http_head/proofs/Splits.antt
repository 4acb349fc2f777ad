-- A text that is cut at each byte that passes a test: its first part, and the parts after it.
use Rattle.std.proofs.Common.{◌≡◌, ◌<◌, ◌+◌, ℕ, Bool, true, false, cond, List, [], ◌∷◌, length, take, drop, refl, sym, ap, arith, Option, Some, None, subst}
use Rattle.std.specs.List.{position, position_or_len, slice_split, onto_first}
use Rattle.std.specs.Option.{MatchOption}
use Rattle.std.proofs.lemmas.List.Splits.{slice_split_first}
use Rattle.std.proofs.lemmas.List.Quantifiers.{position-Some}
use Rattle.std.proofs.lemmas.List.Sums.{position_or_len_is}

-- no byte passes, so the text is its one part
one_part : (p : ℕ → Bool) (text : List ℕ) → position p text ≡ None → slice_split p text ≡ text ∷ []
one_part p [] e = refl
one_part p (b ∷ text) e = elim (p b) as (λ v. (p b ≡ v) → cond v ([] ∷ slice_split p text) (onto_first b (slice_split p text)) ≡ (b ∷ text) ∷ []) [
  | true ↦ (λ yes. absurd (grind (arith, yes, e)))
  | false ↦ (λ no. ap (onto_first b) (one_part p text (grind (arith, no, e))))
] refl

-- the parts round the place that `position` gives
pub parts_at : (p : ℕ → Bool) (text : List ℕ) (place : Option ℕ) → place ≡ position p text →
    MatchOption place (slice_split p text ≡ text ∷ []) (λ at. (slice_split p text ≡ take at text ∷ slice_split p (drop (at + 1) text)) × (at < length text))
parts_at p text None e = one_part p text (sym e)
parts_at p text (Some at) e =
    let found = position-Some p text at 0 (sym e) in
    let same : position_or_len p text ≡ at = position_or_len_is p text at 0 (omega (arith, found.0)) found.2 (λ less. found.1) in
    (subst (λ n. slice_split p text ≡ take n text ∷ slice_split p (drop (n + 1) text)) same (slice_split_first p text 0 (omega (arith, same, found.0))), found.0)
