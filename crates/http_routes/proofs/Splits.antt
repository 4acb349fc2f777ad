-- A text that is cut at each separator: its first part, and the parts after it.
use Rattle.std.proofs.Common.{◌≡◌, ◌<◌, ℕ, Bool, true, false, cond, List, [], ◌∷◌, length, refl, sym, ap, ◌∙◌, arith, Option, Some, None, Bor}
use Rattle.std.specs.List.{position_or_len, after_first, slice_split, onto_first}
use Rattle.std.specs.Option.{MatchOption}
use Rattle.std.proofs.lemmas.List.Splits.{slice_split_first}
use Rattle.std.proofs.lemmas.Str.Pattern.{IsSplitOnceResult, split_once_first}
use Rattle.http_routes.specs.Targets.{is_byte}

-- no byte passes, so the text is its one part
one_part : (p : ℕ → Bool) (text : List ℕ) → position_or_len p text ≡ length text → slice_split p text ≡ text ∷ []
one_part p [] e = refl
one_part p (b ∷ text) e = elim (p b) as (λ v. (p b ≡ v) → cond v ([] ∷ slice_split p text) (onto_first b (slice_split p text)) ≡ (b ∷ text) ∷ []) [
  | true ↦ (λ yes. absurd (grind (arith, yes, e)))
  | false ↦ (λ no. ap (onto_first b) (one_part p text (grind (arith, no, e))))
] refl

pub parts_of : (c : ℕ) (text : List ℕ) (r : Option (Bor (List ℕ) × Bor (List ℕ))) → IsSplitOnceResult c text r → c < 128 →
    MatchOption r (slice_split (is_byte c) text ≡ text ∷ []) (λ parts. slice_split (is_byte c) text ≡ parts.0.now ∷ slice_split (is_byte c) parts.1.now)
parts_of c text None cut small = one_part (is_byte c) text (split_once_first c text None cut small)
parts_of c text (Some parts) cut small =
    let found = split_once_first c text (Some parts) cut small in
    slice_split_first (is_byte c) text 0 found.0 ∙ ap (λ w. w ∷ slice_split (is_byte c) (after_first (is_byte c) text)) (sym found.1)
    ∙ ap (λ w. parts.0.now ∷ slice_split (is_byte c) w) (sym found.2)
