-- What contracts see of a map of numbers.
use Rattle.std.proofs.Common.{◌≡◌, Vec, ℕ, Bool, true, false, cond, List, [], ◌∷◌, Option, Some, None, refl, sym, ap, ◌∙◌}
use Rattle.std.specs.Str.{bytes_eq}
use Rattle.std.specs.HashMap.{HashMap, get_by}
use Rattle.std.specs.Map.{lookup}
use Rattle.kept_table.specs.Slots.{has_bytes}
use Rattle.row_keys.specs.Numbers.{number_at, numbers_of}

pub number_is : {Z : Type 0} (entries : List (Vec ℕ Z × ℕ)) (text : List ℕ) → number_at (numbers_of entries) text ≡ lookup (has_bytes text) entries
unfolding number_at
number_is [] text = refl
number_is (entry ∷ entries) text = ap (λ (rest : Option ℕ). cond (bytes_eq text entry.0.items) (Some entry.1) rest) (number_is entries text)

pub number_none : {Z : Type 0} (entries : List (Vec ℕ Z × ℕ)) → entries ≡ [] → (text : List ℕ) → number_at (numbers_of entries) text ≡ None
number_none entries empty text = number_is entries text ∙ ap (lookup (has_bytes text)) empty

pub number_put : {Z S : Type 0} (old new : HashMap (Vec ℕ Z) ℕ S) (text : List ℕ) (number : ℕ)
    → ((other : List ℕ) → get_by (has_bytes other) new ≡ cond (bytes_eq text other) (Some number) (get_by (has_bytes other) old))
    → (other : List ℕ) → number_at (numbers_of new.entries) other ≡ cond (bytes_eq text other) (Some number) (number_at (numbers_of old.entries) other)
number_put old new text number h other =
    number_is new.entries other ∙ h other
    ∙ ap (λ (rest : Option ℕ). cond (bytes_eq text other) (Some number) rest) (sym (number_is old.entries other))
