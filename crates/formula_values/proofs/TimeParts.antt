-- Dates and times of day, part by part.
use Rattle.std.proofs.Common.{◌≡◌, ℕ, List, [], ◌∷◌, ◌++◌, append_assoc}
use Rattle.bt_times.specs.declared.parts.Civil.{Civil}
use Rattle.formula_values.specs.Texts.{places, time_text}

pub all_parts : (old a b c d e f g : List ℕ) (shown : Civil) (units : ℕ) → a ≡ old ++ (places 4 shown.year ++ 45 ∷ []) →
    b ≡ a ++ (places 2 shown.month ++ 45 ∷ []) → c ≡ b ++ (places 2 shown.day ++ 84 ∷ []) → d ≡ c ++ (places 2 shown.hour ++ 58 ∷ []) →
    e ≡ d ++ (places 2 shown.minute ++ 58 ∷ []) → f ≡ e ++ (places 2 shown.second ++ 46 ∷ []) → g ≡ f ++ (places 7 units ++ 90 ∷ []) →
    g ≡ old ++ time_text shown units
unfolding time_text
all_parts old a b c d e f g shown units at_a at_b at_c at_d at_e at_f at_g = rw (at_g, at_f, at_e, at_d, at_c, at_b, at_a) (simp append_assoc)
