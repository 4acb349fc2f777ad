-- A number is written as its bytes, lowest first.
use Rattle.std.proofs.Common.{◌≡◌, ℕ, suc, ◌+◌, ◌-◌, ◌/◌, ◌%◌, ◌^◌, ◌<◌, List, [], ◌∷◌, ◌++◌}
use Rattle.std.proofs.Common.{length, refl, ap, subst, ◌∙◌, arith, length-append, pow-suc}
use Rattle.std.proofs.lemmas.List.{append_assoc}
use Rattle.kept_table.specs.Keys.{low_bytes, number_text}

-- `count` bytes of the number are written, and `rest` is left
pub record IsLeft (old text : List ℕ) (number rest count : ℕ) : Type 0 where
  pub bytes : text ++ low_bytes (7 - count) rest ≡ old ++ low_bytes 7 number
  pub long : length text ≡ length old + count
  pub small : rest < 256 ^ (8 - count)

pub left_first : (old : List ℕ) (number : ℕ) → number < 2 ^ 64 → IsLeft old old number number 0
left_first old number small = record { bytes = refl; long = omega arith; small = small }

smaller : (rest k : ℕ) → rest < 256 ^ suc k → rest / 256 < 256 ^ k
smaller rest k h = let more = pow-suc 256 k in let p = 256 ^ k in omega arith

pub left_next : (old text now : List ℕ) (number rest count : ℕ) → count < 7 → IsLeft old text number rest count → now ≡ text ++ (rest % 256) ∷ []
    → IsLeft old now number (rest / 256) (count + 1)
left_next old text now number rest count few left is =
    let turn : 7 - count ≡ suc (7 - (count + 1)) = omega arith in
    let places : 8 - count ≡ suc (8 - (count + 1)) = omega arith in
    let small = subst (λ (n : ℕ). rest < 256 ^ n) places left.small in
    let same = subst (λ (n : ℕ). text ++ low_bytes n rest ≡ old ++ low_bytes 7 number) turn left.bytes in
    let long = left.long in
    record {
      bytes =
          ap (λ (xs : List ℕ). xs ++ low_bytes (7 - (count + 1)) (rest / 256)) is
          ∙ append_assoc text ((rest % 256) ∷ []) (low_bytes (7 - (count + 1)) (rest / 256)) ∙ same;
      long = ap length is ∙ length-append text ((rest % 256) ∷ []) ∙ omega arith;
      small = smaller rest (8 - (count + 1)) small;
    }

pub left_last : (old text : List ℕ) (number rest count : ℕ) → count ≡ 7 → IsLeft old text number rest count
    → (rest < 256) × (text ++ rest ∷ [] ≡ old ++ number_text number)
unfolding number_text
left_last old text number rest count seven left =
    let last = subst (λ (n : ℕ). IsLeft old text number rest n) seven left in
    (last.small, last.bytes)
