-- Keys are the same exactly if their texts are.
use Rattle.std.proofs.Common.{◌≡◌, ℕ, zero, suc, ◌/◌, ◌%◌, ◌&&◌, List, [], ◌∷◌, ◌++◌, length, nat_eq, refl, sym, ap, ◌∙◌, arith}
use Rattle.std.specs.Bool.{Decides}
use Rattle.std.specs.Str.{bytes_eq}
use Rattle.std.specs.Cmp.Lexicographic.{bytes_decides}
use Rattle.std.proofs.lemmas.Bool.Decides.{same_from_decides, Decides-and, Decides-eqb, Decides-like}
use Rattle.bt_base.specs.Ids.{same, lowered}
use Rattle.kept_table.specs.Keys.{low_bytes, number_text, id_text, ids_text, number_id_text}

pub same-id : (a b : List ℕ) → same a b ≡ bytes_eq (id_text a) (id_text b)
unfolding same
same-id a b = refl

same_decides : (a b : List ℕ) → Decides (same a b) (lowered a ≡ lowered b)
unfolding same
same_decides a b = bytes_decides (lowered a) (lowered b)

-- equal lists with equally long first parts have equal parts
parts_of : (a b c d : List ℕ) → length a ≡ length b → a ++ c ≡ b ++ d → (a ≡ b) × (c ≡ d)
parts_of [] [] c d l e = (refl, e)
parts_of [] (y ∷ b) c d l e = absurd (omega arith)
parts_of (x ∷ a) [] c d l e = absurd (omega arith)
parts_of (x ∷ a) (y ∷ b) c d l e =
    let one : x ≡ y = cc in
    let rest : a ++ c ≡ b ++ d = cc in
    let both = parts_of a b c d (omega arith) rest in
    let first = both.0 in
    (cc, both.1)

pub lowered_length : (a : List ℕ) → length (lowered a) ≡ length a
lowered_length [] = refl
lowered_length (x ∷ a) = ap suc (lowered_length a)

two_ids : (a b c d : List ℕ) → (lowered a ≡ lowered c) × (lowered b ≡ lowered d) → ids_text a b ≡ ids_text c d
two_ids a b c d e =
    let long : length a ≡ length c = sym (lowered_length a) ∙ ap length e.0 ∙ lowered_length c in
    let first = e.0 in
    let second = e.1 in
    cc

of_two_ids : (a b c d : List ℕ) → ids_text a b ≡ ids_text c d → (lowered a ≡ lowered c) × (lowered b ≡ lowered d)
of_two_ids a b c d e =
    let long : length a ≡ length c = cc in
    let rest : lowered a ++ lowered b ≡ lowered c ++ lowered d = cc in
    parts_of (lowered a) (lowered c) (lowered b) (lowered d) (lowered_length a ∙ long ∙ sym (lowered_length c)) rest

pub same-ids : (a b c d : List ℕ) → (same a c && same b d) ≡ bytes_eq (ids_text a b) (ids_text c d)
same-ids a b c d =
    same_from_decides (same a c && same b d) (bytes_eq (ids_text a b) (ids_text c d))
    (Decides-like (same a c && same b d) (two_ids a b c d) (of_two_ids a b c d) (Decides-and (same a c) (same b d) (same_decides a c) (same_decides b d)))
    (bytes_decides (ids_text a b) (ids_text c d))

length-low_bytes : (count n : ℕ) → length (low_bytes count n) ≡ suc count
length-low_bytes zero n = refl
length-low_bytes (suc count) n = ap suc (length-low_bytes count (n / 256))

of_low_bytes : (count m n : ℕ) → low_bytes count m ≡ low_bytes count n → m ≡ n
of_low_bytes zero m n e = cc
of_low_bytes (suc count) m n e =
    let low : m % 256 ≡ n % 256 = cc in
    let rest : low_bytes count (m / 256) ≡ low_bytes count (n / 256) = cc in
    let high : m / 256 ≡ n / 256 = of_low_bytes count (m / 256) (n / 256) rest in
    omega arith

number_decides : (m n : ℕ) → Decides (nat_eq m n) (number_text m ≡ number_text n)
unfolding number_text
number_decides m n = Decides-like (nat_eq m n) (ap number_text) (of_low_bytes 7 m n) (Decides-eqb m n)

pub same-number : (m n : ℕ) → nat_eq m n ≡ bytes_eq (number_text m) (number_text n)
same-number m n = same_from_decides (nat_eq m n) (bytes_eq (number_text m) (number_text n)) (number_decides m n) (bytes_decides (number_text m) (number_text n))

pub number_text_length : (n : ℕ) → length (number_text n) ≡ 8
unfolding number_text
number_text_length n = length-low_bytes 7 n

of_number_id : (m n : ℕ) (a b : List ℕ) → number_id_text m a ≡ number_id_text n b → (number_text m ≡ number_text n) × (lowered a ≡ lowered b)
of_number_id m n a b e = parts_of (number_text m) (number_text n) (lowered a) (lowered b) (number_text_length m ∙ sym (number_text_length n)) e

pub same-number_id : (m n : ℕ) (a b : List ℕ) → (nat_eq m n && same a b) ≡ bytes_eq (number_id_text m a) (number_id_text n b)
same-number_id m n a b =
    same_from_decides (nat_eq m n && same a b) (bytes_eq (number_id_text m a) (number_id_text n b))
    (Decides-like (nat_eq m n && same a b) (λ e. let one = e.0 in let two = e.1 in cc) (of_number_id m n a b)
    (Decides-and (nat_eq m n) (same a b) (number_decides m n) (same_decides a b)))
    (bytes_decides (number_id_text m a) (number_id_text n b))
