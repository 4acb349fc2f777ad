-- Pieces of which some bytes are read.
use Rattle.std.proofs.Common.{◌≡◌, ◌+◌, ◌<◌, ◌≤◌, ℕ, List, [], ◌∷◌, ◌++◌, length, take, drop, get_or, append_assoc, refl, sym, ap, ◌∙◌, arith, drop-cons, Vec, add-one}
use Rattle.std.proofs.lemmas.List.{take-append-drop, drop-drop, drop_all}
use Rattle.std.specs.Global.{Global}
use Rattle.http_link.specs.Pieces.{joined, rest_from}

-- the present piece, and those behind it
pub piece_here : (ps : List (Vec ℕ Global)) (i at : ℕ) (d : Vec ℕ Global) → i < length ps →
    rest_from at (drop i ps) ≡ drop at (get_or ps i d).items ++ joined (drop (i + 1) ps)
piece_here ps i at d less = ap (rest_from at) (drop-cons ps i d less) ∙ ap (λ k. drop at (get_or ps i d).items ++ joined (drop k ps)) (sym (add-one i))

-- from the first place on, all bytes are left
joined_is : (ps : List (Vec ℕ Global)) → rest_from 0 ps ≡ joined ps
joined_is [] = refl
joined_is (p ∷ ps) = refl

-- some bytes of the present piece are read
pub part_taken : (ps : List (Vec ℕ Global)) (i at n : ℕ) (d : Vec ℕ Global) (part : List ℕ) →
    i < length ps → part ≡ take n (drop at (get_or ps i d).items) → rest_from at (drop i ps) ≡ part ++ rest_from (at + n) (drop i ps)
part_taken ps i at n d part less e =
    let piece = (get_or ps i d).items in
    piece_here ps i at d less
    ∙ ap (λ w. w ++ joined (drop (i + 1) ps)) (sym (take-append-drop n (drop at piece)) ∙ ap (λ w. take n (drop at piece) ++ w) (drop-drop n at piece))
    ∙ append_assoc (take n (drop at piece)) (drop (at + n) piece) (joined (drop (i + 1) ps))
    ∙ ap (λ w. w ++ (drop (at + n) piece ++ joined (drop (i + 1) ps))) (sym e)
    ∙ ap (λ w. part ++ w) (sym (piece_here ps i (at + n) d less))

-- nothing of the present piece is left
pub piece_done : (ps : List (Vec ℕ Global)) (i at : ℕ) (d : Vec ℕ Global) →
    i < length ps → drop at (get_or ps i d).items ≡ [] → rest_from 0 (drop (i + 1) ps) ≡ rest_from at (drop i ps)
piece_done ps i at d less none = joined_is (drop (i + 1) ps) ∙ sym (piece_here ps i at d less ∙ ap (λ w. w ++ joined (drop (i + 1) ps)) none)

-- no piece is left
pub none_left : (ps : List (Vec ℕ Global)) (i at : ℕ) → length ps ≤ i → rest_from at (drop i ps) ≡ []
none_left ps i at le = ap (rest_from at) (drop_all i ps le)

-- a list of no length has no bytes
pub no_bytes : (xs : List ℕ) → length xs ≡ 0 → xs ≡ []
no_bytes [] e = refl
no_bytes (x ∷ xs) e = absurd (omega (arith, e))
