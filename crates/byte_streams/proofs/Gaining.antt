-- What a sink takes over several writes.
use Rattle.std.proofs.Common.{◌≡◌, ◌-◌, ℕ, List, [], ◌++◌, Option, None, Some, append_assoc, sym, ap, ◌∙◌, length, take, drop, refl, subst}
use Rattle.std.proofs.lemmas.List.{append-nil, take_rest, take-append-drop}
use Rattle.byte_streams.specs.Content.{Gains, GainsFront, Sent}

pub gains_nothing : (a : Option (List ℕ)) → Gains a a []
gains_nothing None = tt
gains_nothing (Some xs) = sym (append-nil xs)

pub gains_more : (a b c : Option (List ℕ)) (x y : List ℕ) → Gains a b x → Gains b c y → Gains a c (x ++ y)
gains_more a b None x y f g = tt
gains_more a None (Some zs) x y f g = absurd g
gains_more None (Some ys) (Some zs) x y f g = absurd f
gains_more (Some xs) (Some ys) (Some zs) x y f g = g ∙ ap (λ w. w ++ y) f ∙ append_assoc xs x y

pub sent_none : (a : Option (List ℕ)) (whole : List ℕ) → Sent a a whole whole
sent_none a whole = record { front = []; cut = refl; gained = gains_nothing a }

pub sent_more : {a b : Option (List ℕ)} {whole left : List ℕ} (c : Option (List ℕ)) (piece rest : List ℕ) → Sent a b whole left → left ≡ piece ++ rest →
    Gains b c piece → Sent a c whole rest
sent_more {a} {b} {whole} {left} c piece rest s e g = record {
  front = s.front ++ piece;
  cut = s.cut ∙ ap (λ w. s.front ++ w) e ∙ sym (append_assoc s.front piece rest);
  gained = gains_more a b c s.front piece s.gained g;
}

pub sent_short : {a b c : Option (List ℕ)} {whole left piece : List ℕ} (rest : List ℕ) → Sent a b whole left → left ≡ piece ++ rest → GainsFront b c piece →
    GainsFront a c whole
sent_short {a} {b} {c} {whole} {left} {piece} rest s e g = record {
  front = s.front ++ g.front;
  rest = g.rest ++ rest;
  cut = s.cut ∙ ap (λ w. s.front ++ w) e ∙ ap (λ w. s.front ++ (w ++ rest)) g.cut ∙ ap (λ w. s.front ++ w) (append_assoc g.front g.rest rest)
      ∙ sym (append_assoc s.front g.front (g.rest ++ rest));
  gained = gains_more a b c s.front g.front s.gained g.gained;
}

pub sent_front : {a b : Option (List ℕ)} {whole rest : List ℕ} → Sent a b whole rest → GainsFront a b whole
sent_front {a} {b} {whole} {rest} s = record { front = s.front; rest = rest; cut = s.cut; gained = s.gained }

pub sent_all : {a b : Option (List ℕ)} {whole : List ℕ} → Sent a b whole [] → Gains a b whole
sent_all {a} {b} {whole} s = subst (λ w. Gains a b w) (sym (s.cut ∙ append-nil s.front)) s.gained

-- a piece is its front, what is taken next, and the rest
pub cut_more : (p front rest : List ℕ) (n : ℕ) → p ≡ front ++ rest → p ≡ (front ++ take n rest) ++ take (length rest - n) (drop n rest)
cut_more p front rest n e = e ∙ ap (λ w. front ++ w) (sym (ap (λ w. take n rest ++ w) (take_rest rest n) ∙ take-append-drop n rest))
    ∙ sym (append_assoc front (take n rest) (take (length rest - n) (drop n rest)))
