-- Few bytes follow a message that was read: the last read came before it was whole.
use Rattle.std.proofs.Common.{◌≡◌, ◌<◌, ◌≤◌, ◌+◌, ◌||◌, ℕ, Bool, true, false, List, [], ◌∷◌, ◌++◌, length, drop, take, Option, append_assoc, refl, sym, ap, ◌∙◌, subst, inl, inr, arith, length-drop}
use Rattle.std.specs.List.{list_any}
use Rattle.std.proofs.Math.Seq.{take-append_seam}
use Rattle.std.proofs.lemmas.Bool.{cases_lt, true≢false}
use Rattle.std.proofs.lemmas.List.{append-nil, length-append, take-append-drop, take-append-le}
use Rattle.std.proofs.lemmas.List.Folds.{list_any-append}
use Rattle.httparse.specs.Grammar.{RequestHead, print_request, ReadsRequest, HasNoRequest}
use Rattle.http_link.specs.Filling.{Fills}
use Rattle.http_link.specs.declared.room.TheConstants.{FILL_BYTES}
use Rattle.http_head.specs.declared.heads.Head.{Head}
use Rattle.http_head.specs.Heads.{IsHead}
use Rattle.http_head.specs.Lines.{is_line_feed}
use Rattle.http_head.proofs.FewLines.{most_of, head_is}
use Rattle.http_serving.specs.Reading.{GrowsByLine}

-- whatever head the bytes begin with, fewer bytes follow it than one read may give
abbrev pub HasFewPast : List ℕ → Type 0
HasFewPast bytes = (h : RequestHead) (rest : List ℕ) → ReadsRequest bytes h rest → length rest < FILL_BYTES

-- the buffer grew, and no line ended in what it grew by
pub record NoLineYet (old new : List ℕ) : Type 0 where
  pub front : List ℕ
  pub grown : new ≡ old ++ front
  pub no_line : list_any is_line_feed front ≡ false

drop_whole : (xs ys : List ℕ) → drop (length xs) (xs ++ ys) ≡ ys
drop_whole [] ys = refl
drop_whole (x ∷ xs) ys = drop_whole xs ys

or_true : (b : Bool) → (b || true) ≡ true
or_true true = refl
or_true false = refl

-- of two ways to cut a text the longer front begins with the shorter one
cut_front : (a b c d : List ℕ) → a ++ b ≡ c ++ d → length a ≤ length c → c ≡ a ++ drop (length a) c
cut_front a b c d e le =
    sym (take-append-drop (length a) c)
    ∙ ap (λ w. w ++ drop (length a) c) (sym (take-append-le (length a) c d le) ∙ ap (λ w. take (length a) w) (sym e) ∙ take-append_seam a b)

module _ (old front last : List ℕ) (none : HasNoRequest old) (no_line : list_any is_line_feed front ≡ false) where
  -- a head ends with a line, so none ends where no line does
  line_in : (h : RequestHead) (rest : List ℕ) → old ++ front ≡ print_request h ++ rest → length old < length (print_request h) → ⊥
  line_in h rest e past =
      let cut : old ++ front ≡ most_of h ++ 10 ∷ rest = e ∙ ap (λ w. w ++ rest) (head_is h) ∙ append_assoc (most_of h) (10 ∷ []) rest in
      let fits : length old ≤ length (most_of h) = omega (arith, past, ap length (head_is h), length-append (most_of h) (10 ∷ [])) in
      let more = drop (length old) (most_of h) in
      let whole : old ++ front ≡ old ++ (more ++ 10 ∷ rest) =
      cut ∙ ap (λ w. w ++ 10 ∷ rest) (cut_front old front (most_of h) (10 ∷ rest) cut fits) ∙ append_assoc old more (10 ∷ rest) in
      let same : front ≡ more ++ 10 ∷ rest =
      sym (drop_whole old front) ∙ ap (λ w. drop (length old) w) whole ∙ drop_whole old (more ++ 10 ∷ rest) in
      let some : list_any is_line_feed front ≡ true =
      ap (λ w. list_any is_line_feed w) same ∙ list_any-append is_line_feed more (10 ∷ rest) ∙ or_true (list_any is_line_feed more) in
      true≢false (sym some ∙ no_line)

  no_head : (h : RequestHead) (rest : List ℕ) → ReadsRequest (old ++ front) h rest → ⊥
  no_head h rest (is, e) = elim (cases_lt (length old) (length (print_request h))) [
    | inl past ↦ line_in h rest e past
    | inr within ↦ none h (drop (length (print_request h)) old) (is, cut_front (print_request h) rest old front (sym e) within)
  ]

  few_past : length last ≤ FILL_BYTES → HasFewPast ((old ++ front) ++ last)
  few_past few h rest (is, e) = elim (cases_lt (length rest) FILL_BYTES) [
    | inl less ↦ less
    | inr more ↦ (
        let fits : length (print_request h) ≤ length (old ++ front) =
        omega (arith, more, few, ap length e, length-append (old ++ front) last, length-append (print_request h) rest) in
        absurd (no_head h (drop (length (print_request h)) (old ++ front)) (is, cut_front (print_request h) rest (old ++ front) last (sym e) fits))
        )
  ]

-- a buffer that was short at first
pub few_short : (bytes : List ℕ) → length bytes < FILL_BYTES → HasFewPast bytes
few_short bytes less = λ h rest reads. omega (arith, less, ap length reads.1, length-append (print_request h) rest)

-- a buffer that had no head, and grew to the next end of a line
pub few_by_line : {old new : List ℕ} → HasNoRequest old → GrowsByLine old new → HasFewPast new
few_by_line {old} {new} none g = subst HasFewPast (sym g.cut) (few_past old g.front g.last none g.no_line g.few)

pub found_few : {bytes : List ℕ} {head : Head} → HasFewPast bytes → IsHead bytes head → length bytes < head.len + FILL_BYTES
found_few {bytes} {head} few (h, at) =
    omega (arith, few h (drop head.len bytes) at.reads, at.within, length-drop head.len bytes)

pub no_line_start : (old : List ℕ) → NoLineYet old old
no_line_start old = record { front = []; grown = sym (append-nil old); no_line = refl }

pub no_line_on : {b c : Option (List ℕ)} {old mid new : List ℕ} {more : Bool} → NoLineYet old mid → Fills b c mid new more → list_any is_line_feed (drop (length mid) new) ≡ false → NoLineYet old new
no_line_on {b} {c} {old} {mid} {new} {more} n f none =
    let piece : list_any is_line_feed f.piece ≡ false =
    subst (λ w. list_any is_line_feed w ≡ false) (ap (λ w. drop (length mid) w) f.buffer ∙ drop_whole mid f.piece) none in
    record {
      front = n.front ++ f.piece;
      grown = f.buffer ∙ ap (λ w. w ++ f.piece) n.grown ∙ append_assoc old n.front f.piece;
      no_line = list_any-append is_line_feed n.front f.piece ∙ ap (λ v. v || list_any is_line_feed f.piece) n.no_line ∙ piece;
    }

pub by_line_filled : {b c : Option (List ℕ)} {old mid new : List ℕ} {more : Bool} → NoLineYet old mid → Fills b c mid new more → GrowsByLine old new
by_line_filled n f = record {
  front = n.front;
  last = f.piece;
  cut = f.buffer ∙ ap (λ w. w ++ f.piece) n.grown;
  no_line = n.no_line;
  few = f.few;
}

pub by_line_full : {old mid : List ℕ} → NoLineYet old mid → GrowsByLine old mid
by_line_full {old} {mid} n = record {
  front = n.front;
  last = [];
  cut = n.grown ∙ sym (append-nil (old ++ n.front));
  no_line = n.no_line;
  few = omega arith;
}

-- what is left of a buffer once its message is taken from it
pub few_left : (grown after : List ℕ) (len : ℕ) → length grown < len + FILL_BYTES → len ≤ length grown → after ≡ drop len grown → length after < FILL_BYTES
few_left grown after len few whole e = omega (arith, few, whole, ap length e, length-drop len grown)
