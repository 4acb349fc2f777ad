-- The name that a statement sets is a text: its bytes are those of a name's token.
use Rattle.std.proofs.Common.{◌≡◌, ℕ, zero, suc, ◌+◌, ◌-◌, ◌<◌, ◌≤◌, Bool, true, false, not, cond, List, [], ◌∷◌, ◌++◌, length, take, drop, Option, Some, None}
use Rattle.std.proofs.Common.{Result, Ok, Err, refl, sym, ap, ◌∙◌, subst, arith, nat_lt}
use Rattle.std.specs.Prelude.{◌==◌, unwrap_or}
use Rattle.std.specs.List.{prefix_len}
use Rattle.std.specs.Char.{is_ascii_digit}
use Rattle.std.specs.Str.{IsAscii}
use Rattle.std.proofs.lemmas.Bool.Decides.{nat_tests}
use Rattle.std.proofs.lemmas.List.{drop-drop}
use Rattle.std.proofs.lemmas.List.Sums.{prefix_len-le-length}
use Rattle.std.proofs.lemmas.Str.{IsUtf8-from_ascii}
use Rattle.bt_base.proofs.Utf8Texts.{of_text}
use Rattle.formula_trees.specs.declared.lex_fault.LexFault.TheVariants.{OpenString}
use Rattle.formula_trees.specs.declared.piece.Piece.TheVariants.{Lexeme, Wrong}
use Rattle.formula_trees.specs.declared.token.Kind.{Kind}
use Rattle.formula_trees.specs.declared.token.Kind.TheVariants.{Number, Text, Name, Semicolon}
use Rattle.formula_trees.specs.declared.token.Span.{Span}
use Rattle.formula_trees.specs.declared.token.Token.{Token}
use Rattle.formula_trees.specs.Pieces.{is_name_byte, next_byte, or_all, up_to, begins_name, string_with}
use Rattle.formula_trees.specs.Tree.{Tree}
use Rattle.formula_trees.specs.Grammar.{at}
use Rattle.formula_trees.specs.Formula.{StatementTree, Sets, ReadsStatement, sets, drops, ReadsFormula, empty, last, then}
use Rattle.formula_types.specs.Compiled.{IsFormula}
use Rattle.formula_types.specs.Scopes.{part}
use Rattle.formula_eval.specs.Outcomes.{text_in}
use Rattle.formula_laws.proofs.Lexemes.{is_mark, Found, a_name, a_number, a_string, a_mark, Each, each_front, each_back, AtEachPlace, each_token}

-- a statement that sets a name has the name's token
name_of_statement : (P : Token → Type 0) (ts : List Token) (s : StatementTree) (p : Span) (t : Tree) → ReadsStatement ts s → s ≡ Sets p t → Each P ts →
    P (at Name p)
name_of_statement P _ _ p t (sets q r reads) e h = let same : q ≡ p = cc in subst (λ (span : Span). P (at Name span)) same h.0
name_of_statement P _ _ p t (drops reads) e h = absurd cc

no_name : (front rest : List StatementTree) (s : StatementTree) → [] ≡ front ++ s ∷ rest → ⊥
no_name [] rest s e = cc
no_name (x ∷ front) rest s e = cc

-- the names that statements set are among the tokens
name_among : (P : Token → Type 0) (ts : List Token) (ss : List StatementTree) (front rest : List StatementTree) (p : Span) (t : Tree) → ReadsFormula ts ss →
    ss ≡ front ++ Sets p t ∷ rest → Each P ts → P (at Name p)
name_among P _ _ front rest p t empty e h = absurd (no_name front rest (Sets p t) e)
name_among P _ _ [] rest p t (last {ts = ts} {s = s} reads) e h = name_of_statement P ts s p t reads (cc) h
name_among P _ _ (x ∷ front) rest p t (last {ts = ts} {s = s} reads) e h = let none : [] ≡ front ++ Sets p t ∷ rest = cc in
    absurd (no_name front rest (Sets p t) none)
name_among P _ _ [] rest p t (then {ts = ts} {us = us} {s = s} {ss = ss} q reads others) e h =
    name_of_statement P ts s p t reads (cc) (each_front P ts (at Semicolon q ∷ us) h)
name_among P _ _ (x ∷ front) rest p t (then {ts = ts} {us = us} {s = s} {ss = ss} q reads others) e h =
    let later : ss ≡ front ++ Sets p t ∷ rest = cc in
    name_among P us ss front rest p t others later (each_back P ts (at Semicolon q ∷ us) h).1

-- the bytes of names

name_low : (b : ℕ) → not (not (is_name_byte b)) ≡ true → b < 128
name_low b h = grind (arith, nat_tests)

first_low : (b next : ℕ) → begins_name b next ≡ true → b < 128
first_low b next h = grind (arith, nat_tests)

ascii_more : (b : ℕ) (bytes : List ℕ) → b < 128 → IsAscii bytes → IsAscii (b ∷ bytes)
ascii_more b bytes low h zero = low
ascii_more b bytes low h (suc i) = h i

ascii_none : IsAscii []
ascii_none i = omega arith

abbrev is_within : ℕ → Bool
is_within b = not (not (is_name_byte b))

-- the bytes up to the first that is not a name's
name_run : (bytes : List ℕ) → IsAscii (take (prefix_len is_within bytes) bytes)
name_run [] = ascii_none
name_run (b ∷ bytes) = either (is_within b) refl (name_run bytes)
  where
    either : (c : Bool) → is_within b ≡ c → IsAscii (take (prefix_len is_within bytes) bytes) →
        IsAscii (take (cond c (1 + prefix_len is_within bytes) 0) (b ∷ bytes))
    either true e h = let one : 1 + prefix_len is_within bytes ≡ suc (prefix_len is_within bytes) = omega arith in
        subst (λ (n : ℕ). IsAscii (take n (b ∷ bytes))) (sym one) (ascii_more b (take (prefix_len is_within bytes) bytes) (name_low b e) h)
    either false e h = ascii_none

place_of : (n all : ℕ) → n ≤ all → or_all all (cond (nat_lt n all) (Some n) None) ≡ n
place_of n all h = grind (arith, nat_tests)

up_to_run : (bytes : List ℕ) → up_to (λ c. not (is_name_byte c)) bytes ≡ prefix_len is_within bytes
up_to_run bytes = place_of (prefix_len is_within bytes) (length bytes) (prefix_len-le-length is_within bytes)

string_other : (place length : ℕ) (rest : List ℕ) (more : ℕ) → string_with place length rest ≡ Lexeme Name more → ⊥
string_other place length rest more e = either (next_byte (drop length rest) == 34) e
  where
    either : (b : Bool) → cond b (Lexeme Text (length + 1)) (Wrong (OpenString place)) ≡ Lexeme Name more → ⊥
    either true e = cc
    either false e = cc

-- a name's piece is of bytes of names
name_piece : (place b : ℕ) (rest : List ℕ) (kind : Kind) (more : ℕ) → Found place b rest kind more → kind ≡ Name → IsAscii (b ∷ take more rest)
name_piece place b rest kind more (a_name is same size) e =
    ascii_more b (take more rest) (first_low b (next_byte rest) is)
    (subst (λ (n : ℕ). IsAscii (take n rest)) (sym (up_to_run rest) ∙ size) (name_run rest))
name_piece place b rest kind more (a_number n same) e = let other : Number n ≡ Name = same ∙ e in absurd cc
name_piece place b rest kind more (a_string is gave) e = absurd (string_other place _ rest more (gave ∙ ap (λ k. Lexeme k more) e))
name_piece place b rest kind more (a_mark is) e = let other : false ≡ true = sym (ap is_mark e) ∙ is in absurd cc

module _ (text : List ℕ) where
  -- if the token is a name, the part of the text that it is has the bytes of names
  abbrev IsLow : Token → Type 0
  IsLow t = t.kind ≡ Name → IsAscii (part text (record { from = t.from; to = t.to }))

  low_token : AtEachPlace text IsLow
  low_token place b rest kind more here found is =
      let size : place + 1 + more - place ≡ suc more = omega arith in
      subst IsAscii (sym (ap (λ (n : ℕ). take n (drop place text)) size ∙ ap (take (suc more)) here)) (name_piece place b rest kind more found is)

  -- a name that a statement sets is a text
  pub name_text : (front rest : List StatementTree) (p : Span) (t : Tree) → IsFormula text (front ++ Sets p t ∷ rest) → text_in (part text p) ≡ part text p
  name_text front rest p t formula =
      let low = name_among IsLow formula.tokens (front ++ Sets p t ∷ rest) front rest p t formula.read.only.reads refl
      (each_token text IsLow low_token formula.tokens formula.read.lexes) in
      ap (λ o. unwrap_or o []) (of_text (part text p) (IsUtf8-from_ascii (part text p) (low refl)))
