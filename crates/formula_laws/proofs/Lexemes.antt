-- What a text has at a place, by the kind of the token there; and what holds of the token at each place holds of all tokens.
use Rattle.std.proofs.Common.{◌≡◌, ℕ, zero, suc, ◌+◌, Bool, true, false, not, cond, List, [], ◌∷◌, ◌++◌, drop, Option, Some, None, Result, Ok, Err, refl, sym}
use Rattle.std.proofs.Common.{ap, ◌∙◌, subst}
use Rattle.std.specs.Prelude.{◌==◌, ℤ}
use Rattle.std.specs.Char.{is_ascii_digit}
use Rattle.std.proofs.lemmas.List.{drop-drop}
use Rattle.formula_trees.specs.declared.lex_fault.LexFault.{LexFault}
use Rattle.formula_trees.specs.declared.piece.Piece.{Piece}
use Rattle.formula_trees.specs.declared.piece.Piece.TheVariants.{Gap, Lexeme, Wrong}
use Rattle.formula_trees.specs.declared.token.BinaryOperator.TheVariants.{Or, And, Equal, NotEqual, Less, AtMost, Greater, AtLeast, Add, Subtract, Multiply}
use Rattle.formula_trees.specs.declared.token.BinaryOperator.TheVariants.{Divide}
use Rattle.formula_trees.specs.declared.token.Kind.{Kind}
use Rattle.formula_trees.specs.declared.token.Kind.TheVariants.{Number, Text, Name, Infix, Bang, Question, Colon, Comma, Semicolon, Assign, Dot, OpenGroup}
use Rattle.formula_trees.specs.declared.token.Kind.TheVariants.{CloseGroup, OpenList, CloseList}
use Rattle.formula_trees.specs.declared.token.Token.{Token}
use Rattle.formula_trees.specs.Lexing.{prepended, token_at, with_piece, tokens_in, lexed}
use Rattle.formula_trees.specs.Pieces.{is_blank, is_line_end, is_name_byte, next_byte, up_to, begins_comment, begins_name, number_or_fault, number_at, string_at}
use Rattle.formula_trees.specs.Pieces.{mark_of, mark_at, two_marks, one_mark, one_operator, other_mark, or_else, piece_at}

-- an operator or another mark
abbrev pub is_mark : Kind → Bool
is_mark (Number n) = false
is_mark Text = false
is_mark Name = false
is_mark k = true

abbrev AreMarks : Option Kind → Type 0
AreMarks o = (k : Kind) → o ≡ Some k → is_mark k ≡ true

mark_or : (b : Bool) (k : Kind) (rest : Option Kind) → is_mark k ≡ true → AreMarks rest → AreMarks (cond b (Some k) rest)
mark_or true k rest h g j e = let same : k ≡ j = cc in ap is_mark (sym same) ∙ h
mark_or false k rest h g j e = g j e

either_mark : (first second : Option Kind) → AreMarks first → AreMarks second → AreMarks (or_else first second)
either_mark None second h g j e = g j e
either_mark (Some k) second h g j e = h j e

no_mark : AreMarks None
no_mark j e = cc

two_are_marks : (b next : ℕ) → AreMarks (two_marks b next)
two_are_marks b next =
    mark_or _ (Infix Equal) _ refl (mark_or _ (Infix NotEqual) _ refl (mark_or _ (Infix AtMost) _ refl (mark_or _ (Infix AtLeast) _ refl
    (mark_or _ (Infix And) _ refl (mark_or _ (Infix Or) _ refl no_mark)))))

one_is_mark : (b : ℕ) → AreMarks (one_mark b)
one_is_mark b =
    either_mark (one_operator b) (other_mark b)
    (mark_or _ (Infix Less) _ refl (mark_or _ (Infix Greater) _ refl (mark_or _ (Infix Add) _ refl (mark_or _ (Infix Subtract) _ refl
    (mark_or _ (Infix Multiply) _ refl (mark_or _ (Infix Divide) _ refl no_mark))))))
    (mark_or _ Bang _ refl (mark_or _ Question _ refl (mark_or _ Colon _ refl (mark_or _ Assign _ refl
    (mark_or _ Semicolon _ refl (mark_or _ Comma _ refl (mark_or _ Dot _ refl (mark_or _ OpenGroup _ refl
    (mark_or _ CloseGroup _ refl (mark_or _ OpenList _ refl (mark_or _ CloseList _ refl no_mark)))))))))))

mark_kind : (place : ℕ) (two one : Option Kind) (kind : Kind) (more : ℕ) → AreMarks two → AreMarks one → mark_of place two one ≡ Lexeme kind more →
    is_mark kind ≡ true
mark_kind place (Some k) one kind more h g e = let same : k ≡ kind = cc in h kind (ap Some same)
mark_kind place None (Some k) kind more h g e = let same : k ≡ kind = cc in g kind (ap Some same)
mark_kind place None None kind more h g e = cc

-- what a text has at the place of a token of this kind, with `more` bytes after its first
pub data Found (place b : ℕ) (rest : List ℕ) (kind : Kind) (more : ℕ) : Type 0 where
  a_name : begins_name b (next_byte rest) ≡ true → Name ≡ kind → up_to (λ c. not (is_name_byte c)) rest ≡ more → Found place b rest kind more
  a_number : (n : ℤ) → Number n ≡ kind → Found place b rest kind more
  a_string : (b == 34) ≡ true → string_at place rest ≡ Lexeme kind more → Found place b rest kind more
  a_mark : is_mark kind ≡ true → Found place b rest kind more

module _ (place b : ℕ) (rest : List ℕ) (kind : Kind) (more : ℕ) where
  number_found : (o : Option ℤ) (length : ℕ) → number_or_fault place o length ≡ Lexeme kind more → Found place b rest kind more
  number_found None length e = absurd cc
  number_found (Some n) length e = a_number n cc

  -- the tests of `piece_at`, the last one first
  abbrev if_string : Bool → Piece
  if_string c = cond c (string_at place rest) (mark_at place b rest)

  abbrev if_digit : Bool → Piece
  if_digit c = cond c (number_at place b rest) (if_string (b == 34))

  abbrev if_name : Bool → Piece
  if_name c = cond c (Lexeme Name (up_to (λ d. not (is_name_byte d)) rest)) (if_digit (is_ascii_digit b))

  abbrev if_comment : Bool → Piece
  if_comment c = cond c (Gap (up_to is_line_end rest)) (if_name (begins_name b (next_byte rest)))

  string_found : (c : Bool) → (b == 34) ≡ c → if_string c ≡ Lexeme kind more → Found place b rest kind more
  string_found true is e = a_string is e
  string_found false is e =
      a_mark (mark_kind place (two_marks b (next_byte rest)) (one_mark b) kind more (two_are_marks b (next_byte rest)) (one_is_mark b) e)

  digit_found : (c : Bool) → if_digit c ≡ Lexeme kind more → Found place b rest kind more
  digit_found true e = number_found _ _ e
  digit_found false e = string_found (b == 34) refl e

  name_found : (c : Bool) → begins_name b (next_byte rest) ≡ c → if_name c ≡ Lexeme kind more → Found place b rest kind more
  name_found true is e =
      let same : Name ≡ kind = cc in
      let run : up_to (λ d. not (is_name_byte d)) rest ≡ more = cc in
      a_name is same run
  name_found false is e = digit_found (is_ascii_digit b) e

  comment_found : (c : Bool) → if_comment c ≡ Lexeme kind more → Found place b rest kind more
  comment_found true e = absurd cc
  comment_found false e = name_found (begins_name b (next_byte rest)) refl e

  blank_found : (c : Bool) → cond c (Gap 0) (if_comment (begins_comment b (next_byte rest))) ≡ Lexeme kind more → Found place b rest kind more
  blank_found true e = absurd cc
  blank_found false e = comment_found (begins_comment b (next_byte rest)) e

  pub found : piece_at place b rest ≡ Lexeme kind more → Found place b rest kind more
  unfolding piece_at
  found e = blank_found (is_blank b) e

-- the property holds of each token
abbrev pub Each : (Token → Type 0) → List Token → Type 0
Each P [] = Unit {0}
Each P (t ∷ ts) = P t × Each P ts

pub each_front : (P : Token → Type 0) (ts us : List Token) → Each P (ts ++ us) → Each P ts
each_front P [] us h = tt
each_front P (t ∷ ts) us h = (h.0, each_front P ts us h.1)

pub each_back : (P : Token → Type 0) (ts us : List Token) → Each P (ts ++ us) → Each P us
each_back P [] us h = h
each_back P (t ∷ ts) us h = each_back P ts us h.1

module _ (text : List ℕ) (P : Token → Type 0) where
  -- the property holds of the token at each place
  abbrev pub AtEachPlace : Type 0
  AtEachPlace = (place b : ℕ) (rest : List ℕ) (kind : Kind) (more : ℕ) → drop place text ≡ b ∷ rest → Found place b rest kind more →
      P (token_at kind place more)

  of_piece : AtEachPlace → (place b : ℕ) (rest : List ℕ) (piece : Piece) (go : ℕ → Result (List Token) LexFault) (tokens : List Token) →
      drop place text ≡ b ∷ rest → piece_at place b rest ≡ piece → ((more : ℕ) (later : List Token) → go more ≡ Ok later → Each P later) →
      with_piece place piece go ≡ Ok tokens → Each P tokens
  of_piece h place b rest (Gap more) go tokens here is ih e = ih more tokens e
  of_piece h place b rest (Lexeme kind more) go tokens here is ih e = either (go more) refl e
    where
      either : (r : Result (List Token) LexFault) → go more ≡ r → prepended (token_at kind place more ∷ []) r ≡ Ok tokens → Each P tokens
      either (Ok later) gave e = let same : token_at kind place more ∷ later ≡ tokens = cc in
          subst (Each P) same (h place b rest kind more here (found place b rest kind more is), ih more later gave)
      either (Err fault) gave e = absurd cc
  of_piece h place b rest (Wrong fault) go tokens here is ih e = absurd cc

  of_tokens : AtEachPlace → (bytes : List ℕ) (skip place : ℕ) (tokens : List Token) → drop place text ≡ bytes → tokens_in bytes skip place ≡ Ok tokens →
      Each P tokens
  of_tokens h [] skip place tokens here e = let none : [] ≡ tokens = cc in subst (Each P) none tt
  of_tokens h (b ∷ rest) (suc skip) place tokens here e = of_tokens h rest skip (place + 1) tokens (sym (drop-drop 1 place text) ∙ ap (drop 1) here) e
  of_tokens h (b ∷ rest) zero place tokens here e =
      of_piece h place b rest (piece_at place b rest) (λ more. tokens_in rest more (place + 1)) tokens here refl
      (λ more later gave. of_tokens h rest more (place + 1) later (sym (drop-drop 1 place text) ∙ ap (drop 1) here) gave) e

  -- what holds of the token at each place holds of each token of the text
  pub each_token : AtEachPlace → (tokens : List Token) → lexed text ≡ Ok tokens → Each P tokens
  each_token h tokens e = of_tokens h text 0 0 tokens refl e
