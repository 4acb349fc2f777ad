-- What a formula's text has at a place: blanks, comments, tokens, or a fault. Bytes are numbers.
use Rattle.std.specs.Prelude.{ℕ, ◌+◌, ◌==◌, Bool, true, false, not, ◌&&◌, ◌||◌, ℤ, pos, List, [], ◌∷◌, ◌++◌, length, take, drop, Option, Some, None}
use Rattle.std.specs.Prelude.{if◌then◌else◌}
use Rattle.std.specs.List.{position}
use Rattle.std.specs.Char.{is_ascii_digit, is_ascii_alphabetic, is_ascii_alphanumeric}
use Rattle.bt_base.specs.Ids.{decimal_from}
use Rattle.bt_base.specs.Numbers.{in_bounds}
use Rattle.formula_trees.specs.declared.lex_fault.LexFault.{LexFault}
use Rattle.formula_trees.specs.declared.lex_fault.LexFault.TheVariants.{BadCharacter, OpenString, NumberTooLarge}
use Rattle.formula_trees.specs.declared.piece.Piece.{Piece}
use Rattle.formula_trees.specs.declared.piece.Piece.TheVariants.{Gap, Lexeme, Wrong}
use Rattle.formula_trees.specs.declared.token.BinaryOperator.TheVariants.{Or, And, Equal, NotEqual, Less, AtMost, Greater, AtLeast, Add, Subtract, Multiply}
use Rattle.formula_trees.specs.declared.token.BinaryOperator.TheVariants.{Divide}
use Rattle.formula_trees.specs.declared.token.Kind.{Kind}
use Rattle.formula_trees.specs.declared.token.Kind.TheVariants.{Number, Text, Name, Infix, Bang, Question, Colon, Comma, Semicolon, Assign, Dot, OpenGroup}
use Rattle.formula_trees.specs.declared.token.Kind.TheVariants.{CloseGroup, OpenList, CloseList}

-- the number of bytes of a piece after its first
abbrev pub more_of : Piece → ℕ
more_of (Gap more) = more
more_of (Lexeme kind more) = more
more_of (Wrong fault) = 0

-- a space, a tab, CR or LF
abbrev pub is_blank : ℕ → Bool
is_blank b = b == 32 || b == 9 || b == 13 || b == 10

-- a letter, a digit or `_`
abbrev pub is_name_byte : ℕ → Bool
is_name_byte b = is_ascii_alphanumeric b || b == 95

-- the end of a line
abbrev pub is_line_end : ℕ → Bool
is_line_end b = b == 10

-- `"`, or the end of a line
abbrev pub is_string_end : ℕ → Bool
is_string_end b = b == 34 || b == 10

-- the first byte, or 0 if there is none
abbrev pub next_byte : List ℕ → ℕ
next_byte [] = 0
next_byte (b ∷ rest) = b

-- a place, or a length if there is none
abbrev pub or_all : ℕ → Option ℕ → ℕ
or_all all None = all
or_all all (Some place) = place

-- the number of bytes before the first that passes a test, or before the end
abbrev pub up_to : (ℕ → Bool) → List ℕ → ℕ
up_to test text = or_all (length text) (position test text)

-- the number of digits that a text begins with
abbrev pub digits_in : List ℕ → ℕ
digits_in text = up_to (λ b. not (is_ascii_digit b)) text

-- the digits after a point; none if the text does not begin with one
abbrev pub decimals_of : List ℕ → List ℕ
decimals_of rest = if next_byte rest == 46 then take (digits_in (drop 1 rest)) (drop 1 rest) else []

-- six zeros
abbrev pub zeros : List ℕ
zeros = 48 ∷ 48 ∷ 48 ∷ 48 ∷ 48 ∷ 48 ∷ []

-- the number with these digits before its point and these after it, of which those past the sixth are cut; none if it is over 10^12
abbrev pub literal_of : List ℕ → List ℕ → Option ℤ
literal_of whole decimals = in_bounds (pos (decimal_from 0 (whole ++ take 6 (decimals ++ zeros))))

-- a number's token, unless the number is too large
abbrev pub number_or_fault : ℕ → Option ℤ → ℕ → Piece
number_or_fault place None more = Wrong (NumberTooLarge place)
number_or_fault place (Some number) more = Lexeme (Number number) more

-- the number of bytes of a point and the decimals after it, if there are decimals
abbrev pub decimals_length : List ℕ → ℕ
decimals_length [] = 0
decimals_length (b ∷ decimals) = 1 + length (b ∷ decimals)

-- digits, then a point and digits or neither
abbrev pub number_with : ℕ → ℕ → ℕ → List ℕ → Piece
number_with place digit whole rest =
    number_or_fault place (literal_of (digit ∷ take whole rest) (decimals_of (drop whole rest))) (whole + decimals_length (decimals_of (drop whole rest)))

-- the number that begins with this digit
abbrev pub number_at : ℕ → ℕ → List ℕ → Piece
number_at place digit rest = number_with place digit (digits_in rest) rest

-- the bytes after a quote up to the next, which is on the same line
abbrev pub string_with : ℕ → ℕ → List ℕ → Piece
string_with place length rest = if next_byte (drop length rest) == 34 then Lexeme Text (length + 1) else Wrong (OpenString place)

-- the string that begins with a quote at this place
abbrev pub string_at : ℕ → List ℕ → Piece
string_at place rest = string_with place (up_to is_string_end rest) rest

-- the operators of two bytes: `==`, `!=`, `<=`, `>=`, `&&` and `||`
abbrev pub two_marks : ℕ → ℕ → Option Kind
two_marks b next =
    if b == 61 && next == 61 then Some (Infix Equal)
    else if b == 33 && next == 61 then Some (Infix NotEqual)
    else if b == 60 && next == 61 then Some (Infix AtMost)
    else if b == 62 && next == 61 then Some (Infix AtLeast)
    else if b == 38 && next == 38 then Some (Infix And)
    else if b == 124 && next == 124 then Some (Infix Or)
    else None

-- the operators of one byte: `<`, `>`, `+`, `-`, `*` and `/`
abbrev pub one_operator : ℕ → Option Kind
one_operator b =
    if b == 60 then Some (Infix Less)
    else if b == 62 then Some (Infix Greater)
    else if b == 43 then Some (Infix Add)
    else if b == 45 then Some (Infix Subtract)
    else if b == 42 then Some (Infix Multiply)
    else if b == 47 then Some (Infix Divide)
    else None

-- the other marks of one byte: `!`, `?`, `:`, `=`, `;`, `,`, `.`, `(`, `)`, `[` and `]`
abbrev pub other_mark : ℕ → Option Kind
other_mark b =
    if b == 33 then Some Bang
    else if b == 63 then Some Question
    else if b == 58 then Some Colon
    else if b == 61 then Some Assign
    else if b == 59 then Some Semicolon
    else if b == 44 then Some Comma
    else if b == 46 then Some Dot
    else if b == 40 then Some OpenGroup
    else if b == 41 then Some CloseGroup
    else if b == 91 then Some OpenList
    else if b == 93 then Some CloseList
    else None

-- the first of two that there is
abbrev pub or_else : Option Kind → Option Kind → Option Kind
or_else None other = other
or_else (Some kind) other = Some kind

-- the operator or other mark of one byte
abbrev pub one_mark : ℕ → Option Kind
one_mark b = or_else (one_operator b) (other_mark b)

-- the longest mark, of two bytes or one
abbrev pub mark_of : ℕ → Option Kind → Option Kind → Piece
mark_of place (Some two) one = Lexeme two 1
mark_of place None (Some one) = Lexeme one 0
mark_of place None None = Wrong (BadCharacter place)

-- the mark at this place
abbrev pub mark_at : ℕ → ℕ → List ℕ → Piece
mark_at place b rest = mark_of place (two_marks b (next_byte rest)) (one_mark b)

-- `//` begins a comment, up to the line's end
abbrev pub begins_comment : ℕ → ℕ → Bool
begins_comment b next = b == 47 && next == 47

-- a letter begins a name, or `$` and a letter
abbrev pub begins_name : ℕ → ℕ → Bool
begins_name b next = is_ascii_alphabetic b || (b == 36 && is_ascii_alphabetic next)

-- what a text has at this place, which has this byte and then the rest
unfoldable pub piece_at : ℕ → ℕ → List ℕ → Piece
piece_at place b rest =
    if is_blank b then Gap 0
    else if begins_comment b (next_byte rest) then Gap (up_to is_line_end rest)
    else if begins_name b (next_byte rest) then Lexeme Name (up_to (λ c. not (is_name_byte c)) rest)
    else if is_ascii_digit b then number_at place b rest
    else if b == 34 then string_at place rest
    else mark_at place b rest
