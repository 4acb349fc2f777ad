-- A string token is a quote, bytes and a quote, and in a text that is UTF-8 its value is these bytes.
use Rattle.std.proofs.Common.{◌≡◌, ℕ, suc, ◌+◌, ◌-◌, ◌<◌, ◌≤◌, Bool, true, false, not, ◌&&◌, cond, List, [], ◌∷◌, ◌++◌, length, take, drop, get_or, Some, None}
use Rattle.std.proofs.Common.{Ok, refl, sym, ap, ◌∙◌, subst, arith, nat_lt}
use Rattle.std.specs.Prelude.{◌==◌, unwrap_or}
use Rattle.std.specs.List.{prefix_len, list_all}
use Rattle.std.specs.Str.{IsUtf8, IsCharBoundary}
use Rattle.std.proofs.lemmas.Bool.Decides.{nat_tests}
use Rattle.std.proofs.lemmas.List.{length-append, length-take, length-drop, take-append-drop, drop_at}
use Rattle.std.proofs.lemmas.List.Folds.{length-prefix_len}
use Rattle.std.proofs.lemmas.List.Sums.{prefix_len-le-length}
use Rattle.std.proofs.Math.Seq.{take-append_seam, take-append-add, drop-append-add, get_or-append_seam}
use Rattle.std.proofs.lemmas.List.{get_or-append-add}
use Rattle.std.proofs.lemmas.Str.{IsUtf8-between, IsCharBoundary-before_ascii, IsCharBoundary-after_ascii}
use Rattle.bt_base.proofs.Utf8Texts.{of_text}
use Rattle.formula_trees.specs.declared.piece.Piece.TheVariants.{Lexeme, Wrong}
use Rattle.formula_trees.specs.declared.lex_fault.LexFault.TheVariants.{OpenString}
use Rattle.formula_trees.specs.declared.token.Kind.{Kind}
use Rattle.formula_trees.specs.declared.token.Kind.TheVariants.{Number, Text, Name}
use Rattle.formula_trees.specs.declared.token.Span.{Span}
use Rattle.formula_trees.specs.declared.token.Token.{Token}
use Rattle.formula_trees.specs.Lexing.{lexed, token_at}
use Rattle.formula_trees.specs.Pieces.{is_string_end, next_byte, or_all, up_to, string_with, string_at}
use Rattle.formula_trees.specs.Spans.{span_of}
use Rattle.formula_trees.specs.Tree.{Quoted}
use Rattle.formula_types.specs.Scopes.{part}
use Rattle.formula_values.specs.declared.value.Value.TheVariants as values
use Rattle.formula_metrics.specs.declared.metrics.Metrics.{Metrics}
use Rattle.formula_eval.specs.declared.outcome.Outcome.{Outcome}
use Rattle.formula_eval.specs.Evaluation.{unquoted, value_of}
use Rattle.formula_eval.specs.Outcomes.{text_in}
use Rattle.formula_laws.specs.Strings.{IsQuoted}
use Rattle.formula_laws.proofs.Lexemes.{is_mark, Found, a_name, a_number, a_string, a_mark, Each, each_back, AtEachPlace, each_token}

abbrev is_plain : ℕ → Bool
is_plain b = not (is_string_end b)

-- the bytes up to the first quote or line's end
plain_run : (bytes : List ℕ) → list_all is_plain (take (prefix_len is_plain bytes) bytes) ≡ true
plain_run [] = refl
plain_run (b ∷ bytes) = either (is_plain b) refl (plain_run bytes)
  where
    either : (c : Bool) → is_plain b ≡ c → list_all is_plain (take (prefix_len is_plain bytes) bytes) ≡ true →
        list_all is_plain (take (cond c (1 + prefix_len is_plain bytes) 0) (b ∷ bytes)) ≡ true
    either true e h = let one : 1 + prefix_len is_plain bytes ≡ suc (prefix_len is_plain bytes) = omega arith in
        ap (λ (n : ℕ). list_all is_plain (take n (b ∷ bytes))) one ∙ ap (λ (c : Bool). c && list_all is_plain (take (prefix_len is_plain bytes) bytes)) e ∙ h
    either false e h = refl

place_of : (n all : ℕ) → n ≤ all → or_all all (cond (nat_lt n all) (Some n) None) ≡ n
place_of n all h = grind (arith, nat_tests)

up_to_run : (bytes : List ℕ) → up_to is_string_end bytes ≡ prefix_len is_plain bytes
up_to_run bytes = place_of (prefix_len is_plain bytes) (length bytes) (prefix_len-le-length is_plain bytes)

is_quote : (b : ℕ) → (b == 34) ≡ true → b ≡ 34
is_quote b h = grind (arith, nat_tests)

-- a text that begins with a quote
begins_with_quote : (bytes : List ℕ) → (next_byte bytes == 34) ≡ true → bytes ≡ 34 ∷ drop 1 bytes
begins_with_quote [] e = let no_quote : false ≡ true = e in absurd cc
begins_with_quote (b ∷ bytes) e = ap (λ c. c ∷ bytes) (is_quote b e)

-- the end of a string: a quote, after the run of bytes of a string
record EndsString (rest : List ℕ) (more : ℕ) : Type 0 where
  closed : (next_byte (drop (prefix_len is_plain rest) rest) == 34) ≡ true
  size : more ≡ prefix_len is_plain rest + 1

string_ends : (place : ℕ) (rest : List ℕ) (more : ℕ) → string_at place rest ≡ Lexeme Text more → EndsString rest more
string_ends place rest more e =
    let n = prefix_len is_plain rest in
    either (next_byte (drop n rest) == 34) refl (sym (ap (λ (l : ℕ). string_with place l rest) (up_to_run rest)) ∙ e)
  where
    either : (c : Bool) → (next_byte (drop (prefix_len is_plain rest) rest) == 34) ≡ c →
        cond c (Lexeme Text (prefix_len is_plain rest + 1)) (Wrong (OpenString place)) ≡ Lexeme Text more → EndsString rest more
    either true is e = record { closed = is; size = cc }
    either false is e = absurd cc

module _ (text : List ℕ) where
  string_at_place : (place b : ℕ) (rest : List ℕ) (more : ℕ) → drop place text ≡ b ∷ rest → b ≡ 34 → EndsString rest more →
      IsQuoted text (record { from = place; to = place + 1 + more }) (take (prefix_len is_plain rest) rest)
  string_at_place place b rest more here is_34 closing =
      let n = prefix_len is_plain rest in
      let tail : drop n rest ≡ 34 ∷ drop 1 (drop n rest) = begins_with_quote (drop n rest) closing.closed in
      let parts : rest ≡ take n rest ++ 34 ∷ drop 1 (drop n rest) = sym (take-append-drop n rest) ∙ ap (λ (l : List ℕ). take n rest ++ l) tail in
      let start : place ≡ length (take place text) = omega (arith, length-take place text, length-drop place text, ap length here) in
      record {
        before = take place text;
        after = drop 1 (drop n rest);
        splits =
            sym (take-append-drop place text)
            ∙ ap (λ (l : List ℕ). take place text ++ l) (here ∙ ap (λ (c : ℕ). c ∷ rest) is_34 ∙ ap (λ (l : List ℕ). 34 ∷ l) parts);
        begins = start;
        ends = omega (arith, start, length-prefix_len is_plain rest, closing.size);
        plain = plain_run rest;
      }

  -- a string token is a quote, bytes and a quote
  abbrev IsString : Token → Type 0
  IsString t = t.kind ≡ Text → (bytes : List ℕ) × IsQuoted text (record { from = t.from; to = t.to }) bytes

  string_token : AtEachPlace text IsString
  string_token place b rest kind more here (a_name is same size) e = let other : Name ≡ Text = same ∙ e in absurd cc
  string_token place b rest kind more here (a_number n same) e = let other : Number n ≡ Text = same ∙ e in absurd cc
  string_token place b rest kind more here (a_string is gave) e =
      let closing = string_ends place rest more (gave ∙ ap (λ k. Lexeme k more) e) in
      (take (prefix_len is_plain rest) rest, string_at_place place b rest more here (is_quote b is) closing)
  string_token place b rest kind more here (a_mark is) e = let other : false ≡ true = sym (ap is_mark e) ∙ is in absurd cc

  -- the part of the text without its two quotes
  between : (span : Span) (bytes : List ℕ) → IsQuoted text span bytes → unquoted (part text span) ≡ bytes
  between span bytes q =
      let rest = bytes ++ 34 ∷ q.after in
      let there : drop span.from text ≡ 34 ∷ rest = ap (λ (l : List ℕ). drop span.from l) q.splits ∙ drop_at q.before (34 ∷ rest) span.from (sym q.begins) in
      let size : span.to - span.from ≡ suc (length bytes + 1) = omega (arith, q.begins, q.ends) in
      let all : part text span ≡ 34 ∷ (bytes ++ 34 ∷ []) =
      ap (λ (l : List ℕ). take (span.to - span.from) l) there
      ∙ ap (λ (n : ℕ). take n (34 ∷ rest)) size
      ∙ ap (λ (l : List ℕ). 34 ∷ l) (take-append-add bytes (34 ∷ q.after) 1) in
      let count : length (bytes ++ 34 ∷ []) ≡ length bytes + 1 = length-append bytes (34 ∷ []) in
      let inner : suc (length (bytes ++ 34 ∷ [])) - 2 ≡ length bytes = omega (arith, count) in
      ap unquoted all ∙ ap (λ (n : ℕ). take n (bytes ++ 34 ∷ [])) inner ∙ take-append_seam bytes (34 ∷ [])

  -- in a text that is UTF-8, the bytes between two quotes are UTF-8
  between_is_text : (span : Span) (bytes : List ℕ) → IsQuoted text span bytes → IsUtf8 text → IsUtf8 bytes
  between_is_text span bytes q valid =
      let rest = bytes ++ 34 ∷ q.after in
      let all = q.before ++ 34 ∷ rest in
      let i = length q.before in
      let utf8 : IsUtf8 all = subst IsUtf8 q.splits valid in
      let size : length all ≡ i + suc (length bytes + suc (length q.after)) =
      length-append q.before (34 ∷ rest) ∙ ap (λ (n : ℕ). i + suc n) (length-append bytes (34 ∷ q.after)) in
      let first : get_or all i 0 ≡ 34 = get_or-append_seam q.before 34 rest 0 in
      let second : get_or all (i + suc (length bytes)) 0 ≡ 34 =
      get_or-append-add q.before (34 ∷ rest) (suc (length bytes)) 0 ∙ get_or-append_seam bytes 34 q.after 0 in
      let low : get_or all i 0 < 128 = omega (arith, first) in
      let inside : i < length all = omega (arith, size) in
      let from : IsCharBoundary all (i + 1) = IsCharBoundary-after_ascii all i utf8 inside low in
      let low_too : get_or all (i + suc (length bytes)) 0 < 128 = omega (arith, second) in
      let inside_too : i + suc (length bytes) < length all = omega (arith, size) in
      let to : IsCharBoundary all (i + suc (length bytes)) = IsCharBoundary-before_ascii all (i + suc (length bytes)) inside_too low_too in
      let order : i + 1 ≤ i + suc (length bytes) = omega arith in
      let count : i + suc (length bytes) - (i + 1) ≡ length bytes = omega arith in
      subst IsUtf8
      (ap (λ (l : List ℕ). take (i + suc (length bytes) - (i + 1)) l) (drop-append-add q.before (34 ∷ rest) 1)
      ∙ ap (λ (m : ℕ). take m rest) count
      ∙ take-append_seam bytes (34 ∷ q.after))
      (IsUtf8-between all (i + 1) (i + suc (length bytes)) utf8 order from to)

  value_is_bytes : (span : Span) (bytes : List ℕ) → IsQuoted text span bytes → IsUtf8 text → (metrics : Metrics) (now : ℕ) (set : Outcome) →
      value_of text metrics now set (Quoted span) ≡ Ok (values.Text bytes)
  value_is_bytes span bytes q valid metrics now set =
      let same : text_in (unquoted (part text span)) ≡ bytes =
      ap text_in (between span bytes q) ∙ ap (λ o. unwrap_or o []) (of_text bytes (between_is_text span bytes q valid)) in
      ap (λ (l : List ℕ). Ok (values.Text l)) same

  pub string_is_its_bytes : (before after : List Token) (token : Token) → IsUtf8 text → lexed text ≡ Ok (before ++ token ∷ after) → token.kind ≡ Text →
      (bytes : List ℕ) × IsQuoted text (span_of token) bytes
      × ((metrics : Metrics) (now : ℕ) (set : Outcome) → value_of text metrics now set (Quoted (span_of token)) ≡ Ok (values.Text bytes))
  string_is_its_bytes before after token valid e is =
      let each = each_back IsString before (token ∷ after) (each_token text IsString string_token (before ++ token ∷ after) e) in
      let string = each.0 is in
      (string.0, string.1, value_is_bytes (span_of token) string.0 string.1 valid)
