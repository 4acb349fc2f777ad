-- A head has as many lines as it has fields, and two more.
use Rattle.std.proofs.Common.{◌≡◌, ◌≤◌, ◌<◌, ◌+◌, ℕ, true, false, cond, List, [], ◌∷◌, ◌++◌, length, refl, ap, ◌∙◌, arith, count_by}
use Rattle.std.specs.List.{flat_map}
use Rattle.std.proofs.lemmas.List.Sums.{sum_by-append}
use Rattle.httparse.specs.Grammar.{LineEnd, crlf, lf, print_end, print_blank, print_version, Field, print_field, print_section, RequestHead, print_request, ReadsRequest, HasNoRequest}
use Rattle.httparse.specs.Pieces.{Stops, is_newline}
use Rattle.httparse.proofs.PieceLemmas.{Stops_token}
use Rattle.httparse.proofs.GrammarLemmas.{print_request-append, request_prefix_free}
use Rattle.http_head.specs.declared.heads.TheConstants.{FIELD_LIMIT}
use Rattle.http_head.specs.Heads.{HasManyFields}
use Rattle.http_head.specs.Lines.{is_line_byte, is_line_feed, skip_empty_lines, lines_ended}
use Rattle.http_head.proofs.FewLines.{HasManyLines}

-- how many line feeds there are
abbrev pub feeds : List ℕ → ℕ
feeds bytes = count_by is_line_feed bytes

feeds_append : (xs ys : List ℕ) → feeds (xs ++ ys) ≡ feeds xs + feeds ys
feeds_append xs ys = sum_by-append (λ b. cond (is_line_feed b) 1 0) xs ys

feeds_cons : (x : ℕ) (xs : List ℕ) → feeds xs ≤ feeds (x ∷ xs)
feeds_cons x xs = omega (arith, feeds_append (x ∷ []) xs)

feeds_end : (e : LineEnd) → feeds (print_end e) ≡ 1
feeds_end crlf = refl
feeds_end lf = refl

feeds_field : (f : Field) → 1 ≤ feeds (print_field f)
feeds_field f =
    omega (arith, feeds_append (f.name ++ 58 ∷ f.raw) (print_end f.end), feeds_end f.end)

feeds_fields : (fs : List Field) → length fs ≤ feeds (flat_map print_field fs)
feeds_fields [] = omega arith
feeds_fields (f ∷ fs) =
    omega (arith, feeds_append (print_field f) (flat_map print_field fs), feeds_field f, feeds_fields fs)

feeds_section : (fs : List Field) (last : LineEnd) → length fs + 1 ≤ feeds (print_section fs last)
feeds_section fs last =
    omega (arith, feeds_append (flat_map print_field fs) (print_end last), feeds_fields fs, feeds_end last)

-- one more line feed ends at most one more line
lines_more : (xs : List ℕ) → lines_ended (xs ++ 10 ∷ []) ≤ lines_ended xs + 1
lines_more [] = omega arith
lines_more (b ∷ xs) = elim (is_line_byte b) as (λ v. count_by is_line_feed (cond v (skip_empty_lines (xs ++ 10 ∷ [])) (b ∷ (xs ++ 10 ∷ [])))
    ≤ count_by is_line_feed (cond v (skip_empty_lines xs) (b ∷ xs)) + 1) [
      | true ↦ lines_more xs
      | false ↦ (let one : feeds (10 ∷ []) ≡ 1 = refl in omega (arith, feeds_append (b ∷ xs) (10 ∷ []), one))
    ]

skip_ends : (ends : List LineEnd) (rest : List ℕ) → skip_empty_lines (print_blank ends ++ rest) ≡ skip_empty_lines rest
skip_ends [] rest = refl
skip_ends (crlf ∷ ends) rest = skip_ends ends rest
skip_ends (lf ∷ ends) rest = skip_ends ends rest

skip_none : (text : List ℕ) → Stops is_newline text → skip_empty_lines text ≡ text
skip_none [] h = absurd h
skip_none (b ∷ text) h = ap (λ v. cond v (skip_empty_lines text) (b ∷ text)) h

lines_of_head : (h : RequestHead) → (method_some : 0 < length h.method) →
    Stops is_newline (h.method ++ 32 ∷ (h.target ++ 32 ∷ (print_version h.minor ++ (print_end h.line_end ++ (print_section h.fields h.last ++ []))))) →
    length h.fields + 2 ≤ lines_ended (print_request h ++ [])
lines_of_head h some stops =
    let tail = print_section h.fields h.last ++ [] in
    let text = h.method ++ 32 ∷ (h.target ++ 32 ∷ (print_version h.minor ++ (print_end h.line_end ++ tail))) in
    let same : lines_ended (print_request h ++ []) ≡ feeds text =
    ap lines_ended (print_request-append h []) ∙ ap feeds (skip_ends h.blank text ∙ skip_none text stops) in
    omega (
      arith,
      same,
      feeds_append h.method (32 ∷ (h.target ++ 32 ∷ (print_version h.minor ++ (print_end h.line_end ++ tail)))),
      feeds_cons 32 (h.target ++ 32 ∷ (print_version h.minor ++ (print_end h.line_end ++ tail))),
      feeds_append h.target (32 ∷ (print_version h.minor ++ (print_end h.line_end ++ tail))),
      feeds_cons 32 (print_version h.minor ++ (print_end h.line_end ++ tail)),
      feeds_append (print_version h.minor) (print_end h.line_end ++ tail),
      feeds_append (print_end h.line_end) tail,
      feeds_end h.line_end,
      feeds_append (print_section h.fields h.last) [],
      feeds_section h.fields h.last,
    )

-- A front that an empty line would make a head of more fields than the limit has no head, and more lines than that.
pub front_has_no_head : (front : List ℕ) (h : RequestHead) → ReadsRequest (front ++ print_end lf) h [] → HasNoRequest front
front_has_no_head front h reads k rest other =
    let same = request_prefix_free front (print_end lf) k h rest [] other reads in
    let none : length (rest ++ print_end lf) ≡ 0 = ap length same.1 in
    absurd (omega (arith, none, length_append rest (print_end lf)))
  where
    length_append : (xs ys : List ℕ) → length (xs ++ ys) ≡ length xs + length ys
    length_append [] ys = omega arith
    length_append (x ∷ xs) ys = omega (arith, length_append xs ys)

pub front_has_lines : (front : List ℕ) (h : RequestHead) → ReadsRequest (front ++ print_end lf) h [] → FIELD_LIMIT < length h.fields →
    FIELD_LIMIT + 1 < lines_ended front
front_has_lines front h reads many =
    omega (
      arith,
      many,
      lines_more front,
      ap lines_ended reads.1,
      lines_of_head h reads.0.method.0 (Stops_token h.method _ reads.0.method.0 reads.0.method.1),
    )

-- fields that are too many are lines that are too many
pub many_lines_of : {bytes : List ℕ} → HasManyFields bytes → HasManyLines bytes
many_lines_of {bytes} (front, rest, cut, h, reads, many) = record {
  front = front;
  rest = rest;
  cut = cut;
  no_head = front_has_no_head front h reads;
  many = front_has_lines front h reads many;
}
