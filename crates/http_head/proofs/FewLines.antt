-- A head has as many lines as it has fields, and two more; and every prefix of it that does not reach its end has fewer.
use Rattle.std.proofs.Common.{◌≡◌, ◌+◌, ◌<◌, ◌≤◌, ◌⊎◌, ℕ, zero, suc, Bool, true, false, cond, List, [], ◌∷◌, ◌++◌, length, take, drop, count_by, codes, refl, sym, ap, ◌∙◌, subst, arith, inl, inr, append_assoc}
use Rattle.std.specs.List.{flat_map}
use Rattle.std.specs.Prelude.{All}
use Rattle.std.proofs.Math.Seq.{take-append_seam}
use Rattle.std.proofs.lemmas.Bool.{false≢true, ne_eqb}
use Rattle.std.proofs.lemmas.List.{append-nil, length-append, take-append-drop, take-append-le}
use Rattle.std.proofs.lemmas.List.Elements.{All-head, All-tail}
use Rattle.std.proofs.lemmas.List.Sums.{sum_by-append}
use Rattle.httparse.specs.Grammar.{LineEnd, crlf, lf, print_end, print_blank, print_version, Field, print_field, IsField, print_section, RequestHead, print_request, ReadsRequest, HasNoRequest, AllPass, is_token_byte, is_uri_byte, is_value_byte}
use Rattle.httparse.specs.Pieces.{Stops, is_newline}
use Rattle.httparse.proofs.PieceLemmas.{Stops_token}
use Rattle.httparse.proofs.GrammarLemmas.{print_request-append}
use Rattle.http_head.specs.declared.heads.TheConstants.{FIELD_LIMIT}
use Rattle.http_head.specs.Lines.{is_line_byte, is_line_feed, skip_empty_lines, lines_ended}

abbrev pub feeds : List ℕ → ℕ
feeds bytes = count_by is_line_feed bytes

pub feeds_append : (xs ys : List ℕ) → feeds (xs ++ ys) ≡ feeds xs + feeds ys
feeds_append xs ys = sum_by-append (λ b. cond (is_line_feed b) 1 0) xs ys

pub feeds_end : (e : LineEnd) → feeds (print_end e) ≡ 1
feeds_end crlf = refl
feeds_end lf = refl

-- bytes of a class without the line feed have no line feed
pub feeds_none : (test : ℕ → Bool) → ((b : ℕ) → test b ≡ true → is_line_feed b ≡ false) → (bytes : List ℕ) → AllPass test bytes → feeds bytes ≡ 0
feeds_none test never [] all = refl
feeds_none test never (b ∷ bytes) all =
    let one : feeds (b ∷ []) ≡ 0 = ap (λ v. 0 + cond {A = ℕ} v 1 0) (never b (All-head (λ v. test v ≡ true) b bytes all)) in
    omega (arith, one, feeds_append (b ∷ []) bytes, feeds_none test never bytes (All-tail (λ v. test v ≡ true) b bytes all))

pub token_no_feed : (b : ℕ) → is_token_byte b ≡ true → is_line_feed b ≡ false
unfolding is_token_byte
token_no_feed b t = ne_eqb b 10 (λ e. false≢true (subst (λ (v : ℕ). is_token_byte v ≡ true) e t))

pub uri_no_feed : (b : ℕ) → is_uri_byte b ≡ true → is_line_feed b ≡ false
uri_no_feed b t = ne_eqb b 10 (λ e. false≢true (subst (λ (v : ℕ). is_uri_byte v ≡ true) e t))

pub value_no_feed : (b : ℕ) → is_value_byte b ≡ true → is_line_feed b ≡ false
value_no_feed b t = ne_eqb b 10 (λ e. false≢true (subst (λ (v : ℕ). is_value_byte v ≡ true) e t))

pub feeds_field : (f : Field) → IsField f → feeds (print_field f) ≡ 1
feeds_field f is =
    let colon : feeds (58 ∷ []) ≡ 0 = refl in
    omega (
      arith,
      colon,
      feeds_append (f.name ++ 58 ∷ f.raw) (print_end f.end),
      feeds_append f.name (58 ∷ f.raw),
      feeds_append (58 ∷ []) f.raw,
      feeds_none is_token_byte token_no_feed f.name is.name.1,
      feeds_none is_value_byte value_no_feed f.raw is.raw,
      feeds_end f.end,
    )

feeds_fields : (fs : List Field) → All IsField fs → feeds (flat_map print_field fs) ≡ length fs
feeds_fields [] all = refl
feeds_fields (f ∷ fs) all =
    omega (arith, feeds_append (print_field f) (flat_map print_field fs), feeds_field f (All-head IsField f fs all), feeds_fields fs (All-tail IsField f fs all))

pub feeds_version : (minor : ℕ) → feeds (print_version minor) ≡ 0
feeds_version minor =
    let differs : (48 + minor ≡ 10) → ⊥ = λ e. omega (arith, e) in
    let last : feeds ((48 + minor) ∷ []) ≡ 0 = ap (λ v. 0 + cond {A = ℕ} v 1 0) (ne_eqb (48 + minor) 10 differs) in
    let name : feeds (codes "HTTP/1.") ≡ 0 = refl in
    omega (arith, last, name, feeds_append (codes "HTTP/1.") ((48 + minor) ∷ []))

pub lines_grow : (xs ys : List ℕ) → lines_ended xs ≤ lines_ended (xs ++ ys)
lines_grow [] ys = omega arith
lines_grow (b ∷ xs) ys = elim (is_line_byte b) as (λ v. count_by is_line_feed (cond v (skip_empty_lines xs) (b ∷ xs)) ≤ count_by is_line_feed (cond v (skip_empty_lines (xs ++ ys)) (b ∷ (xs ++ ys)))) [
  | true ↦ lines_grow xs ys
  | false ↦ omega (arith, feeds_append (b ∷ xs) ys)
]

pub skip_ends : (ends : List LineEnd) (rest : List ℕ) → skip_empty_lines (print_blank ends ++ rest) ≡ skip_empty_lines rest
skip_ends [] rest = refl
skip_ends (crlf ∷ ends) rest = skip_ends ends rest
skip_ends (lf ∷ ends) rest = skip_ends ends rest

pub skip_none : (text : List ℕ) → Stops is_newline text → skip_empty_lines text ≡ text
skip_none [] h = absurd h
skip_none (b ∷ text) h = ap (λ v. cond v (skip_empty_lines text) (b ∷ text)) h

-- the empty line without its line feed
abbrev pub before_feed : LineEnd → List ℕ
before_feed crlf = 13 ∷ []
before_feed lf = []

pub end_is : (e : LineEnd) → print_end e ≡ before_feed e ++ 10 ∷ []
end_is crlf = refl
end_is lf = refl

pub feeds_before : (e : LineEnd) → feeds (before_feed e) ≡ 0
feeds_before crlf = refl
feeds_before lf = refl

-- the lines of a head, without the last line feed
abbrev pub lines_text : RequestHead → List ℕ
lines_text h =
    h.method ++ 32 ∷ (h.target ++ 32 ∷ (print_version h.minor ++ (print_end h.line_end ++ (flat_map print_field h.fields ++ before_feed h.last))))

abbrev pub most_of : RequestHead → List ℕ
most_of h = print_blank h.blank ++ lines_text h

pub head_is : (h : RequestHead) → print_request h ≡ most_of h ++ 10 ∷ []
head_is h =
    sym (append-nil (print_request h)) ∙ print_request-append h []
    ∙ ap (λ w. print_blank h.blank ++ (h.method ++ 32 ∷ (h.target ++ 32 ∷ (print_version h.minor ++ (print_end h.line_end ++ w))))) (append-nil (print_section h.fields h.last) ∙ ap (λ w. flat_map print_field h.fields ++ w) (end_is h.last))
    ∙ regroup (print_blank h.blank) h.method h.target (print_version h.minor) (print_end h.line_end) (flat_map print_field h.fields) (before_feed h.last) (10 ∷ [])
  where
    regroup : (a b c d e f g x : List ℕ) → a ++ (b ++ 32 ∷ (c ++ 32 ∷ (d ++ (e ++ (f ++ (g ++ x)))))) ≡ (a ++ (b ++ 32 ∷ (c ++ 32 ∷ (d ++ (e ++ (f ++ g)))))) ++ x
    regroup a b c d e f g x = simp append_assoc

pub few_lines : {bytes : List ℕ} {h : RequestHead} (rest : List ℕ) → ReadsRequest bytes h rest → lines_ended (most_of h) ≡ length h.fields + 1
few_lines {bytes} {h} rest reads =
    let is = reads.0 in
    let tail = flat_map print_field h.fields ++ before_feed h.last in
    let from_end = print_end h.line_end ++ tail in
    let from_version = print_version h.minor ++ from_end in
    let space : feeds (32 ∷ []) ≡ 0 = refl in
    let same : lines_ended (most_of h) ≡ feeds (lines_text h) = ap feeds (skip_ends h.blank (lines_text h) ∙ skip_none (lines_text h) (Stops_token h.method _ is.method.0 is.method.1)) in
    omega (
      arith,
      same,
      space,
      feeds_append h.method (32 ∷ (h.target ++ 32 ∷ from_version)),
      feeds_append (32 ∷ []) (h.target ++ 32 ∷ from_version),
      feeds_append h.target (32 ∷ from_version),
      feeds_append (32 ∷ []) from_version,
      feeds_append (print_version h.minor) from_end,
      feeds_append (print_end h.line_end) tail,
      feeds_append (flat_map print_field h.fields) (before_feed h.last),
      feeds_none is_token_byte token_no_feed h.method is.method.1,
      feeds_none is_uri_byte uri_no_feed h.target is.target.1,
      feeds_version h.minor,
      feeds_end h.line_end,
      feeds_fields h.fields is.fields,
      feeds_before h.last,
    )

le_or_less : (a b : ℕ) → (a ≤ b) ⊎ (b < a)
le_or_less zero b = inl (omega arith)
le_or_less (suc a) zero = inr (omega arith)
le_or_less (suc a) (suc b) = elim (le_or_less a b) [ inl h ↦ inl (omega (arith, h)) | inr h ↦ inr (omega (arith, h)) ]

-- a prefix that reaches to the end of the head has the head
pub reaches : (front rest' : List ℕ) (h : RequestHead) (tail : List ℕ) → ReadsRequest (front ++ rest') h tail → length (print_request h) ≤ length front → HasNoRequest front → ⊥
reaches front rest' h tail reads long none =
    let p = print_request h in
    let same : take (length p) front ≡ p = sym (take-append-le (length p) front rest' long) ∙ ap (take (length p)) reads.1 ∙ take-append_seam p tail in
    none h (drop (length p) front) (reads.0, sym (take-append-drop (length p) front) ∙ ap (λ w. w ++ drop (length p) front) same)

-- a shorter prefix has few lines
stays_few : (front rest' : List ℕ) (h : RequestHead) (tail : List ℕ) → ReadsRequest (front ++ rest') h tail → length front < length (print_request h) → lines_ended front ≤ length h.fields + 1
stays_few front rest' h tail reads less =
    let q = most_of h in
    let n = length front in
    let fits : n ≤ length q = omega (arith, less, ap length (head_is h), length-append q (10 ∷ [])) in
    let whole : front ++ rest' ≡ q ++ (10 ∷ tail) = reads.1 ∙ ap (λ w. w ++ tail) (head_is h) ∙ append_assoc q (10 ∷ []) tail in
    let same : front ≡ take n q = sym (take-append_seam front rest') ∙ ap (take n) whole ∙ take-append-le n q (10 ∷ tail) fits in
    omega (arith, few_lines tail reads, ap lines_ended same, lines_grow (take n q) (drop n q), ap lines_ended (take-append-drop n q))

-- the request line and the lines of as many fields as the limit, and one more, have ended in a prefix that has no head
pub record HasManyLines (bytes : List ℕ) : Type 0 where
  pub front : List ℕ
  pub rest : List ℕ
  pub cut : bytes ≡ front ++ rest
  pub no_head : HasNoRequest front
  pub many : FIELD_LIMIT + 1 < lines_ended front

pub not_many : {bytes : List ℕ} {h : RequestHead} (tail : List ℕ) → ReadsRequest bytes h tail → length h.fields ≤ FIELD_LIMIT → HasManyLines bytes → ⊥
not_many {bytes} {h} tail reads few m =
    let here : ReadsRequest (m.front ++ m.rest) h tail = subst (λ w. ReadsRequest w h tail) m.cut reads in
    elim (le_or_less (length (print_request h)) (length m.front)) [
      | inl long ↦ reaches m.front m.rest h tail here long m.no_head
      | inr less ↦ absurd (omega (arith, stays_few m.front m.rest h tail here less, few, m.many))
    ]
