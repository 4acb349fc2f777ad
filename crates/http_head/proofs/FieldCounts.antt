-- The fields of a head that has not come to its end, by the lines that have ended.
use Rattle.std.proofs.Common.{◌≡◌, ◌+◌, ◌<◌, ◌≤◌, ◌⊎◌, ℕ, zero, suc, List, [], ◌∷◌, ◌++◌, length, refl, sym, ap, ◌∙◌, subst, arith, inl, inr, append_assoc}
use Rattle.std.specs.List.{flat_map}
use Rattle.std.specs.Prelude.{All}
use Rattle.std.proofs.lemmas.List.{append-nil, length-append}
use Rattle.std.proofs.lemmas.List.Elements.{All-head, All-tail, All-cons, All-nil}
use Rattle.httparse.specs.Grammar.{LineEnd, lf, print_end, print_blank, print_version, Field, print_field, IsField, RequestHead, IsRequestHead, print_request, ReadsRequest, HasNoRequest, MayBecomeRequest, EndsInTarget, is_token_byte, is_uri_byte, is_value_byte}
use Rattle.httparse.specs.Spans.{RequestExceeds}
use Rattle.httparse.proofs.PieceLemmas.{Stops_token}
use Rattle.httparse.proofs.GrammarLemmas.{print_request-append}
use Rattle.http_head.specs.declared.heads.TheConstants.{FIELD_LIMIT}
use Rattle.http_head.specs.Lines.{lines_ended}
use Rattle.http_head.proofs.FewLines.{feeds, feeds_append, feeds_end, feeds_none, token_no_feed, uri_no_feed, value_no_feed, feeds_field, feeds_version, lines_grow, skip_ends, skip_none, before_feed, end_is, feeds_before}

abbrev first : List ℕ → ℕ
first [] = 0
first (x ∷ xs) = x

abbrev others : List ℕ → List ℕ
others [] = []
others (x ∷ xs) = xs

-- of two ways to cut a text one cuts it later
pub record IsLonger (long more short tail : List ℕ) : Type 0 where
  pub between : List ℕ
  pub cut : long ≡ short ++ between
  pub rest : tail ≡ between ++ more

pub cut_twice : (xs m ys t : List ℕ) → xs ++ m ≡ ys ++ t → IsLonger xs m ys t ⊎ (IsLonger ys t xs m × (length xs < length ys))
cut_twice [] m [] t e = inl (record { between = []; cut = refl; rest = sym e })
cut_twice [] m (y ∷ ys) t e = inr (record { between = y ∷ ys; cut = refl; rest = e }, omega arith)
cut_twice (x ∷ xs) m [] t e = inl (record { between = x ∷ xs; cut = refl; rest = sym e })
cut_twice (x ∷ xs) m (y ∷ ys) t e =
    let same : x ≡ y = ap first e in
    let on : xs ++ m ≡ ys ++ t = ap others e in
    elim (cut_twice xs m ys t on) [
      | inl l ↦ inl (record { between = l.between; cut = ap (λ z. z ∷ xs) same ∙ ap (λ w. y ∷ w) l.cut; rest = l.rest })
      | inr l ↦ inr (record { between = l.0.between; cut = ap (λ z. z ∷ ys) (sym same) ∙ ap (λ w. x ∷ w) l.0.cut; rest = l.0.rest }, omega (arith, l.1))
    ]

-- a text that ends before the last byte of another has no line feed that this does not have before that byte
quiet_front : (xs w ys : List ℕ) (z : ℕ) → xs ++ w ≡ ys ++ z ∷ [] → 0 < length w → feeds xs ≤ feeds ys
quiet_front xs w ys z e some = elim (cut_twice xs w ys (z ∷ []) e) [
  | inl l ↦ (
      let one : length (z ∷ []) ≡ 1 = refl in
      let none : length l.between ≡ 0 = omega (arith, one, some, ap length l.rest, length-append l.between w) in
      let same : feeds l.between ≡ 0 = no_feeds l.between none in
      omega (arith, ap feeds l.cut, feeds_append ys l.between, same)
      )
  | inr l ↦ omega (arith, ap feeds l.0.cut, feeds_append xs l.0.between)
]
  where
    no_feeds : (bytes : List ℕ) → length bytes ≡ 0 → feeds bytes ≡ 0
    no_feeds [] h = refl
    no_feeds (b ∷ bytes) h = absurd (omega (arith, h))

-- the first n fields have come
record FieldsIn (n : ℕ) (text : List ℕ) : Type 0 where
  fields : List Field
  rest : List ℕ
  are : All IsField fields
  count : length fields ≡ n
  cut : text ≡ flat_map print_field fields ++ rest

-- the lines of fields that have ended in a text that does not reach their end
fields_in : (n : ℕ) (fs : List Field) (text more : List ℕ) (last : LineEnd) → All IsField fs → 0 < length more →
    text ++ more ≡ flat_map print_field fs ++ print_end last → n ≤ feeds text → FieldsIn n text
fields_in zero fs text more last all some e many = record { fields = []; rest = text; are = All-nil IsField; count = refl; cut = refl }
fields_in (suc n) [] text more last all some e many =
    let none : feeds text ≤ feeds (before_feed last) = quiet_front text more (before_feed last) 10 (e ∙ end_is last) some in
    absurd (omega (arith, none, feeds_before last, many))
fields_in (suc n) (f ∷ fs) text more last all some e many =
    let tail = flat_map print_field fs ++ print_end last in
    let is = All-head IsField f fs all in
    let whole : text ++ more ≡ print_field f ++ tail = e ∙ append_assoc (print_field f) (flat_map print_field fs) (print_end last) in
    elim (cut_twice text more (print_field f) tail whole) [
      | inl l ↦ (
          let fewer : n ≤ feeds l.between = omega (arith, many, ap feeds l.cut, feeds_append (print_field f) l.between, feeds_field f is) in
          let next = fields_in n fs l.between more last (All-tail IsField f fs all) some (sym l.rest) fewer in
          record {
            fields = f ∷ next.fields;
            rest = next.rest;
            are = All-cons IsField f next.fields is next.are;
            count = omega (arith, next.count);
            cut = l.cut ∙ ap (λ w. print_field f ++ w) next.cut ∙ sym (append_assoc (print_field f) (flat_map print_field next.fields) next.rest);
          }
          )
      | inr l ↦ (
          let line = f.name ++ 58 ∷ f.raw in
          let before = line ++ before_feed f.end in
          let parts : text ++ l.0.between ≡ before ++ 10 ∷ [] =
          sym l.0.cut ∙ ap (λ w. line ++ w) (end_is f.end) ∙ sym (append_assoc line (before_feed f.end) (10 ∷ [])) in
          let left : 0 < length l.0.between = omega (arith, l.1, ap length l.0.cut, length-append text l.0.between) in
          let colon : feeds (58 ∷ []) ≡ 0 = refl in
          absurd (omega (
            arith,
            many,
            colon,
            quiet_front text l.0.between before 10 parts left,
            feeds_append line (before_feed f.end),
            feeds_before f.end,
            feeds_append f.name (58 ∷ f.raw),
            feeds_append (58 ∷ []) f.raw,
            feeds_none is_token_byte token_no_feed f.name is.name.1,
            feeds_none is_value_byte value_no_feed f.raw is.raw,
          ))
          )
    ]

-- the request line of a head, and what follows it
abbrev led : RequestHead → List ℕ → List ℕ
led h text = print_blank h.blank ++ (h.method ++ 32 ∷ (h.target ++ 32 ∷ (print_version h.minor ++ (print_end h.line_end ++ text))))

led_append : (h : RequestHead) (xs ys : List ℕ) → led h (xs ++ ys) ≡ led h xs ++ ys
led_append h xs ys = regroup (print_blank h.blank) h.method h.target (print_version h.minor) (print_end h.line_end)
  where
    regroup : (a b c d e : List ℕ) → a ++ (b ++ 32 ∷ (c ++ 32 ∷ (d ++ (e ++ (xs ++ ys))))) ≡ (a ++ (b ++ 32 ∷ (c ++ 32 ∷ (d ++ (e ++ xs))))) ++ ys
    regroup a b c d e = simp append_assoc

led_lines : (h : RequestHead) (text : List ℕ) → IsRequestHead h → lines_ended (led h text) ≡ 1 + feeds text
led_lines h text is =
    let from_end = print_end h.line_end ++ text in
    let from_version = print_version h.minor ++ from_end in
    let line = h.method ++ 32 ∷ (h.target ++ 32 ∷ from_version) in
    let space : feeds (32 ∷ []) ≡ 0 = refl in
    let same : lines_ended (led h text) ≡ feeds line = ap feeds (skip_ends h.blank line ∙ skip_none line (Stops_token h.method _ is.method.0 is.method.1)) in
    omega (
      arith,
      same,
      space,
      feeds_append h.method (32 ∷ (h.target ++ 32 ∷ from_version)),
      feeds_append (32 ∷ []) (h.target ++ 32 ∷ from_version),
      feeds_append h.target (32 ∷ from_version),
      feeds_append (32 ∷ []) from_version,
      feeds_append (print_version h.minor) from_end,
      feeds_append (print_end h.line_end) text,
      feeds_none is_token_byte token_no_feed h.method is.method.1,
      feeds_none is_uri_byte uri_no_feed h.target is.target.1,
      feeds_version h.minor,
      feeds_end h.line_end,
    )

-- the head with these fields instead
abbrev with_fields : RequestHead → List Field → RequestHead
with_fields h fields = record { blank = h.blank; method = h.method; target = h.target; minor = h.minor; line_end = h.line_end; fields = fields; last = lf }

exceeds : (h : RequestHead) (buf : List ℕ) (n : ℕ) → IsRequestHead h → FIELD_LIMIT < n → (between : List ℕ) → buf ≡ led h [] ++ between → FieldsIn n between → RequestExceeds FIELD_LIMIT buf
exceeds h buf n is many between cut f =
    let k = with_fields h f.fields in
    let lines = flat_map print_field f.fields in
    let front = led h [] ++ lines in
    let head : front ++ print_end lf ≡ print_request k ++ [] =
    append_assoc (led h []) lines (print_end lf) ∙ sym (led_append h [] (lines ++ print_end lf)) ∙ ap (led h) (sym (append-nil (lines ++ print_end lf)))
    ∙ sym (print_request-append k []) in (
      front,
      f.rest,
      cut ∙ ap (λ w. led h [] ++ w) f.cut ∙ sym (append_assoc (led h []) lines f.rest),
      k,
      (record { method = is.method; target = is.target; target_text = is.target_text; minor = is.minor; fields = f.are }, head),
      omega (arith, many, f.count),
    )

-- lines beyond the request line and as many as the limit are lines of fields
fields_of_lines : (buf more : List ℕ) (h : RequestHead) → 0 < length more → ReadsRequest (buf ++ more) h [] → FIELD_LIMIT + 1 < lines_ended buf → RequestExceeds FIELD_LIMIT buf
fields_of_lines buf more h some reads many =
    let is = reads.0 in
    let section = flat_map print_field h.fields ++ print_end h.last in
    let whole : buf ++ more ≡ led h [] ++ section =
    reads.1 ∙ print_request-append h [] ∙ ap (led h) (append-nil section) ∙ led_append h [] section in
    elim (cut_twice buf more (led h []) section whole) [
      | inl l ↦ (
          let lines : lines_ended buf ≡ 1 + feeds l.between = ap lines_ended (l.cut ∙ sym (led_append h [] l.between)) ∙ led_lines h l.between is in
          let enough : FIELD_LIMIT + 1 ≤ feeds l.between = omega (arith, many, lines) in
          exceeds h buf (FIELD_LIMIT + 1) is (omega arith) l.between l.cut
          (fields_in (FIELD_LIMIT + 1) h.fields l.between more h.last is.fields some (sym l.rest) enough)
          )
      | inr l ↦ (
          let none : feeds [] ≡ 0 = refl in
          absurd (omega (arith, many, none, lines_grow buf l.0.between, ap lines_ended l.0.cut, led_lines h [] is))
          )
    ]

-- no line ends in bytes that end inside a target
pub target_lines : (bytes : List ℕ) → EndsInTarget bytes → lines_ended bytes ≡ 0
target_lines bytes (blank, method, target, token, uri, cut) =
    let line = method ++ 32 ∷ target in
    let space : feeds (32 ∷ []) ≡ 0 = refl in
    let same : lines_ended bytes ≡ feeds line = ap lines_ended (cut ∙ append_assoc (print_blank blank) method (32 ∷ target)) ∙ ap feeds (skip_ends blank line ∙ skip_none line (Stops_token method _ token.0 token.1)) in
    omega (
      arith,
      same,
      space,
      feeds_append method (32 ∷ target),
      feeds_append (32 ∷ []) target,
      feeds_none is_token_byte token_no_feed method token.1,
      feeds_none is_uri_byte uri_no_feed target uri,
    )

-- what may become a head, and has more lines than the limit, has more fields
pub many_by_lines : (buf : List ℕ) → HasNoRequest buf → MayBecomeRequest buf → FIELD_LIMIT + 1 < lines_ended buf → RequestExceeds FIELD_LIMIT buf
many_by_lines buf none (inl ([], h, reads)) many = absurd (none h [] (subst (λ w. ReadsRequest w h []) (append-nil buf) reads))
many_by_lines buf none (inl (m ∷ more, h, reads)) many = fields_of_lines buf (m ∷ more) h (omega arith) reads many
many_by_lines buf none (inr target) many = absurd (omega (arith, many, target_lines buf target))
