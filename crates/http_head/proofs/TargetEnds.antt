-- Bytes that end inside the target of a request.
use Rattle.std.proofs.Common.{◌≡◌, ◌≢◌, ◌+◌, ◌<◌, ℕ, true, false, cond, not, List, [], ◌∷◌, ◌++◌, length, take, drop, refl, sym, ap, ◌∙◌, subst, arith, rules, inl, inr, append_assoc}
use Rattle.std.specs.List.{list_all, prefix_len}
use Rattle.std.specs.Prelude.{◌==◌}
use Rattle.std.proofs.Math.Seq.{take-append_seam, drop-append_seam}
use Rattle.std.proofs.lemmas.Bool.{false≢true, ne_eqb}
use Rattle.std.proofs.lemmas.Bool.Decides.{eqb_tells}
use Rattle.std.proofs.lemmas.List.{append-nil, length-append, take-append-drop}
use Rattle.std.proofs.lemmas.List.Elements.{All-head, All-tail, All-cons, All-nil, All-append, All-take}
use Rattle.std.proofs.lemmas.List.Sums.{AllPass-from_list_all, list_all-from_AllPass}
use Rattle.std.proofs.lemmas.Str.{IsUtf8-from_ascii}
use Rattle.httparse.specs.Grammar.{LineEnd, crlf, lf, print_end, print_blank, print_version, print_section, RequestHead, IsRequestHead, ReadsRequest, HasNoRequest, NeverHasRequest, MayBecomeRequest, EndsInTarget, AllPass, IsToken, is_token_byte, is_uri_byte}
use Rattle.httparse.proofs.GrammarLemmas.{print_request-append, request_prefix_free}
use Rattle.http_head.specs.declared.heads.Parsed.{Parsed}
use Rattle.http_head.specs.declared.heads.Parsed.TheVariants.{Whole, Partial, TooMany, Invalid}
use Rattle.http_head.specs.Heads.{IsAnswer}
use Rattle.http_head.specs.Lines.{lines_ended}
use Rattle.http_head.specs.Targets.{is_no_space}
use Rattle.http_head.proofs.FewLines.{lines_grow}
use Rattle.http_head.proofs.FieldCounts.{cut_twice, target_lines}
use Rattle.http_head.proofs.LineCounts.{many_lines_of}

-- how many spaces there are
abbrev spaces : List ℕ → ℕ
spaces [] = 0
spaces (x ∷ xs) = cond (x == 32) 1 0 + spaces xs

spaces_append : (xs ys : List ℕ) → spaces (xs ++ ys) ≡ spaces xs + spaces ys
spaces_append [] ys = omega arith
spaces_append (x ∷ xs) ys = omega (arith, spaces_append xs ys)

spaces_blank : (ends : List LineEnd) → spaces (print_blank ends) ≡ 0
spaces_blank [] = refl
spaces_blank (crlf ∷ ends) = let same : spaces (print_blank (crlf ∷ ends)) ≡ 0 + (0 + spaces (print_blank ends)) = refl in omega (arith, same, spaces_blank ends)
spaces_blank (lf ∷ ends) = let same : spaces (print_blank (lf ∷ ends)) ≡ 0 + spaces (print_blank ends) = refl in omega (arith, same, spaces_blank ends)

token_no_space : (b : ℕ) → is_token_byte b ≡ true → (b == 32) ≡ false
unfolding is_token_byte
token_no_space b t = ne_eqb b 32 (λ e. false≢true (subst (λ (v : ℕ). is_token_byte v ≡ true) e t))

spaces_token : (bytes : List ℕ) → AllPass is_token_byte bytes → spaces bytes ≡ 0
spaces_token [] all = refl
spaces_token (b ∷ bytes) all =
    let one : cond {A = ℕ} (b == 32) 1 0 ≡ 0 = ap (λ v. cond {A = ℕ} v 1 0) (token_no_space b (All-head (λ v. is_token_byte v ≡ true) b bytes all)) in
    omega (arith, one, spaces_token bytes (All-tail (λ v. is_token_byte v ≡ true) b bytes all))

spaces_lead : (blank : List LineEnd) (method : List ℕ) → IsToken method → spaces (print_blank blank ++ method) ≡ 0
spaces_lead blank method token = omega (arith, spaces_append (print_blank blank) method, spaces_blank blank, spaces_token method token.1)

-- the first space stands after bytes that have none
first_after : (xs rest : List ℕ) → spaces xs ≡ 0 → prefix_len is_no_space (xs ++ 32 ∷ rest) ≡ length xs
first_after [] rest e = refl
first_after (x ∷ xs) rest e = elim (eqb_tells x 32) [
  | inl h ↦ (let one : cond {A = ℕ} (x == 32) 1 0 ≡ 1 = ap (λ v. cond {A = ℕ} v 1 0) h.0 in absurd (omega (arith, one, e)))
  | inr h ↦ (
      let one : cond {A = ℕ} (x == 32) 1 0 ≡ 0 = ap (λ v. cond {A = ℕ} v 1 0) h.0 in
      let next = first_after xs rest (omega (arith, one, e)) in
      ap (λ v. cond {A = ℕ} (not v) (1 + prefix_len is_no_space (xs ++ 32 ∷ rest)) 0) h.0 ∙ omega (arith, next)
      )
]

-- the bytes before the first space and after it
record AtSpace (buf : List ℕ) : Type 0 where
  before : List ℕ
  after : List ℕ
  cut : buf ≡ before ++ 32 ∷ after
  none : spaces before ≡ 0

at_space : (buf : List ℕ) → prefix_len is_no_space buf < length buf → AtSpace buf
at_space [] less = absurd (omega (arith, less))
at_space (b ∷ buf) less = elim (eqb_tells b 32) [
  | inl h ↦ record { before = []; after = buf; cut = ap (λ x. x ∷ buf) h.1; none = refl }
  | inr h ↦ (
      let one : cond {A = ℕ} (b == 32) 1 0 ≡ 0 = ap (λ v. cond {A = ℕ} v 1 0) h.0 in
      let more : prefix_len is_no_space (b ∷ buf) ≡ 1 + prefix_len is_no_space buf = ap (λ v. cond {A = ℕ} (not v) (1 + prefix_len is_no_space buf) 0) h.0 in
      let next = at_space buf (omega (arith, less, more)) in
      record { before = b ∷ next.before; after = next.after; cut = ap (λ w. b ∷ w) next.cut; none = omega (arith, one, next.none) }
      )
]

-- the parts round the first space, by its place
record PartsAt (buf : List ℕ) (at : ℕ) (before after : List ℕ) : Type 0 where
  place : at ≡ length before
  front : take (at + 1) buf ≡ before ++ 32 ∷ []
  rest : drop (at + 1) buf ≡ after

parts_at : (buf : List ℕ) (at : ℕ) (before after : List ℕ) → at ≡ prefix_len is_no_space buf → buf ≡ before ++ 32 ∷ after → spaces before ≡ 0 → PartsAt buf at before after
parts_at buf at before after e cut none =
    let front = before ++ 32 ∷ [] in
    let one : length {A = ℕ} (32 ∷ []) ≡ 1 = refl in
    let place : at ≡ length before = e ∙ ap (prefix_len is_no_space) cut ∙ first_after before after none in
    let size : at + 1 ≡ length front = omega (arith, place, one, length-append before (32 ∷ [])) in
    let whole : buf ≡ front ++ after = cut ∙ sym (append_assoc before (32 ∷ []) after) in
    record {
      place = place;
      front = ap (λ n. take n buf) size ∙ ap (take (length front)) whole ∙ take-append_seam front after;
      rest = ap (λ n. drop n buf) size ∙ ap (drop (length front)) whole ∙ drop-append_seam front after;
    }

-- an end of a head after a method and a space
abbrev closing : List ℕ
closing = 47 ∷ 32 ∷ (print_version 0 ++ (print_end lf ++ (print_section [] lf ++ [])))

abbrev closed : List LineEnd → List ℕ → RequestHead
closed blank method = record { blank = blank; method = method; target = 47 ∷ []; minor = 0; line_end = lf; fields = []; last = lf }

is_closed : (blank : List LineEnd) (method : List ℕ) → IsToken method → IsRequestHead (closed blank method)
is_closed blank method token = record {
  method = token;
  target = (omega arith, search (rules, All-cons, All-nil));
  target_text = IsUtf8-from_ascii (47 ∷ []) (search (rules, All-cons, All-nil));
  minor = omega arith;
  fields = search (rules, All-nil);
}

closes : (blank : List LineEnd) (method : List ℕ) → IsToken method → ReadsRequest (((print_blank blank ++ method) ++ 32 ∷ []) ++ closing) (closed blank method) []
closes blank method token = (
  is_closed blank method token,
  append_assoc (print_blank blank ++ method) (32 ∷ []) closing ∙ append_assoc (print_blank blank) method (32 ∷ closing) ∙ sym (print_request-append (closed blank method) []),
)

-- what the parser answers of a method and a space is that a head may come
only_partial : (front : List ℕ) (blank : List LineEnd) (method : List ℕ) → IsToken method → front ≡ (print_blank blank ++ method) ++ 32 ∷ [] → (r : Parsed) → IsAnswer front r → (r ≡ Partial → ⊥) → ⊥
only_partial front blank method token cut (Whole head) (h, at) other =
    let next : ReadsRequest (front ++ closing) (closed blank method) [] = subst (λ w. ReadsRequest (w ++ closing) (closed blank method) []) (sym cut) (closes blank method token) in
    let same = request_prefix_free front closing h (closed blank method) (drop head.len front) [] at.reads next in
    let some : length closing ≡ 12 = refl in
    absurd (omega (arith, some, ap length same.1, length-append (drop head.len front) closing))
only_partial front blank method token cut Partial answer other = other refl
only_partial front blank method token cut TooMany answer other =
    let many = many_lines_of answer in
    let target : EndsInTarget front = (blank, method, [], token, All-nil _, cut) in
    absurd (omega (arith, many.many, lines_grow many.front many.rest, ap lines_ended many.cut, target_lines front target))
only_partial front blank method token cut Invalid never other =
    never closing (closed blank method) [] (subst (λ w. ReadsRequest (w ++ closing) (closed blank method) []) (sym cut) (closes blank method token))

-- bytes without a space end in no target
pub no_target_before : (buf : List ℕ) (at : ℕ) → at ≡ prefix_len is_no_space buf → at ≡ length buf → EndsInTarget buf → ⊥
no_target_before buf at e past (blank, method, target, token, uri, cut) =
    let x = print_blank blank ++ method in
    let parts = parts_at buf at x target e cut (spaces_lead blank method token) in
    omega (arith, past, parts.place, ap length cut, length-append x (32 ∷ target))

-- a byte after the first space that may stand in no target
pub no_target_of : (buf : List ℕ) (at : ℕ) → at ≡ prefix_len is_no_space buf → list_all is_uri_byte (drop (at + 1) buf) ≡ false → EndsInTarget buf → ⊥
no_target_of buf at e bad (blank, method, target, token, uri, cut) =
    let parts = parts_at buf at (print_blank blank ++ method) target e cut (spaces_lead blank method token) in
    false≢true (sym (ap (list_all is_uri_byte) (sym parts.rest) ∙ bad) ∙ list_all-from_AllPass is_uri_byte target uri)

-- no method stands before the first space
pub no_target_after : (buf : List ℕ) (at : ℕ) (r : Parsed) → at ≡ prefix_len is_no_space buf → IsAnswer (take (at + 1) buf) r → (r ≡ Partial → ⊥) → EndsInTarget buf → ⊥
no_target_after buf at r e answer other (blank, method, target, token, uri, cut) =
    let parts = parts_at buf at (print_blank blank ++ method) target e cut (spaces_lead blank method token) in
    only_partial (take (at + 1) buf) blank method token parts.front r answer other

-- a method stands before the first space, and bytes of a target after it
pub target_after : (buf : List ℕ) (at : ℕ) → at ≡ prefix_len is_no_space buf → at < length buf → MayBecomeRequest (take (at + 1) buf) → list_all is_uri_byte (drop (at + 1) buf) ≡ true → EndsInTarget buf
target_after buf at e less (inr (blank, method, target, token, uri, cut)) all =
    let rest = drop (at + 1) buf in
    let x = print_blank blank ++ method in (
      blank,
      method,
      target ++ rest,
      token,
      All-append (λ b. is_uri_byte b ≡ true) target rest uri (AllPass-from_list_all is_uri_byte rest all),
      sym (take-append-drop (at + 1) buf) ∙ ap (λ w. w ++ rest) cut ∙ append_assoc x (32 ∷ target) rest,
    )
target_after buf at e less (inl (more, h, reads)) all =
    let here = at_space buf (omega (arith, e, less)) in
    let parts = parts_at buf at here.before here.after e here.cut here.none in
    let x = print_blank h.blank ++ h.method in
    let tail = h.target ++ 32 ∷ (print_version h.minor ++ (print_end h.line_end ++ (print_section h.fields h.last ++ []))) in
    let token = reads.0.method in
    let both : here.before ++ 32 ∷ more ≡ x ++ 32 ∷ tail =
    sym (append_assoc here.before (32 ∷ []) more) ∙ ap (λ w. w ++ more) (sym parts.front) ∙ reads.1 ∙ print_request-append h []
    ∙ sym (append_assoc (print_blank h.blank) h.method (32 ∷ tail)) in
    let sizes : length here.before ≡ length x =
    sym (first_after here.before more here.none) ∙ ap (prefix_len is_no_space) both ∙ first_after x tail (spaces_lead h.blank h.method token) in
    let same : here.before ≡ x =
    sym (take-append_seam here.before (32 ∷ more)) ∙ ap (take (length here.before)) both ∙ ap (λ n. take n (x ++ 32 ∷ tail)) sizes ∙ take-append_seam x (32 ∷ tail) in (
      h.blank,
      h.method,
      here.after,
      token,
      subst (λ w. AllPass is_uri_byte w) parts.rest (AllPass-from_list_all is_uri_byte (drop (at + 1) buf) all),
      here.cut ∙ ap (λ w. w ++ 32 ∷ here.after) same,
    )

-- bytes that begin no head, and do not end inside a target, do not come to end inside one
pub target_never : (front tail : List ℕ) → NeverHasRequest front → ¬ EndsInTarget front → ¬ EndsInTarget (front ++ tail)
target_never front tail never outside (blank, method, target, token, uri, cut) =
    let x = (print_blank blank ++ method) ++ 32 ∷ [] in
    let whole : front ++ tail ≡ x ++ target = cut ∙ sym (append_assoc (print_blank blank ++ method) (32 ∷ []) target) in
    elim (cut_twice front tail x target whole) [
      | inl l ↦ outside (
        blank,
        method,
        l.between,
        token,
        subst (λ w. AllPass is_uri_byte w) (ap (take (length l.between)) l.rest ∙ take-append_seam l.between tail) (All-take (λ b. is_uri_byte b ≡ true) (length l.between) target uri),
        l.cut ∙ append_assoc (print_blank blank ++ method) (32 ∷ []) l.between,
      )
      | inr l ↦ never (l.0.between ++ closing) (closed blank method) [] (
          subst (λ w. ReadsRequest w (closed blank method) []) (ap (λ w. w ++ closing) l.0.cut ∙ append_assoc front l.0.between closing) (closes blank method token)
          )
    ]

-- bytes that end inside a target are the beginning of a head, though no bytes that follow make one
pub begun : (buf : List ℕ) → NeverHasRequest buf → EndsInTarget buf → HasNoRequest buf × MayBecomeRequest buf
begun buf never target = ((λ h rest reads. never [] h rest (subst (λ w. ReadsRequest w h rest) (sym (append-nil buf)) reads)), inr target)
