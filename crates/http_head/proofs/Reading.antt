-- What stands at the front of bytes stands there whatever follows.
use Rattle.std.proofs.Common.{◌≡◌, ◌≢◌, ◌≤◌, ◌<◌, ◌+◌, ◌-◌, ◌⊎◌, inl, inr, ℕ, zero, suc, List, [], ◌∷◌, ◌++◌, length, take, drop, refl, sym, ap, ◌∙◌, arith, subst, append_assoc, length-drop, length-take, min}
use Rattle.std.proofs.lemmas.List.{take-append-drop, take-append-le, drop-append-le, take_all}
use Rattle.httparse.specs.Grammar.{ReadsRequest, NeverHasRequest, HasNoRequest, MayBecomeRequest, EndsInTarget}
use Rattle.httparse.specs.Spans.{span_bytes, IsWithin}
use Rattle.httparse.specs.declared.spans.Span.{Span}
use Rattle.httparse.proofs.GrammarLemmas.{ReadsRequest-append}
use Rattle.http_head.specs.declared.heads.Head.{Head}
use Rattle.http_head.specs.declared.heads.HeadRead.{HeadRead}
use Rattle.http_head.specs.declared.heads.HeadRead.TheVariants.{Found, More, Bad, TooLong}
use Rattle.http_head.specs.Heads.{IsHead, HasManyFields, HasLongHead, NeverHasHead, IsOpen, IsHeadRead, StaysRead}
use Rattle.http_head.specs.declared.heads.TheConstants.{HEAD_LIMIT, FIELD_LIMIT}
use Rattle.http_head.specs.Lines.{lines_ended}
use Rattle.http_head.proofs.FewLines.{lines_grow}
use Rattle.http_head.proofs.LineCounts.{many_lines_of}
use Rattle.http_head.proofs.TargetEnds.{target_never}

-- a longer list is no shorter
length_grows : (xs ys : List ℕ) → length xs ≤ length (xs ++ ys)
length_grows [] ys = omega arith
length_grows (x ∷ xs) ys = omega (arith, length_grows xs ys)

-- bytes that follow do not change what stands at a place within the first ones
pub span_on : (front tail : List ℕ) (n : ℕ) (s : Span) → IsWithin n s → n ≤ length front → span_bytes (front ++ tail) s ≡ span_bytes front s
span_on front tail n s within fits =
    let start : s.start ≤ length front = omega (arith, within.0, within.1) in
    let some : s.end - s.start ≤ length (drop s.start front) = omega (arith, within.0, within.1, length-drop s.start front) in
    ap (λ w. take (s.end - s.start) w) (drop-append-le s.start front tail start) ∙ take-append-le (s.end - s.start) (drop s.start front) tail some

-- a head at the front is one whatever follows
pub head_on : {front : List ℕ} {head : Head} (tail : List ℕ) → IsHead front head → IsHead (front ++ tail) head
head_on {front} {head} tail (h, at) = (
  h,
  record {
    reads = subst (λ w. ReadsRequest (front ++ tail) h w) (sym (drop-append-le head.len front tail at.within))
        (ReadsRequest-append front h (drop head.len front) tail at.reads);
    len = at.len;
    within = omega (arith, at.within, length_grows front tail);
    few = at.few;
    method_within = at.method_within;
    target_within = at.target_within;
    method = span_on front tail head.len head.method at.method_within at.within ∙ at.method;
    target = span_on front tail head.len head.target at.target_within at.within ∙ at.target;
    framing = at.framing;
    last = at.last;
    origin = at.origin;
  },
)

-- bytes that begin no head begin none whatever follows
pub never_on : (front tail : List ℕ) → NeverHasRequest front → NeverHasRequest (front ++ tail)
never_on front tail never more h rest reads = never (tail ++ more) h rest (subst (λ w. ReadsRequest w h rest) (append_assoc front tail more) reads)

-- few lines are few fields
few_by_lines : (bytes : List ℕ) → lines_ended bytes ≤ FIELD_LIMIT + 1 → ¬ HasManyFields bytes
few_by_lines bytes few x =
    let m = many_lines_of x in
    omega (arith, few, m.many, lines_grow m.front m.rest, ap lines_ended m.cut)

-- the front that is looked at
pub front_is : (n m : ℕ) (bytes : List ℕ) → m ≡ min (length bytes) n → take m bytes ≡ take n bytes
front_is n m bytes e = elim (le_cases (length bytes) n) [
  | inl short ↦ (let same : length bytes ≤ m = omega (arith, e, short) in take_all m bytes same ∙ sym (take_all n bytes short))
  | inr long ↦ (let same : m ≡ n = omega (arith, e, long) in ap (λ k. take k bytes) same)
]
  where
    le_cases : (a b : ℕ) → (a ≤ b) ⊎ (b ≤ a)
    le_cases zero b = inl (omega arith)
    le_cases (suc a) zero = inr (omega arith)
    le_cases (suc a) (suc b) = elim (le_cases a b) [ inl h ↦ inl (omega (arith, h)) | inr h ↦ inr (omega (arith, h)) ]

-- what is found in the bytes that are looked at is found in all
pub found_in : (bytes : List ℕ) (m : ℕ) (head : Head) → m ≡ min (length bytes) HEAD_LIMIT → IsHead (take m bytes) head →
    IsHead bytes head × (head.len ≤ HEAD_LIMIT)
found_in bytes m head e found = (
  subst (λ w. IsHead w head) (take-append-drop m bytes) (head_on (drop m bytes) found),
  omega (arith, e, found.1.within, length-take m bytes),
)

-- a head is too long by its bytes
pub long_by_bytes : (bytes : List ℕ) (m : ℕ) → m ≡ min (length bytes) HEAD_LIMIT → length (take m bytes) ≡ HEAD_LIMIT →
    HasNoRequest (take m bytes) × MayBecomeRequest (take m bytes) → HasLongHead bytes
long_by_bytes bytes m e full open_yet =
    let same = front_is HEAD_LIMIT m bytes e in
    inl (omega (arith, e, full, length-take m bytes), subst HasNoRequest same open_yet.0, subst MayBecomeRequest same open_yet.1)

-- a head is too long by its fields
pub long_by_fields : (bytes : List ℕ) (m : ℕ) → m ≡ min (length bytes) HEAD_LIMIT → HasManyFields (take m bytes) → HasLongHead bytes
long_by_fields bytes m e many = inr (subst HasManyFields (front_is HEAD_LIMIT m bytes e) many)

-- a head may still come
pub open_here : (bytes : List ℕ) (m : ℕ) → m ≡ min (length bytes) HEAD_LIMIT → length (take m bytes) ≢ HEAD_LIMIT →
    HasNoRequest (take m bytes) × MayBecomeRequest (take m bytes) → lines_ended (take m bytes) ≤ FIELD_LIMIT + 1 → IsOpen bytes
open_here bytes m e part open_yet few =
    let short : length bytes < HEAD_LIMIT = omega (arith, e, part, length-take m bytes) in
    let whole : length bytes ≤ m = omega (arith, e, short) in
    let same = take_all m bytes whole in
    record {
      short = short;
      no_head = subst HasNoRequest same open_yet.0;
      may_become = subst MayBecomeRequest same open_yet.1;
      few = few_by_lines bytes (subst (λ w. lines_ended w ≤ FIELD_LIMIT + 1) same few);
    }

-- the first n bytes of two texts
take_on : (n : ℕ) (front tail : List ℕ) → take n (front ++ tail) ≡ take n front ++ take (n - length front) tail
take_on zero [] tail = refl
take_on (suc k) [] tail = let same : suc k ≡ suc k - 0 = omega arith in ap (λ m. take m tail) same
take_on zero (x ∷ front) tail = let none : 0 ≡ 0 - length (x ∷ front) = omega arith in ap (λ m. take m tail) none
take_on (suc k) (x ∷ front) tail =
    ap (λ w. x ∷ w) (take_on k front tail ∙ ap (λ m. take k front ++ take m tail) (omega arith))

-- the same three for what is at the front within the limit
pub bad_on : (front tail : List ℕ) → NeverHasHead front → NeverHasHead (front ++ tail)
bad_on front tail (never, outside) =
    let seen = take HEAD_LIMIT front in
    let more = take (HEAD_LIMIT - length front) tail in
    subst (λ w. NeverHasRequest w × ¬ EndsInTarget w) (sym (take_on HEAD_LIMIT front tail)) (never_on seen more never, target_never seen more never outside)

many_on : (front tail : List ℕ) → HasManyFields front → HasManyFields (front ++ tail)
many_on front tail (fields, rest, cut, h, reads, many) = (fields, rest ++ tail, ap (λ w. w ++ tail) cut ∙ append_assoc fields rest tail, h, reads, many)

pub long_on : (front tail : List ℕ) → HasLongHead front → HasLongHead (front ++ tail)
long_on front tail (inl h) =
    let same = sym (take-append-le HEAD_LIMIT front tail h.0) in
    inl (omega (arith, h.0, length_grows front tail), subst HasNoRequest same h.1, subst MayBecomeRequest same h.2)
long_on front tail (inr h) =
    inr (subst HasManyFields (sym (take_on HEAD_LIMIT front tail)) (many_on (take HEAD_LIMIT front) (take (HEAD_LIMIT - length front) tail) h))

-- what was read of some bytes is read of more bytes too, unless a head may still come
pub stays_read : (bytes : List ℕ) (read : HeadRead) → IsHeadRead bytes read → StaysRead bytes read
stays_read bytes (Found head) (found, fits) = λ more. (head_on more found, fits)
stays_read bytes More open_yet = tt
stays_read bytes Bad never = λ more. bad_on bytes more never
stays_read bytes TooLong long = λ more. long_on bytes more long
