-- Two ends that the same bytes allow.
use Rattle.std.proofs.Common.{◌≡◌, ◌-◌, ◌<◌, ◌⊎◌, ℕ, false, List, [], ◌∷◌, length, take, refl, sym, ap, ◌∙◌, subst, arith, rules, inl, inr}
use Rattle.std.proofs.lemmas.List.{append-nil, take_all}
use Rattle.std.proofs.lemmas.Str.{IsUtf8-from_ascii}
use Rattle.std.proofs.lemmas.List.Elements.{All-cons, All-nil}
use Rattle.httparse.specs.Grammar.{lf, RequestHead, IsRequestHead, print_request, ReadsRequest, EndsInTarget, NeverHasRequest, MayBecomeRequest, is_token_byte}
use Rattle.http_head.specs.declared.framing.Framing.TheVariants.{Bad, TooLong, Body}
use Rattle.http_head.specs.declared.heads.TheConstants.{HEAD_LIMIT}
use Rattle.http_head.specs.Heads.{NeverHasHead, HasManyFields, HasLongHead, IsOpen}
use Rattle.http_head.specs.Lines.{lines_ended}
use Rattle.http_head.proofs.FewLines.{not_many, lines_grow}
use Rattle.http_head.proofs.LineCounts.{many_lines_of}
use Rattle.http_serving.specs.declared.end.End.{End}
use Rattle.http_serving.specs.declared.end.End.TheVariants.{Closed, Asked, Spent, Truncated, BadHead, BadFraming, OriginRefused, HeadTooLong, BodyTooLong, LinkFault, Memory}
use Rattle.http_serving.specs.Reading.{BeginsWith, framing, names_origin, IsRefused, IsLong, AllowsEnd, IsFault}
use Rattle.http_laws.proofs.Telling.{same_head, in_front, some_byte, kind_of, tells_apart}
use Rattle.http_laws.specs.Ends.{Agree, IsInDoubt, EndsAgree}

-- a whole head is there, and its body decides the end
pub data ByBody (h : RequestHead) (rest : List ℕ) : End → Type 0 where
  bad : framing h ≡ Bad → ByBody h rest BadFraming
  refused : IsRefused h → ByBody h rest OriginRefused
  too_long : IsLong h → ByBody h rest BodyTooLong
  short : (n : ℕ) → framing h ≡ Body n → names_origin h ≡ false → length rest < n → ByBody h rest Truncated
  fault : LinkFault ≡ LinkFault → ByBody h rest LinkFault
  out_of_memory : Memory ≡ Memory → ByBody h rest Memory

-- no head is there
data ByHead (bytes : List ℕ) : End → Type 0 where
  nothing : bytes ≡ [] → ByHead bytes Closed
  open_yet : 0 < length bytes → IsOpen bytes → ByHead bytes Truncated
  never : NeverHasHead bytes → ByHead bytes BadHead
  long : HasLongHead bytes → ByHead bytes HeadTooLong

pub by_body : {bytes : List ℕ} {h : RequestHead} {rest : List ℕ} (e : End) → BeginsWith bytes h rest → AllowsEnd bytes e → ByBody h rest e
by_body {bytes} {h} {rest} LinkFault x s = fault refl
by_body {bytes} {h} {rest} Memory x s = out_of_memory refl
by_body {bytes} {h} {rest} Asked x s = absurd s
by_body {bytes} {h} {rest} Spent x s = absurd s
by_body {bytes} {h} {rest} Closed x s = absurd (omega (arith, some_byte x, ap length s))
by_body {bytes} {h} {rest} BadHead x s =
    let after = take (HEAD_LIMIT - length (print_request h)) rest in
    absurd (s.0 [] h after (subst (λ w. ReadsRequest w h after) (sym (append-nil (take HEAD_LIMIT bytes))) (in_front x)))
by_body {bytes} {h} {rest} HeadTooLong x (inl l) = absurd (l.1 h _ (in_front x))
by_body {bytes} {h} {rest} HeadTooLong x (inr m) = absurd (not_many _ (in_front x) x.few (many_lines_of m))
by_body {bytes} {h} {rest} Truncated x (inl o) = absurd (o.1.no_head h rest x.reads)
by_body {bytes} {h} {rest} Truncated x (inr t) =
    let same = same_head x t.begins in
    short t.size (ap framing same.0 ∙ t.framed) (ap names_origin same.0 ∙ t.no_origin) (omega (arith, t.short, ap length same.1))
by_body {bytes} {h} {rest} BadFraming x (k, after, b, f) = bad (ap framing (same_head x b).0 ∙ f)
by_body {bytes} {h} {rest} OriginRefused x (k, after, b, f) = refused (subst IsRefused (sym (same_head x b).0) f)
by_body {bytes} {h} {rest} BodyTooLong x (k, after, b, f) = too_long (subst IsLong (sym (same_head x b).0) f)

bodies_agree : (bytes : List ℕ) {h : RequestHead} {rest : List ℕ} {e f : End} → ByBody h rest e → ByBody h rest f → Agree bytes e f
bodies_agree bytes (fault _) y = inr (inl (inl tt))
bodies_agree bytes (out_of_memory _) y = inr (inl (inl tt))
bodies_agree bytes (bad x) (fault _) = inr (inl (inr tt))
bodies_agree bytes (bad x) (out_of_memory _) = inr (inl (inr tt))
bodies_agree bytes (bad x) (bad y) = inl refl
bodies_agree bytes (bad x) (refused y) = absurd (y.framed x)
bodies_agree bytes (bad x) (too_long y) = absurd (omega (arith, ap kind_of (sym x ∙ y.framed)))
bodies_agree bytes (bad x) (short n y o l) = absurd (omega (arith, ap kind_of (sym x ∙ y)))
bodies_agree bytes (refused x) (fault _) = inr (inl (inr tt))
bodies_agree bytes (refused x) (out_of_memory _) = inr (inl (inr tt))
bodies_agree bytes (refused x) (bad y) = absurd (x.framed y)
bodies_agree bytes (refused x) (refused y) = inl refl
bodies_agree bytes (refused x) (too_long y) = absurd (tells_apart x.origin y.no_origin)
bodies_agree bytes (refused x) (short n y o l) = absurd (tells_apart x.origin o)
bodies_agree bytes (too_long x) (fault _) = inr (inl (inr tt))
bodies_agree bytes (too_long x) (out_of_memory _) = inr (inl (inr tt))
bodies_agree bytes (too_long x) (bad y) = absurd (omega (arith, ap kind_of (sym x.framed ∙ y)))
bodies_agree bytes (too_long x) (refused y) = absurd (tells_apart y.origin x.no_origin)
bodies_agree bytes (too_long x) (too_long y) = inl refl
bodies_agree bytes (too_long x) (short n y o l) = absurd (omega (arith, ap kind_of (sym x.framed ∙ y)))
bodies_agree bytes (short m x o k) (fault _) = inr (inl (inr tt))
bodies_agree bytes (short m x o k) (out_of_memory _) = inr (inl (inr tt))
bodies_agree bytes (short m x o k) (bad y) = absurd (omega (arith, ap kind_of (sym x ∙ y)))
bodies_agree bytes (short m x o k) (refused y) = absurd (tells_apart y.origin o)
bodies_agree bytes (short m x o k) (too_long y) = absurd (omega (arith, ap kind_of (sym x ∙ y.framed)))
bodies_agree bytes (short m x o k) (short n y p l) = inl refl

-- a head, as a witness that a head can come if nothing has
witness : RequestHead
witness = record { blank = []; method = 71 ∷ []; target = 47 ∷ []; minor = 1; line_end = lf; fields = []; last = lf }

is_head : IsRequestHead witness
unfolding witness is_token_byte
is_head = record {
  method = (omega arith, search (rules, All-cons, All-nil));
  target = (omega arith, search (rules, All-cons, All-nil));
  target_text = IsUtf8-from_ascii (47 ∷ []) (search (rules, All-cons, All-nil));
  minor = omega arith;
  fields = search (rules, All-nil);
}

can_come : NeverHasHead [] → ⊥
can_come n = n.0 (print_request witness) witness [] (is_head, sym (append-nil (print_request witness)))

-- a head that may come is not one that never can
open_never : {bytes : List ℕ} → MayBecomeRequest bytes → NeverHasRequest bytes × ¬ EndsInTarget bytes → ⊥
open_never {bytes} (inl (more, h, reads)) n = n.0 more h [] reads
open_never {bytes} (inr t) n = n.1 t

pub short_front : (bytes : List ℕ) → length bytes < HEAD_LIMIT → take HEAD_LIMIT bytes ≡ bytes
short_front bytes less = take_all HEAD_LIMIT bytes (omega (arith, less))

open_long : {bytes : List ℕ} → IsOpen bytes → HasLongHead bytes → ⊥
open_long {bytes} o (inl l) = omega (arith, o.short, l.0)
open_long {bytes} o (inr m) = o.few (subst HasManyFields (short_front bytes o.short) m)

none_long : {bytes : List ℕ} → bytes ≡ [] → HasLongHead bytes → ⊥
none_long {bytes} e (inl l) = omega (arith, ap length e, l.0)
none_long {bytes} e (inr m) =
    let lines = many_lines_of m in
    let none : lines_ended (take HEAD_LIMIT bytes) ≡ 0 = ap (λ w. lines_ended (take HEAD_LIMIT w)) e in
    omega (arith, none, lines.many, lines_grow lines.front lines.rest, ap lines_ended lines.cut)

open_is_not_never : {bytes : List ℕ} → IsOpen bytes → NeverHasHead bytes → ⊥
open_is_not_never {bytes} o n =
    open_never o.may_become (subst (λ w. NeverHasRequest w × ¬ EndsInTarget w) (short_front bytes o.short) n)

doubt_long : (bytes : List ℕ) → HasLongHead bytes → NeverHasHead bytes → IsInDoubt bytes
doubt_long bytes (inl l) n = absurd (open_never l.2 n)
doubt_long bytes (inr m) n = (n, m)

heads_agree : {bytes : List ℕ} {e f : End} → ByHead bytes e → ByHead bytes f → Agree bytes e f
heads_agree (nothing x) (nothing y) = inl refl
heads_agree (nothing x) (open_yet l o) = absurd (omega (arith, l, ap length x))
heads_agree (nothing x) (never n) = absurd (can_come (subst NeverHasHead x n))
heads_agree (nothing x) (long y) = absurd (none_long x y)
heads_agree (open_yet l o) (nothing y) = absurd (omega (arith, l, ap length y))
heads_agree (open_yet l o) (open_yet k p) = inl refl
heads_agree (open_yet l o) (never n) = absurd (open_is_not_never o n)
heads_agree (open_yet l o) (long y) = absurd (open_long o y)
heads_agree (never n) (nothing y) = absurd (can_come (subst NeverHasHead y n))
heads_agree (never n) (open_yet l o) = absurd (open_is_not_never o n)
heads_agree (never n) (never m) = inl refl
heads_agree (never n) (long y) = inr (inr (doubt_long _ y n))
heads_agree (long x) (nothing y) = absurd (none_long y x)
heads_agree (long x) (open_yet l o) = absurd (open_long o x)
heads_agree (long x) (never n) = inr (inr (doubt_long _ x n))
heads_agree (long x) (long y) = inl refl

-- a head is there, or the end is by the lack of one, or is a fault
abbrev HasHead : List ℕ → Type 0
HasHead bytes = (h : RequestHead) × (rest : List ℕ) × BeginsWith bytes h rest

sort : {bytes : List ℕ} (e : End) → AllowsEnd bytes e → HasHead bytes ⊎ (ByHead bytes e ⊎ IsFault e)
sort {bytes} LinkFault s = inr (inr tt)
sort {bytes} Memory s = inr (inr tt)
sort {bytes} Asked s = absurd s
sort {bytes} Spent s = absurd s
sort {bytes} Closed s = inr (inl (nothing s))
sort {bytes} BadHead s = inr (inl (never s))
sort {bytes} HeadTooLong s = inr (inl (long s))
sort {bytes} Truncated (inl o) = inr (inl (open_yet o.0 o.1))
sort {bytes} Truncated (inr t) = inl (t.h, t.rest, t.begins)
sort {bytes} BadFraming (h, rest, b, f) = inl (h, rest, b)
sort {bytes} OriginRefused (h, rest, b, f) = inl (h, rest, b)
sort {bytes} BodyTooLong (h, rest, b, f) = inl (h, rest, b)

by_head_both : {bytes : List ℕ} {e f : End} → HasHead bytes → AllowsEnd bytes e → AllowsEnd bytes f → Agree bytes e f
by_head_both {bytes} {e} {f} (h, rest, b) s r = bodies_agree bytes (by_body e b s) (by_body f b r)

sorted : {bytes : List ℕ} (e f : End) → AllowsEnd bytes e → AllowsEnd bytes f → HasHead bytes ⊎ (ByHead bytes e ⊎ IsFault e) → HasHead bytes ⊎ (ByHead bytes f ⊎ IsFault f) → Agree bytes e f
sorted {bytes} e f s r (inl b) y = by_head_both b s r
sorted {bytes} e f s r (inr x) (inl b) = by_head_both b s r
sorted {bytes} e f s r (inr (inr x)) (inr y) = inr (inl (inl x))
sorted {bytes} e f s r (inr (inl x)) (inr (inr y)) = inr (inl (inr y))
sorted {bytes} e f s r (inr (inl x)) (inr (inl y)) = heads_agree x y

pub ends_agree_all : EndsAgree
ends_agree_all bytes e f s r = sorted e f s r (sort e s) (sort f r)
