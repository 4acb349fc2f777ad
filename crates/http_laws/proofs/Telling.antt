-- The bytes tell the message at their front.
use Rattle.std.proofs.Common.{◌≡◌, ◌-◌, ◌<◌, ℕ, Bool, true, false, zero, suc, List, [], ◌∷◌, ◌++◌, length, take, drop, refl, sym, ap, ◌∙◌, subst, arith, inl, inr}
use Rattle.std.proofs.Math.Seq.{take-append_seam, drop-append_seam}
use Rattle.std.proofs.lemmas.Bool.{false≢true}
use Rattle.std.proofs.lemmas.List.{take_all, append-nil, length-append}
use Rattle.httparse.specs.Grammar.{RequestHead, print_request, ReadsRequest, print_blank, print_version, print_end, print_section}
use Rattle.httparse.proofs.GrammarLemmas.{request_unique, print_request-append}
use Rattle.http_head.specs.declared.framing.Framing.{Framing}
use Rattle.http_head.specs.declared.framing.Framing.TheVariants.{Bad, TooLong, Body}
use Rattle.http_head.specs.declared.heads.TheConstants.{HEAD_LIMIT}
use Rattle.http_head.proofs.FewLines.{not_many}
use Rattle.http_head.proofs.LineCounts.{many_lines_of}
use Rattle.http_laws.specs.Messages.{OneMessage, OnlyFaultsBeforeMessage, MessagesAreAnswered}
use Rattle.http_serving.specs.declared.end.End.TheVariants.{Closed, Asked, Spent, Truncated, BadHead, BadFraming, OriginRefused, HeadTooLong, BodyTooLong, LinkFault, Memory}
use Rattle.http_serving.specs.Reading.{BeginsWith, framing, names_origin}

pub same_head : {bytes : List ℕ} {h k : RequestHead} {r q : List ℕ} → BeginsWith bytes h r → BeginsWith bytes k q → (h ≡ k) × (r ≡ q)
same_head {bytes} {h} {k} {r} {q} x y = request_unique bytes h k r q x.reads y.reads

abbrev size_in : Framing → ℕ
size_in Bad = 0
size_in TooLong = 0
size_in (Body n) = n

-- a number for each kind of framing
abbrev pub kind_of : Framing → ℕ
kind_of Bad = 0
kind_of TooLong = 1
kind_of (Body n) = 2

-- a test does not both pass and fail
pub tells_apart : {b : Bool} → b ≡ true → b ≡ false → ⊥
tells_apart {b} holds fails = false≢true (sym fails ∙ holds)

same_parts : (a b x y : List ℕ) → a ++ x ≡ b ++ y → length a ≡ length b → (a ≡ b) × (x ≡ y)
same_parts a b x y e n = (
  sym (take-append_seam a x) ∙ ap (take (length a)) e ∙ ap (λ k. take k (b ++ y)) n ∙ take-append_seam b y,
  sym (drop-append_seam a x) ∙ ap (drop (length a)) e ∙ ap (λ k. drop k (b ++ y)) n ∙ drop-append_seam b y,
)

pub one_message : OneMessage
one_message bytes h k body content rest tail x y =
    let same = same_head x.begins y.begins in
    let sizes : length body ≡ length content = ap size_in (sym x.framed ∙ ap framing same.0 ∙ y.framed) in
    let parts = same_parts body content rest tail same.1 sizes in
    (same.0, parts.0, parts.1)

take_on : (n : ℕ) (front tail : List ℕ) → take n (front ++ tail) ≡ take n front ++ take (n - length front) tail
take_on zero [] tail = refl
take_on (suc k) [] tail = let same : suc k ≡ suc k - 0 = omega arith in ap (λ m. take m tail) same
take_on zero (x ∷ front) tail = let none : 0 ≡ 0 - length (x ∷ front) = omega arith in ap (λ m. take m tail) none
take_on (suc k) (x ∷ front) tail =
    ap (λ w. x ∷ w) (take_on k front tail ∙ ap (λ m. take k front ++ take m tail) (omega arith))

-- the head is in the bytes that are looked at
pub in_front : {bytes : List ℕ} {h : RequestHead} {rest : List ℕ} → BeginsWith bytes h rest → ReadsRequest (take HEAD_LIMIT bytes) h (take (HEAD_LIMIT - length (print_request h)) rest)
in_front {bytes} {h} {rest} x = (
  x.reads.0,
  ap (take HEAD_LIMIT) x.reads.1 ∙ take_on HEAD_LIMIT (print_request h) rest ∙ ap (λ w. w ++ take (HEAD_LIMIT - length (print_request h)) rest) (take_all HEAD_LIMIT (print_request h) x.short),
)

pub some_byte : {bytes : List ℕ} {h : RequestHead} {rest : List ℕ} → BeginsWith bytes h rest → 0 < length bytes
some_byte {bytes} {h} {rest} x =
    omega (
      arith,
      ap length (x.reads.1 ∙ print_request-append h rest),
      length-append (print_blank h.blank) (h.method ++ 32 ∷ (h.target ++ 32 ∷ (print_version h.minor ++ (print_end h.line_end ++ (print_section h.fields h.last ++ rest))))),
      length-append h.method (32 ∷ (h.target ++ 32 ∷ (print_version h.minor ++ (print_end h.line_end ++ (print_section h.fields h.last ++ rest))))),
      x.reads.0.method.0,
    )

other_framing : {bytes : List ℕ} {h k : RequestHead} {r q : List ℕ} (f : Framing) (n : ℕ) → BeginsWith bytes h r → framing h ≡ Body n → BeginsWith bytes k q → framing k ≡ f → kind_of f ≡ 2
other_framing {bytes} {h} {k} {r} {q} f n x e y d = sym (ap kind_of (sym e ∙ ap framing (same_head x y).0 ∙ d))

pub only_faults : OnlyFaultsBeforeMessage
only_faults bytes h body rest LinkFault x e = tt
only_faults bytes h body rest Memory x e = tt
only_faults bytes h body rest Asked x e = absurd e
only_faults bytes h body rest Spent x e = absurd e
only_faults bytes h body rest Closed x e = absurd (omega (arith, some_byte x.begins, ap length e))
only_faults bytes h body rest BadHead x e =
    let after = take (HEAD_LIMIT - length (print_request h)) (body ++ rest) in
    absurd (e.0 [] h after (subst (λ w. ReadsRequest w h after) (sym (append-nil (take HEAD_LIMIT bytes))) (in_front x.begins)))
only_faults bytes h body rest HeadTooLong x (inl long) = absurd (long.1 h _ (in_front x.begins))
only_faults bytes h body rest HeadTooLong x (inr many) = absurd (not_many _ (in_front x.begins) x.begins.few (many_lines_of many))
only_faults bytes h body rest Truncated x (inl o) = absurd (o.1.no_head h _ x.begins.reads)
only_faults bytes h body rest Truncated x (inr t) =
    let same = same_head x.begins t.begins in
    let size : length body ≡ t.size = ap size_in (sym x.framed ∙ ap framing same.0 ∙ t.framed) in
    absurd (omega (arith, size, t.short, ap length same.1, length-append body rest))
only_faults bytes h body rest BadFraming x (k, after, b, f) =
    let two : ◌≡◌ {A = ℕ} 0 2 = other_framing Bad (length body) x.begins x.framed b f in absurd (omega (arith, two))
only_faults bytes h body rest OriginRefused x (k, after, b, f) =
    absurd (tells_apart f.origin (sym (ap names_origin (same_head x.begins b).0) ∙ x.no_origin))
only_faults bytes h body rest BodyTooLong x (k, after, b, f) =
    let two : ◌≡◌ {A = ℕ} 1 2 = other_framing TooLong (length body) x.begins x.framed b f.framed in absurd (omega (arith, two))

pub answered : (S : Type 0) → MessagesAreAnswered S
answered S p LinkFault h body rest e x = inl tt
answered S p Memory h body rest e x = inl tt
answered S p Asked h body rest e x = inr (inl e)
answered S p Spent h body rest e x = inr (inr e.1)
answered S p Closed h body rest e x = inl (only_faults p.left h body rest Closed x e.2)
answered S p Truncated h body rest e x = inl (only_faults p.left h body rest Truncated x e.2)
answered S p BadHead h body rest e x = inl (only_faults p.left h body rest BadHead x e.2)
answered S p BadFraming h body rest e x = inl (only_faults p.left h body rest BadFraming x e.2)
answered S p OriginRefused h body rest e x = inl (only_faults p.left h body rest OriginRefused x e.2)
answered S p HeadTooLong h body rest e x = inl (only_faults p.left h body rest HeadTooLong x e.2)
answered S p BodyTooLong h body rest e x = inl (only_faults p.left h body rest BodyTooLong x e.2)
