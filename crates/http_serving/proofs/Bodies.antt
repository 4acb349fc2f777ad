-- A message at the front of a buffer, by its head.
use Rattle.std.proofs.Common.{◌≡◌, ◌≢◌, ◌+◌, ◌<◌, ◌≤◌, ℕ, true, false, cond, List, [], ◌++◌, length, drop, Option, None, Some, append_assoc, refl, sym, ap, ◌∙◌, subst, arith, inl, inr, length-drop, Result, Ok, Err, MatchResult}
use Rattle.std.proofs.lemmas.Bool.Decides.{leb_tells}
use Rattle.httparse.specs.Grammar.{RequestHead}
use Rattle.http_head.specs.declared.framing.Framing.{Framing}
use Rattle.http_head.specs.declared.framing.Framing.TheVariants.{Bad, TooLong, Body}
use Rattle.http_head.specs.declared.framing.TheConstants.{BODY_LIMIT}
use Rattle.http_head.specs.declared.heads.Head.{Head}
use Rattle.http_head.specs.declared.heads.TheConstants.{HEAD_LIMIT}
use Rattle.http_head.specs.Fields.{fields_of}
use Rattle.http_head.specs.Framing.{framing_of, framing_of_length, has_bad_fields, stated_length}
use Rattle.http_head.specs.Heads.{IsHead, IsHeadAt}
use Rattle.http_serving.specs.declared.end.End.{End}
use Rattle.http_serving.specs.declared.end.End.TheVariants.{BadFraming, OriginRefused, BodyTooLong}
use Rattle.http_serving.specs.declared.messages.Message.{Message}
use Rattle.http_serving.specs.Reading.{Grows, Stops, AllowsEnd, BeginsWith, HasHeadWith, IsRefused, IsLong, names_origin, end_of_origin, framing, EndsInside, FoundHead, FoundMessage, unread}
use Rattle.http_serving.proofs.Buffers.{consumes_more, grows_more, stops_here}

-- the bytes begin with this head, whatever follows
abbrev pub StaysHead : List ℕ → Head → Type 0
StaysHead bytes head = (more : List ℕ) → IsHead (bytes ++ more) head

pub head_grows : {a b : Option (List ℕ)} {old new : List ℕ} {head : Head} → Grows a b old new → StaysHead old head → IsHead new head
head_grows {a} {b} {old} {new} {head} g stays = subst (λ w. IsHead w head) (sym g.buffer) (stays g.piece)

-- the head of the grammar, and what follows it
pub begins : {bytes : List ℕ} {head : Head} {h : RequestHead} → IsHeadAt bytes head h → head.len ≤ HEAD_LIMIT → BeginsWith bytes h (drop head.len bytes)
begins {bytes} {head} {h} at short = record { reads = at.reads; short = omega (arith, at.len, short); few = at.few }

pub ends_in_body : {bytes : List ℕ} {head : Head} (size : ℕ) → IsHead bytes head → head.len ≤ HEAD_LIMIT → head.framing ≡ Body size → head.has_origin ≡ false → length bytes < head.len + size → EndsInside bytes
ends_in_body {bytes} {head} size (h, at) short framed no_origin less = inr (record {
  h = h;
  rest = drop head.len bytes;
  begins = begins at short;
  no_origin = sym at.origin ∙ no_origin;
  size = size;
  framed = sym at.framing ∙ framed;
  short = omega (arith, at.within, less, length-drop head.len bytes);
})

pub found_here : {a b : Option (List ℕ)} {old new : List ℕ} {head : Head} (size : ℕ) → Grows a b old new → StaysHead old head → head.len ≤ HEAD_LIMIT → head.framing ≡ Body size → head.has_origin ≡ false → head.len + size ≤ length new → FoundMessage a b old new (record { head = head; len = head.len + size })
found_here {a} {b} {old} {new} {head} size g stays short framed no_origin whole =
    let found = head_grows g stays in
    record {
      grows = g;
      h = found.0;
      is_message = record {
        head = found.1;
        short = short;
        ordered = omega arith;
        whole = whole;
        no_origin = sym found.1.origin ∙ no_origin;
        size = size;
        framed = sym found.1.framing ∙ framed;
        len = refl;
      };
    }

-- what the head of the grammar has by what is kept of it, the bytes have
head_with : (P : RequestHead → Type 0) (bytes : List ℕ) {head : Head} (tail : List ℕ) → StaysHead bytes head → head.len ≤ HEAD_LIMIT → ((h : RequestHead) → head.framing ≡ framing h → head.has_origin ≡ names_origin h → P h) → HasHeadWith P (bytes ++ tail)
head_with P bytes {head} tail stays short has =
    let on = stays tail in
    (on.0, drop head.len (bytes ++ tail), begins on.1 short, has on.0 on.1.framing on.1.origin)

pub stops_framing : {a b : Option (List ℕ)} {old new : List ℕ} {head : Head} → FoundHead a b old new head → head.framing ≡ Bad → Stops a b old BadFraming
stops_framing {a} {b} {old} {new} {head} f e =
    stops_here BadFraming f.grows (head_with (λ h. framing h ≡ Bad) new (unread b) f.is_head f.short (λ h same origin. sym same ∙ e))

stops_refused : {a b : Option (List ℕ)} {old new : List ℕ} {head : Head} → FoundHead a b old new head → head.has_origin ≡ true → head.framing ≢ Bad → Stops a b old OriginRefused
stops_refused {a} {b} {old} {new} {head} f has e =
    stops_here OriginRefused f.grows (head_with IsRefused new (unread b) f.is_head f.short (λ h same origin. record { origin = sym origin ∙ has; framed = λ bad. e (same ∙ bad) }))

-- a number for each kind of framing
kind_of : Framing → ℕ
kind_of Bad = 0
kind_of TooLong = 1
kind_of (Body n) = 2

stops_by : {a b : Option (List ℕ)} {old new : List ℕ} {head : Head} (body : Framing) → FoundHead a b old new head → head.has_origin ≡ true → head.framing ≡ body → Stops a b old (end_of_origin body)
unfolding kind_of
stops_by Bad f has e = stops_framing f e
stops_by TooLong f has e = stops_refused f has (λ bad. omega (arith, ap kind_of (sym e ∙ bad)))
stops_by (Body n) f has e = stops_refused f has (λ bad. omega (arith, ap kind_of (sym e ∙ bad)))

pub stops_origin : {a b : Option (List ℕ)} {old new : List ℕ} {head : Head} {end : End} → FoundHead a b old new head → head.has_origin ≡ true → end ≡ end_of_origin head.framing → Stops a b old end
stops_origin {a} {b} {old} {new} {head} {end} f has same = subst (λ e. Stops a b old e) (sym same) (stops_by head.framing f has refl)

pub stops_long_body : {a b : Option (List ℕ)} {old new : List ℕ} {head : Head} → FoundHead a b old new head → head.framing ≡ TooLong → head.has_origin ≡ false → Stops a b old BodyTooLong
stops_long_body {a} {b} {old} {new} {head} f e none =
    stops_here BodyTooLong f.grows (head_with IsLong new (unread b) f.is_head f.short (λ h same origin. record { no_origin = sym origin ∙ none; framed = sym same ∙ e }))

stops_more : {a b c : Option (List ℕ)} {old mid : List ℕ} {e : End} → Grows a b old mid → Stops b c mid e → Stops a c old e
stops_more {a} {b} {c} {old} {mid} {e} g s = record {
  piece = g.piece ++ s.piece;
  given = consumes_more a b c g.piece s.piece g.given s.given;
  allows = subst (λ w. AllowsEnd (w ++ unread c) e) (ap (λ w. w ++ s.piece) g.buffer ∙ append_assoc old g.piece s.piece) s.allows;
}

found_more : {a b c : Option (List ℕ)} {old mid new : List ℕ} {m : Message} → Grows a b old mid → FoundMessage b c mid new m → FoundMessage a c old new m
found_more g f = record { grows = grows_more g f.grows; h = f.h; is_message = f.is_message }

-- a body that is read is within its limit
size_of : Framing → ℕ
size_of Bad = 0
size_of TooLong = 0
size_of (Body n) = n

size_small : (n : ℕ) → size_of (framing_of_length (Some n)) ≤ BODY_LIMIT
unfolding size_of
size_small n = elim (leb_tells n BODY_LIMIT) [
  | inl h ↦ subst (λ v. size_of (cond v (Body n) TooLong) ≤ BODY_LIMIT) (sym h.0) h.1
  | inr h ↦ subst (λ v. size_of (cond v (Body n) TooLong) ≤ BODY_LIMIT) (sym h.0) (omega arith)
]

length_small : (stated : Option ℕ) → size_of (framing_of_length stated) ≤ BODY_LIMIT
unfolding size_of
length_small None = omega arith
length_small (Some n) = size_small n

framing_small : (minor : ℕ) (fields : List (List ℕ × List ℕ)) → size_of (framing_of minor fields) ≤ BODY_LIMIT
unfolding size_of
framing_small minor fields = elim (has_bad_fields minor fields) as (λ v. size_of (cond v Bad (framing_of_length (stated_length fields))) ≤ BODY_LIMIT) [
  | true ↦ omega arith
  | false ↦ length_small (stated_length fields)
]

pub body_small : (bytes : List ℕ) {head : Head} (size : ℕ) → StaysHead bytes head → head.framing ≡ Body size → size ≤ BODY_LIMIT
unfolding size_of
body_small bytes {head} size stays e =
    let found = stays [] in
    let same : size_of (framing found.0) ≡ size = ap size_of (sym found.1.framing ∙ e) in
    omega (arith, same, framing_small found.0.minor (fields_of found.0))

pub result_more : {a b : Option (List ℕ)} {old mid : List ℕ} (c : Option (List ℕ)) (new : List ℕ) (r : Result Message End) → Grows a b old mid → MatchResult r (FoundMessage b c mid new) (Stops b c mid) → MatchResult r (FoundMessage a c old new) (Stops a c old)
result_more c new (Ok m) g f = found_more g f
result_more c new (Err e) g s = stops_more g s
