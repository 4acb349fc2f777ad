-- What is at the front of bytes: a head, the beginning of one, or neither (RFC 9112, section 2, as the kit's `httparse` states it).
use Rattle.std.specs.Prelude.{◌≡◌, ℕ, ◌<◌, ◌≤◌, ◌+◌, ◌⊎◌, List, length, take, drop, ◌++◌, ⊤}
use Rattle.httparse.specs.Grammar.{RequestHead, print_request, ReadsRequest, HasNoRequest, NeverHasRequest, MayBecomeRequest, EndsInTarget}
use Rattle.httparse.specs.Spans.{span_bytes, IsWithin, RequestExceeds}
use Rattle.http_head.specs.declared.heads.TheConstants.{HEAD_LIMIT, FIELD_LIMIT}
use Rattle.http_head.specs.declared.heads.Head.{Head}
use Rattle.http_head.specs.declared.heads.Parsed.{Parsed}
use Rattle.http_head.specs.declared.heads.Parsed.TheVariants.{Whole, Partial, TooMany, Invalid}
use Rattle.http_head.specs.declared.heads.HeadRead.{HeadRead}
use Rattle.http_head.specs.declared.heads.HeadRead.TheVariants.{Found, More, Bad, TooLong}
use Rattle.http_head.specs.Fields.{fields_of, has_origin}
use Rattle.http_head.specs.Framing.{framing_of, is_last}

-- the head of the grammar at the front of the bytes, and what is kept of it
pub record IsHeadAt (bytes : List ℕ) (head : Head) (h : RequestHead) : Type 0 where
  pub reads : ReadsRequest bytes h (drop head.len bytes)
  pub len : head.len ≡ length (print_request h)
  pub within : head.len ≤ length bytes
  pub few : length h.fields ≤ FIELD_LIMIT
  pub method_within : IsWithin head.len head.method
  pub target_within : IsWithin head.len head.target
  pub method : span_bytes bytes head.method ≡ h.method
  pub target : span_bytes bytes head.target ≡ h.target
  pub framing : head.framing ≡ framing_of h.minor (fields_of h)
  pub last : head.is_last ≡ is_last h.minor (fields_of h)
  pub origin : head.has_origin ≡ has_origin (fields_of h)

-- there is a head of the grammar of which this is kept
abbrev pub IsHead : List ℕ → Head → Type 0
IsHead bytes head = (h : RequestHead) × IsHeadAt bytes head h

-- more fields than the limit have come: a prefix of the bytes, and then an empty line, are a head that has more
abbrev pub HasManyFields : List ℕ → Type 0
HasManyFields bytes = RequestExceeds FIELD_LIMIT bytes

-- what the kit's parser answered; it does not say of an invalid head whether the bytes end inside a target
abbrev pub IsAnswer : List ℕ → Parsed → Type 0
IsAnswer bytes (Whole head) = IsHead bytes head
IsAnswer bytes Partial = HasNoRequest bytes × MayBecomeRequest bytes
IsAnswer bytes TooMany = HasManyFields bytes
IsAnswer bytes Invalid = NeverHasRequest bytes

-- what was parsed: bytes that end inside a target are the beginning of a head, whatever the target is
abbrev pub IsParsed : List ℕ → Parsed → Type 0
IsParsed bytes (Whole head) = IsHead bytes head
IsParsed bytes Partial = HasNoRequest bytes × MayBecomeRequest bytes
IsParsed bytes TooMany = HasManyFields bytes
IsParsed bytes Invalid = NeverHasRequest bytes × ¬ EndsInTarget bytes

-- no bytes can follow that make a head within the limit of bytes, and those that are looked at do not end inside a target
abbrev pub NeverHasHead : List ℕ → Type 0
NeverHasHead bytes = NeverHasRequest (take HEAD_LIMIT bytes) × ¬ EndsInTarget (take HEAD_LIMIT bytes)

-- the first bytes, as many as the limit, hold no head though they could become one, or more fields than their limit have come
abbrev pub HasLongHead : List ℕ → Type 0
HasLongHead bytes =
    ((HEAD_LIMIT ≤ length bytes) × HasNoRequest (take HEAD_LIMIT bytes) × MayBecomeRequest (take HEAD_LIMIT bytes))
    ⊎ HasManyFields (take HEAD_LIMIT bytes)

-- a head may still come
pub record IsOpen (bytes : List ℕ) : Type 0 where
  pub short : length bytes < HEAD_LIMIT
  pub no_head : HasNoRequest bytes
  pub may_become : MayBecomeRequest bytes
  pub few : ¬ HasManyFields bytes

-- what is at the front of bytes, as far as they have come
abbrev pub IsHeadRead : List ℕ → HeadRead → Type 0
IsHeadRead bytes (Found head) = IsHead bytes head × (head.len ≤ HEAD_LIMIT)
IsHeadRead bytes More = IsOpen bytes
IsHeadRead bytes Bad = NeverHasHead bytes
IsHeadRead bytes TooLong = HasLongHead bytes

-- what was read of some bytes stands whatever follows them, unless a head may still come
abbrev pub StaysRead : List ℕ → HeadRead → Type 0
StaysRead bytes (Found head) = (more : List ℕ) → IsHeadRead (bytes ++ more) (Found head)
StaysRead bytes More = ⊤
StaysRead bytes Bad = (more : List ℕ) → IsHeadRead (bytes ++ more) Bad
StaysRead bytes TooLong = (more : List ℕ) → IsHeadRead (bytes ++ more) TooLong
