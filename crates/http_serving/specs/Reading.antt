-- What is at the front of the bytes of a connection, and which ends they allow.
use Rattle.std.specs.Prelude.{◌≡◌, ◌≢◌, ℕ, ◌+◌, ◌<◌, ◌≤◌, ◌⊎◌, List, [], ◌++◌, length, Option, Some, None, ⊤, Bool, true, false, IsTrue, IsFalse}
use Rattle.std.specs.Io.KnownBytes.{Consumes, IsAtEnd}
use Rattle.std.specs.List.{list_any}
use Rattle.httparse.specs.Grammar.{RequestHead, print_request, ReadsRequest}
use Rattle.http_link.specs.declared.room.TheConstants.{FILL_BYTES}
use Rattle.http_head.specs.declared.framing.Framing.{Framing}
use Rattle.http_head.specs.declared.framing.Framing.TheVariants.{Bad, TooLong, Body}
use Rattle.http_head.specs.declared.heads.Head.{Head}
use Rattle.http_head.specs.declared.heads.TheConstants.{HEAD_LIMIT, FIELD_LIMIT}
use Rattle.http_head.specs.Fields.{fields_of, has_origin}
use Rattle.http_head.specs.Framing.{framing_of}
use Rattle.http_head.specs.Lines.{is_line_feed}
use Rattle.http_head.specs.Heads.{IsHeadAt, IsHead, NeverHasHead, HasLongHead, IsOpen}
use Rattle.http_serving.specs.declared.end.End.{End}
use Rattle.http_serving.specs.declared.end.End.TheVariants.{Closed, Asked, Spent, Truncated, BadHead, BadFraming, OriginRefused, HeadTooLong, BodyTooLong, LinkFault, Memory}
use Rattle.http_serving.specs.declared.messages.Message.{Message}

-- the bytes begin with a head within the limits, and this follows it
pub record BeginsWith (bytes : List ℕ) (h : RequestHead) (rest : List ℕ) : Type 0 where
  pub reads : ReadsRequest bytes h rest
  pub short : length (print_request h) ≤ HEAD_LIMIT
  pub few : length h.fields ≤ FIELD_LIMIT

-- the framing of the body of a head's message
abbrev pub framing : RequestHead → Framing
framing h = framing_of h.minor (fields_of h)

-- whether a head has a field `Origin`
abbrev pub names_origin : RequestHead → Bool
names_origin h = has_origin (fields_of h)

-- the end at a head with `Origin`, by the framing of its body: faulty fields go first
abbrev pub end_of_origin : Framing → End
end_of_origin Bad = BadFraming
end_of_origin TooLong = OriginRefused
end_of_origin (Body n) = OriginRefused

-- the bytes begin with a message: its head, which has no `Origin`, its body, and this follows them
pub record HasMessage (bytes : List ℕ) (h : RequestHead) (body rest : List ℕ) : Type 0 where
  pub begins : BeginsWith bytes h (body ++ rest)
  pub framed : framing h ≡ Body (length body)
  pub no_origin : names_origin h ≡ false

-- the bytes begin with a head of which this holds
abbrev pub HasHeadWith : (RequestHead → Type 0) → List ℕ → Type 0
HasHeadWith P bytes = (h : RequestHead) × (rest : List ℕ) × BeginsWith bytes h rest × P h

-- the head has a field `Origin`, and a body that can be framed
pub record IsRefused (h : RequestHead) : Type 0 where
  pub origin : names_origin h ≡ true
  pub framed : framing h ≢ Bad

-- the head has no `Origin`, and a body that is too long
pub record IsLong (h : RequestHead) : Type 0 where
  pub no_origin : names_origin h ≡ false
  pub framed : framing h ≡ TooLong

-- the bytes end inside the body of a head without `Origin`
pub record EndsInBody (bytes : List ℕ) : Type 0 where
  pub h : RequestHead
  pub rest : List ℕ
  pub begins : BeginsWith bytes h rest
  pub no_origin : names_origin h ≡ false
  pub size : ℕ
  pub framed : framing h ≡ Body size
  pub short : length rest < size

-- the bytes end inside a head, or inside a body
abbrev pub EndsInside : List ℕ → Type 0
EndsInside bytes = ((0 < length bytes) × IsOpen bytes) ⊎ EndsInBody bytes

-- a connection whose messages so far leave these bytes, and no more, may end so before a further message
abbrev pub AllowsEnd : List ℕ → End → Type 0
AllowsEnd bytes Closed = bytes ≡ []
AllowsEnd bytes Truncated = EndsInside bytes
AllowsEnd bytes BadHead = NeverHasHead bytes
AllowsEnd bytes HeadTooLong = HasLongHead bytes
AllowsEnd bytes BadFraming = HasHeadWith (λ h. framing h ≡ Bad) bytes
AllowsEnd bytes OriginRefused = HasHeadWith IsRefused bytes
AllowsEnd bytes BodyTooLong = HasHeadWith IsLong bytes
AllowsEnd bytes LinkFault = ⊤
AllowsEnd bytes Memory = ⊤
AllowsEnd bytes Asked = ⊥
AllowsEnd bytes Spent = ⊥

-- the ends that may come whatever the bytes are
abbrev pub IsFault : End → Type 0
IsFault LinkFault = ⊤
IsFault Memory = ⊤
IsFault end = ⊥

-- the bytes that a link has left; a link whose bytes contracts cannot see may be taken to have none
abbrev pub unread : Option (List ℕ) → List ℕ
unread None = []
unread (Some bytes) = bytes

-- the buffer grew by bytes that the link gave
pub record Grows (left now : Option (List ℕ)) (old new : List ℕ) : Type 0 where
  pub piece : List ℕ
  pub buffer : new ≡ old ++ piece
  pub given : Consumes left now piece

-- the buffer grew, by some bytes at least, or else the link's bytes have ended
pub record FillsLine (left now : Option (List ℕ)) (old new : List ℕ) (more : Bool) : Type 0 where
  pub grows : Grows left now old new
  pub some : IsTrue more → length old < length new
  pub none : IsFalse more → IsAtEnd now

-- the buffer grew, and no line ended in what came before its last piece, which is no longer than one read may give
pub record GrowsByLine (old new : List ℕ) : Type 0 where
  pub front : List ℕ
  pub last : List ℕ
  pub cut : new ≡ (old ++ front) ++ last
  pub no_line : list_any is_line_feed front ≡ false
  pub few : length last ≤ FILL_BYTES

-- the link gave bytes, and those of the buffer with these and with what is left allow this end
pub record Stops (left now : Option (List ℕ)) (old : List ℕ) (end : End) : Type 0 where
  pub piece : List ℕ
  pub given : Consumes left now piece
  pub allows : AllowsEnd ((old ++ piece) ++ unread now) end

-- the buffer grew, and begins with this head, whatever follows
pub record FoundHead (left now : Option (List ℕ)) (old new : List ℕ) (head : Head) : Type 0 where
  pub grows : Grows left now old new
  pub is_head : (more : List ℕ) → IsHead (new ++ more) head
  pub short : head.len ≤ HEAD_LIMIT

-- the bytes begin with this message, whose head is h
pub record IsMessage (bytes : List ℕ) (m : Message) (h : RequestHead) : Type 0 where
  pub head : IsHeadAt bytes m.head h
  pub short : m.head.len ≤ HEAD_LIMIT
  pub ordered : m.head.len ≤ m.len
  pub whole : m.len ≤ length bytes
  pub no_origin : names_origin h ≡ false
  pub size : ℕ
  pub framed : framing h ≡ Body size
  pub len : m.len ≡ m.head.len + size

-- the buffer grew, and begins with this message
pub record FoundMessage (left now : Option (List ℕ)) (old new : List ℕ) (m : Message) : Type 0 where
  pub grows : Grows left now old new
  pub h : RequestHead
  pub is_message : IsMessage new m h
