-- A connection: requests one after the other, each with its response, and an end. It is a relation between all the bytes that the
-- link had, the exchanges, the bytes that were written, and the end; how the bytes came is no part of it, but that nothing is read
-- after the last message of a connection that ends at it.
use Rattle.std.specs.Prelude.{◌≡◌, ℕ, ◌+◌, ◌<◌, ◌⊎◌, Bool, true, false, List, [], ◌∷◌, ◌++◌, length, Option, Some, None, ⊤}
use Rattle.std.specs.List.{flat_map}
use Rattle.std.specs.Str.{bytes_eq}
use Rattle.httparse.specs.Grammar.{RequestHead}
use Rattle.byte_streams.specs.Content.{Gains}
use Rattle.http_link.specs.declared.room.TheConstants.{FILL_BYTES}
use Rattle.http_link.specs.Writing.{GainsPart}
use Rattle.http_head.specs.Fields.{fields_of}
use Rattle.http_head.specs.Framing.{is_last}
use Rattle.http_serving.specs.declared.connection.TheConstants.{MESSAGE_LIMIT}
use Rattle.http_serving.specs.declared.end.End.{End}
use Rattle.http_serving.specs.declared.end.End.TheVariants.{Closed, Asked, Spent, Truncated, LinkFault, Memory}
use Rattle.http_serving.specs.declared.response.Response.{Response}
use Rattle.http_serving.specs.Services.{Request}
use Rattle.http_serving.specs.Responses.{head_text, text_of, end_text}
use Rattle.http_serving.specs.Reading.{HasMessage, AllowsEnd, unread}

-- where a connection is: whether its last request asked that it end, how many requests were answered, the service, and the
-- bytes that are left
pub record Position (S : Type 0) : Type 0 where
  pub asked : Bool
  pub answered : ℕ
  pub service : S
  pub left : List ℕ

-- a request and its response
pub record Exchange : Type 0 where
  pub head : RequestHead
  pub body : List ℕ
  pub response : Response

-- the request, as the service sees it
abbrev pub request_of : Exchange → Request
request_of x = record { method = x.head.method; target = x.head.target; body = x.body }

-- from one position a request is answered, and the next position follows
pub record IsExchange {S : Type 0} (answers : S → Request → Response → S → Type 0) (p : Position S) (x : Exchange) (q : Position S) : Type 0 where
  pub not_asked : p.asked ≡ false
  pub more : p.answered < MESSAGE_LIMIT
  pub message : HasMessage p.left x.head x.body q.left
  pub answer : answers p.service (request_of x) x.response q.service
  pub asked : q.asked ≡ is_last x.head.minor (fields_of x.head)
  pub answered : q.answered ≡ p.answered + 1

-- one exchange after the other
abbrev pub Exchanges : {S : Type 0} → (S → Request → Response → S → Type 0) → Position S → List Exchange → Position S → Type 0
Exchanges answers p [] q = q ≡ p
Exchanges answers p (x ∷ xs) q = (m : Position _) × IsExchange answers p x m × Exchanges answers m xs q

-- what is written of an exchange, and of several
abbrev pub exchange_text : Exchange → List ℕ
exchange_text x = text_of (bytes_eq x.head.method head_text) x.response

abbrev pub exchanges_text : List Exchange → List ℕ
exchanges_text exchanges = flat_map exchange_text exchanges

-- what is written at an end
abbrev pub last_text : End → List ℕ
last_text Closed = []
last_text Asked = []
last_text Spent = []
last_text Truncated = []
last_text LinkFault = []
last_text Memory = []
last_text end = end_text end

-- a connection may end so at this position; a fault, as all ends but Asked and Spent, comes only while a further request may come
abbrev pub EndsAt : {S : Type 0} → Position S → End → Type 0
EndsAt p Asked = p.asked ≡ true
EndsAt p Spent = (p.asked ≡ false) × (p.answered ≡ MESSAGE_LIMIT)
EndsAt p end = (p.asked ≡ false) × (p.answered < MESSAGE_LIMIT) × AllowsEnd p.left end

-- these are the link's bytes, if contracts can see them
abbrev pub AreTold : Option (List ℕ) → List ℕ → Type 0
AreTold None bytes = ⊤
AreTold (Some told) bytes = told ≡ bytes

-- what was written of the answer before an end, if a fault came in its place: not all of it; a fault itself has no answer
abbrev pub AnswerCut : End → Option (List ℕ) → Option (List ℕ) → Type 0
AnswerCut LinkFault before now = Gains before now []
AnswerCut Memory before now = Gains before now []
AnswerCut end before now = GainsPart before now (last_text end)

-- this end was to come, and came after its answer, or a fault cut that answer short
abbrev pub IsClosed : End → End → Option (List ℕ) → Option (List ℕ) → Type 0
IsClosed planned LinkFault before now = AnswerCut planned before now
IsClosed planned Memory before now = AnswerCut planned before now
IsClosed planned end before now = (planned ≡ end) × Gains before now (last_text end)

-- an end that is no fault: all responses were written, and its answer
pub record EndsWhole {S : Type 0} (p : Position S) (exchanges : List Exchange) (before now : Option (List ℕ)) (end : End) : Type 0 where
  pub ends : EndsAt p end
  pub written : Gains before now (exchanges_text exchanges ++ last_text end)

-- a fault came while a further request might come: all responses were written, and not all of the answer before the end that was to
-- come, which may be the fault
pub record BreaksBefore {S : Type 0} (p : Position S) (exchanges : List Exchange) (before now : Option (List ℕ)) : Type 0 where
  pub planned : End
  pub not_asked : p.asked ≡ false
  pub more : p.answered < MESSAGE_LIMIT
  pub allows : AllowsEnd p.left planned
  pub middle : Option (List ℕ)
  pub responses : Gains before middle (exchanges_text exchanges)
  pub answer : AnswerCut planned middle now

-- a fault cut the last response short: those before it were written whole, and of its own text not all
pub record BreaksWithin (exchanges : List Exchange) (before now : Option (List ℕ)) : Type 0 where
  pub earlier : List Exchange
  pub last : Exchange
  pub cut : exchanges ≡ earlier ++ last ∷ []
  pub middle : Option (List ℕ)
  pub responses : Gains before middle (exchanges_text earlier)
  pub response : GainsPart middle now (exchange_text last)

-- how a connection ended after these exchanges, which led to this position, and what was written
abbrev pub Ended : {S : Type 0} → Position S → List Exchange → Option (List ℕ) → Option (List ℕ) → End → Type 0
Ended p exchanges before now LinkFault = BreaksBefore p exchanges before now ⊎ BreaksWithin exchanges before now
Ended p exchanges before now Memory = BreaksBefore p exchanges before now ⊎ BreaksWithin exchanges before now
Ended p exchanges before now end = EndsWhole p exchanges before now end

-- the link has these bytes left, but for fewer than one read may give, as where the last read came before the message in front of
-- them was whole
pub record IsReadPast (bytes : List ℕ) (rest : Option (List ℕ)) : Type 0 where
  pub past : List ℕ
  pub few : length past < FILL_BYTES
  pub cut : bytes ≡ past ++ unread rest

-- what was read past the last message, where a connection ends at it: these bytes follow it, and the link has this left
abbrev pub ReadsNoMore : List ℕ → Option (List ℕ) → End → Type 0
ReadsNoMore bytes rest Asked = IsReadPast bytes rest
ReadsNoMore bytes rest Spent = IsReadPast bytes rest
ReadsNoMore bytes rest end = ⊤

-- what a connection was: the bytes that the link had and has left, the exchanges from the first position on, and what was written
pub record Served {S : Type 0} (answers : S → Request → Response → S → Type 0) (old new : S) (left rest before now : Option (List ℕ)) (end : End) : Type 0 where
  pub bytes : List ℕ
  pub told : AreTold left bytes
  pub exchanges : List Exchange
  pub position : Position S
  pub leads : Exchanges answers (record { asked = false; answered = 0; service = old; left = bytes }) exchanges position
  pub service : position.service ≡ new
  pub ended : Ended position exchanges before now end
  pub read : ReadsNoMore position.left rest end
