-- One request of a connection, as the stages of its code see it.
use Rattle.std.specs.Prelude.{◌≡◌, ℕ, ◌+◌, ◌<◌, ◌⊎◌, Bool, false, List, ◌++◌, Option, slice_range}
use Rattle.std.specs.Io.KnownBytes.{Consumes}
use Rattle.std.specs.Str.{bytes_eq}
use Rattle.byte_streams.specs.Content.{Gains}
use Rattle.http_link.specs.Writing.{GainsPart}
use Rattle.httparse.specs.Spans.{span_bytes}
use Rattle.http_serving.specs.declared.connection.TheConstants.{MESSAGE_LIMIT}
use Rattle.http_serving.specs.declared.end.End.{End}
use Rattle.http_serving.specs.declared.messages.Message.{Message}
use Rattle.http_serving.specs.declared.response.Response.{Response}
use Rattle.http_serving.specs.Services.{Request}
use Rattle.http_serving.specs.Responses.{head_text, text_of}
use Rattle.http_serving.specs.Reading.{AllowsEnd, IsFault, unread}
use Rattle.http_serving.specs.Connection.{Position, Exchange, IsExchange, exchange_text, IsClosed}

-- the text of a response to this request
abbrev pub text_to : Request → Response → List ℕ
text_to request response = text_of (bytes_eq request.method head_text) response

-- the request of the message at the front of the bytes
abbrev pub request_in : List ℕ → Message → Request
request_in bytes m = record {
  method = span_bytes bytes m.head.method;
  target = span_bytes bytes m.head.target;
  body = slice_range bytes m.head.len m.len;
}

module _ {S : Type 0} (answers : S → Request → Response → S → Type 0) (old new : S) where
  -- the request was answered, and its response was written
  pub record Answers (request : Request) (before now : Option (List ℕ)) : Type 0 where
    pub response : Response
    pub answer : answers old request response new
    pub written : Gains before now (text_to request response)

  -- it was answered, and not all of its response was written
  pub record AnswersPart (request : Request) (before now : Option (List ℕ)) : Type 0 where
    pub response : Response
    pub answer : answers old request response new
    pub written : GainsPart before now (text_to request response)

  -- a fault came before the response was written whole
  pub record BreaksOff (request : Request) (before now : Option (List ℕ)) (end : End) : Type 0 where
    pub fault : IsFault end
    pub part : ((new ≡ old) × (now ≡ before)) ⊎ AnswersPart request before now

  -- one exchange more, whatever bytes follow
  pub record ExchangedBy (left now : Option (List ℕ)) (before after : List ℕ) (last : Bool) : Type 0 where
    pub piece : List ℕ
    pub given : Consumes left now piece
    pub exchange : Exchange
    pub is_exchange : (n : ℕ) → n < MESSAGE_LIMIT → (rest : List ℕ)
        → IsExchange answers (record { asked = false; answered = n; service = old; left = (before ++ piece) ++ rest }) exchange
        (record { asked = last; answered = n + 1; service = new; left = after ++ rest })

  -- a request was answered
  pub record Steps (left now : Option (List ℕ)) (before after : List ℕ) (taken took : Option (List ℕ)) (last : Bool) : Type 0 where
    pub exchanged : ExchangedBy left now before after last
    pub written : Gains taken took (exchange_text exchanged.exchange)

  -- the connection ends before a request
  pub record EndsBefore (left now : Option (List ℕ)) (before : List ℕ) (taken took : Option (List ℕ)) (end : End) : Type 0 where
    pub piece : List ℕ
    pub given : Consumes left now piece
    pub same : new ≡ old
    pub planned : End
    pub allows : AllowsEnd ((before ++ piece) ++ unread now) planned
    pub closed : IsClosed planned end taken took

  -- the connection ends while a response is written
  pub record EndsWithin (left now : Option (List ℕ)) (before : List ℕ) (taken took : Option (List ℕ)) (end : End) : Type 0 where
    pub after : List ℕ
    pub last : Bool
    pub exchanged : ExchangedBy left now before after last
    pub fault : IsFault end
    pub written : GainsPart taken took (exchange_text exchanged.exchange)

  abbrev pub Ends : Option (List ℕ) → Option (List ℕ) → List ℕ → Option (List ℕ) → Option (List ℕ) → End → Type 0
  Ends left now before taken took end =
      EndsBefore left now before taken took end ⊎ EndsWithin left now before taken took end
