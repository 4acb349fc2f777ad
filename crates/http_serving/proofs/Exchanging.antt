-- A message at the front of a buffer makes an exchange, whatever bytes follow it.
use Rattle.std.proofs.Common.{◌≡◌, ◌+◌, ◌-◌, ◌<◌, ◌≤◌, ℕ, false, List, [], ◌++◌, length, drop, slice_range, Option, append_assoc, refl, sym, ap, ◌∙◌, subst, arith, inl, inr, length-drop, length-take}
use Rattle.std.proofs.lemmas.List.{take-append-drop, drop-drop}
use Rattle.std.specs.Io.KnownBytes.{Consumes}
use Rattle.httparse.specs.Grammar.{RequestHead, ReadsRequest}
use Rattle.httparse.specs.Spans.{span_bytes}
use Rattle.httparse.proofs.GrammarLemmas.{ReadsRequest-append}
use Rattle.byte_streams.specs.Content.{Gains}
use Rattle.byte_streams.proofs.Gaining.{gains_nothing}
use Rattle.http_link.specs.Writing.{GainsPart}
use Rattle.http_head.specs.declared.framing.Framing.TheVariants.{Body}
use Rattle.http_serving.specs.declared.connection.TheConstants.{MESSAGE_LIMIT}
use Rattle.http_serving.specs.declared.end.End.{End}
use Rattle.http_serving.specs.declared.end.End.TheVariants.{Closed, Asked, Spent, Truncated, BadHead, BadFraming, OriginRefused, HeadTooLong, BodyTooLong, LinkFault, Memory}
use Rattle.http_serving.specs.declared.messages.Message.{Message}
use Rattle.http_serving.specs.declared.response.Response.{Response}
use Rattle.http_serving.specs.Services.{Request}
use Rattle.http_serving.specs.Reading.{BeginsWith, IsMessage, FoundMessage, Stops, AllowsEnd, IsFault, unread}
use Rattle.http_serving.specs.Connection.{IsExchange, IsClosed}
use Rattle.http_serving.specs.Stages.{request_in, text_to, Answers, BreaksOff, ExchangedBy, Steps, Ends}
use Rattle.http_serving.proofs.Bodies.{begins}
use Rattle.http_serving.proofs.Buffers.{allows_fault}

abbrev body_in : List ℕ → Message → List ℕ
body_in bytes m = slice_range bytes m.head.len m.len

-- after the head come the body and what follows it
after_head : (bytes : List ℕ) (m : Message) → m.head.len ≤ m.len → drop m.head.len bytes ≡ body_in bytes m ++ drop m.len bytes
after_head bytes m ordered =
    let whole : m.len ≡ m.head.len + (m.len - m.head.len) = omega (arith, ordered) in
    sym (ap (λ w. body_in bytes m ++ w) (ap (λ k. drop k bytes) whole ∙ sym (drop-drop (m.len - m.head.len) m.head.len bytes)) ∙ take-append-drop (m.len - m.head.len) (drop m.head.len bytes))

body_length : {bytes : List ℕ} {m : Message} {h : RequestHead} → (is : IsMessage bytes m h) → length (body_in bytes m) ≡ is.size
body_length {bytes} {m} {h} is =
    omega (arith, is.len, is.whole, is.ordered, length-take (m.len - m.head.len) (drop m.head.len bytes), length-drop m.head.len bytes)

begins_message : {bytes : List ℕ} {m : Message} {h : RequestHead} (rest : List ℕ) → IsMessage bytes m h → BeginsWith (bytes ++ rest) h (body_in bytes m ++ (drop m.len bytes ++ rest))
begins_message {bytes} {m} {h} rest is =
    let at = begins is.head is.short in
    let split : drop m.head.len bytes ++ rest ≡ body_in bytes m ++ (drop m.len bytes ++ rest) =
    ap (λ w. w ++ rest) (after_head bytes m is.ordered) ∙ append_assoc (body_in bytes m) (drop m.len bytes) rest in
    record {
      reads = subst (λ w. ReadsRequest (bytes ++ rest) h w) split (ReadsRequest-append bytes h (drop m.head.len bytes) rest at.reads);
      short = at.short;
      few = at.few;
    }

module _ {S : Type 0} (answers : S → Request → Response → S → Type 0) (old new : S) where
  exchange_of : {bytes : List ℕ} {m : Message} (h : RequestHead) (response : Response) (after : List ℕ) → IsMessage bytes m h → answers old (request_in bytes m) response new → after ≡ drop m.len bytes → (n : ℕ) → n < MESSAGE_LIMIT → (rest : List ℕ) → IsExchange answers (record { asked = false; answered = n; service = old; left = bytes ++ rest }) (record { head = h; body = body_in bytes m; response = response }) (record { asked = m.head.is_last; answered = n + 1; service = new; left = after ++ rest })
  exchange_of {bytes} {m} h response after is made e n less rest = record {
    not_asked = refl;
    more = less;
    message = record {
      begins = subst (λ w. BeginsWith (bytes ++ rest) h (body_in bytes m ++ (w ++ rest))) (sym e) (begins_message rest is);
      framed = is.framed ∙ ap Body (sym (body_length is));
      no_origin = is.no_origin;
    };
    answer = subst (λ w. answers old (record { method = w; target = h.target; body = body_in bytes m }) response new) is.head.method
        (subst (λ w. answers old (record { method = span_bytes bytes m.head.method; target = w; body = body_in bytes m }) response new) is.head.target made);
    asked = is.head.last;
    answered = refl;
  }

  exchanged_by : {a b : Option (List ℕ)} {before grown : List ℕ} {m : Message} (c : Option (List ℕ)) (after : List ℕ) (response : Response) → FoundMessage a b before grown m → c ≡ b → answers old (request_in grown m) response new → after ≡ drop m.len grown → ExchangedBy answers old new a c before after m.head.is_last
  exchanged_by {a} {b} {before} {grown} {m} c after response found same made e = record {
    piece = found.grows.piece;
    given = subst (λ w. Consumes a w found.grows.piece) (sym same) found.grows.given;
    exchange = record { head = found.h; body = body_in grown m; response = response };
    is_exchange = λ n less rest.
        subst (λ w. IsExchange answers (record { asked = false; answered = n; service = old; left = w ++ rest }) (record { head = found.h; body = body_in grown m; response = response }) (record { asked = m.head.is_last; answered = n + 1; service = new; left = after ++ rest })) found.grows.buffer (exchange_of found.h response after found.is_message made e n less rest);
  }

  -- a request was answered
  pub steps : {a b : Option (List ℕ)} {before grown : List ℕ} {m : Message} {taken mid : Option (List ℕ)} (c took : Option (List ℕ)) (after : List ℕ) → FoundMessage a b before grown m → c ≡ b → mid ≡ taken → Answers answers old new (request_in grown m) mid took → after ≡ drop m.len grown → Steps answers old new a c before after taken took m.head.is_last
  unfolding exchanged_by
  steps {a} {b} {before} {grown} {m} {taken} {mid} c took after found same untouched answered e = record {
    exchanged = exchanged_by c after answered.response found same answered.answer e;
    written = subst (λ w. Gains w took (text_to (record { method = found.h.method; target = found.h.target; body = body_in grown m }) answered.response)) untouched
        (subst (λ w. Gains mid took (text_to (record { method = w; target = found.h.target; body = body_in grown m }) answered.response)) found.is_message.head.method answered.written);
  }

  -- nothing was written
  unwritten : (end : End) (taken took : Option (List ℕ)) → IsFault end → took ≡ taken → IsClosed end end taken took
  unwritten LinkFault taken took h e = subst (λ w. Gains taken w []) (sym e) (gains_nothing taken)
  unwritten Memory taken took h e = subst (λ w. Gains taken w []) (sym e) (gains_nothing taken)
  unwritten Closed taken took h e = absurd h
  unwritten Asked taken took h e = absurd h
  unwritten Spent taken took h e = absurd h
  unwritten Truncated taken took h e = absurd h
  unwritten BadHead taken took h e = absurd h
  unwritten BadFraming taken took h e = absurd h
  unwritten OriginRefused taken took h e = absurd h
  unwritten HeadTooLong taken took h e = absurd h
  unwritten BodyTooLong taken took h e = absurd h

  pub breaks_off : {a b : Option (List ℕ)} {before grown : List ℕ} {m : Message} {taken mid : Option (List ℕ)} {end : End} (c took : Option (List ℕ)) → FoundMessage a b before grown m → c ≡ b → mid ≡ taken → BreaksOff answers old new (request_in grown m) mid took end → Ends answers old new a c before taken took end
  unfolding exchanged_by
  breaks_off {a} {b} {before} {grown} {m} {taken} {mid} {end} c took found same untouched broken = elim broken.part [
    | inl none ↦ inl (record {
      piece = found.grows.piece;
      given = subst (λ w. Consumes a w found.grows.piece) (sym same) found.grows.given;
      same = none.0;
      planned = end;
      allows = allows_fault end ((before ++ found.grows.piece) ++ unread c) broken.fault;
      closed = unwritten end taken took broken.fault (none.1 ∙ untouched);
    })
    | inr some ↦ inr (record {
      after = drop m.len grown;
      last = m.head.is_last;
      exchanged = exchanged_by c (drop m.len grown) some.response found same some.answer refl;
      fault = broken.fault;
      written = subst (λ w. GainsPart w took (text_to (record { method = found.h.method; target = found.h.target; body = body_in grown m }) some.response)) untouched
          (subst (λ w. GainsPart mid took (text_to (record { method = w; target = found.h.target; body = body_in grown m }) some.response)) found.is_message.head.method some.written);
    })
  ]

  -- no message came
  pub ends_before : {a b : Option (List ℕ)} {before : List ℕ} {taken mid : Option (List ℕ)} {planned : End} (c took : Option (List ℕ)) (end : End) → Stops a b before planned → c ≡ b → mid ≡ taken → new ≡ old → IsClosed planned end mid took → Ends answers old new a c before taken took end
  ends_before {a} {b} {before} {taken} {mid} {planned} c took end stops same untouched kept closed = inl (record {
    piece = stops.piece;
    given = subst (λ w. Consumes a w stops.piece) (sym same) stops.given;
    same = kept;
    planned = planned;
    allows = subst (λ w. AllowsEnd ((before ++ stops.piece) ++ unread w) planned) (sym same) stops.allows;
    closed = subst (λ w. IsClosed planned end w took) untouched closed;
  })
