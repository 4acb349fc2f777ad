-- A connection under way.
use Rattle.std.proofs.Common.{◌≡◌, ◌+◌, ◌<◌, ℕ, Bool, true, false, List, [], ◌∷◌, ◌++◌, length, Option, None, Some, append_assoc, refl, sym, ap, ◌∙◌, subst, inl, inr}
use Rattle.std.proofs.lemmas.List.{append-nil}
use Rattle.std.proofs.lemmas.Grind.{flat_map-append}
use Rattle.std.specs.Io.KnownBytes.{Consumes}
use Rattle.byte_streams.specs.Content.{Gains}
use Rattle.byte_streams.proofs.Gaining.{gains_nothing, gains_more}
use Rattle.http_link.specs.declared.room.TheConstants.{FILL_BYTES}
use Rattle.http_serving.specs.declared.connection.TheConstants.{MESSAGE_LIMIT}
use Rattle.http_serving.specs.declared.end.End.{End}
use Rattle.http_serving.specs.declared.end.End.TheVariants.{Closed, Asked, Spent, Truncated, BadHead, BadFraming, OriginRefused, HeadTooLong, BodyTooLong, LinkFault, Memory}
use Rattle.http_serving.specs.declared.response.Response.{Response}
use Rattle.http_serving.specs.Services.{Request}
use Rattle.http_serving.specs.Reading.{AllowsEnd, IsFault, unread}
use Rattle.http_serving.specs.Connection.{Position, Exchange, IsExchange, Exchanges, exchange_text, exchanges_text, last_text, AreTold, AnswerCut, IsClosed, BreaksBefore, BreaksWithin, Ended, IsReadPast, ReadsNoMore, Served}
use Rattle.http_serving.specs.Stages.{ExchangedBy, Steps, EndsBefore, EndsWithin, Ends}
use Rattle.http_serving.proofs.Buffers.{consumes_none, consumes_more}

-- the link's bytes are those that were read and those that are left
told_of : (a b : Option (List ℕ)) (read : List ℕ) → Consumes a b read → AreTold a (read ++ unread b)
told_of None b read c = tt
told_of (Some xs) None read c = absurd c
told_of (Some xs) (Some ys) read c = c

text_snoc : (xs : List Exchange) (x : Exchange) → exchanges_text (xs ++ x ∷ []) ≡ exchanges_text xs ++ exchange_text x
text_snoc xs x = flat_map-append exchange_text xs (x ∷ []) ∙ ap (λ w. exchanges_text xs ++ w) (append-nil (exchange_text x))

gained_by : (a b c : Option (List ℕ)) (xs : List Exchange) (x : Exchange) → Gains a b (exchanges_text xs) → Gains b c (exchange_text x) → Gains a c (exchanges_text (xs ++ x ∷ []))
gained_by a b c xs x f g = subst (λ text. Gains a c text) (sym (text_snoc xs x)) (gains_more a b c (exchanges_text xs) (exchange_text x) f g)

abbrev pub position_at : {S : Type 0} → Bool → ℕ → S → List ℕ → Position S
position_at asked answered service left = record { asked = asked; answered = answered; service = service; left = left }

-- a fault cut the last response short
ended_within : {S : Type 0} (end : End) (p : Position S) (exchanges : List Exchange) (before now : Option (List ℕ)) → IsFault end → BreaksWithin exchanges before now → Ended p exchanges before now end
ended_within LinkFault p exchanges before now h b = inr b
ended_within Memory p exchanges before now h b = inr b
ended_within Closed p exchanges before now h b = absurd h
ended_within Asked p exchanges before now h b = absurd h
ended_within Spent p exchanges before now h b = absurd h
ended_within Truncated p exchanges before now h b = absurd h
ended_within BadHead p exchanges before now h b = absurd h
ended_within BadFraming p exchanges before now h b = absurd h
ended_within OriginRefused p exchanges before now h b = absurd h
ended_within HeadTooLong p exchanges before now h b = absurd h
ended_within BodyTooLong p exchanges before now h b = absurd h

-- after a fault nothing is said of reads
read_at_fault : (end : End) (bytes : List ℕ) (rest : Option (List ℕ)) → IsFault end → ReadsNoMore bytes rest end
read_at_fault LinkFault bytes rest h = tt
read_at_fault Memory bytes rest h = tt
read_at_fault Closed bytes rest h = absurd h
read_at_fault Asked bytes rest h = absurd h
read_at_fault Spent bytes rest h = absurd h
read_at_fault Truncated bytes rest h = absurd h
read_at_fault BadHead bytes rest h = absurd h
read_at_fault BadFraming bytes rest h = absurd h
read_at_fault OriginRefused bytes rest h = absurd h
read_at_fault HeadTooLong bytes rest h = absurd h
read_at_fault BodyTooLong bytes rest h = absurd h

read_past : (past : List ℕ) (rest : Option (List ℕ)) → length past < FILL_BYTES → IsReadPast (past ++ unread rest) rest
read_past past rest few = record { past = past; few = few; cut = refl }

-- no further request was answered
module _ {S : Type 0} (planned : End) (answered : ℕ) (service : S) (left : List ℕ) (exchanges : List Exchange) (before middle now : Option (List ℕ))
    (less : answered < MESSAGE_LIMIT) (allows : AllowsEnd left planned) (gained : Gains before middle (exchanges_text exchanges)) where
  abbrev here : Position S
  here = position_at false answered service left

  breaks_before : AnswerCut planned middle now → BreaksBefore here exchanges before now
  breaks_before cut = record {
    planned = planned;
    not_asked = refl;
    more = less;
    allows = allows;
    middle = middle;
    responses = gained;
    answer = cut;
  }

  as_planned : (end : End) → planned ≡ end → AllowsEnd left end
  as_planned end same = subst (AllowsEnd left) same allows

  all_written : (end : End) → Gains middle now (last_text end) → Gains before now (exchanges_text exchanges ++ last_text end)
  all_written end answer = gains_more before middle now (exchanges_text exchanges) (last_text end) gained answer

  ended_before : (end : End) → IsClosed planned end middle now → Ended here exchanges before now end
  ended_before LinkFault c = inl (breaks_before c)
  ended_before Memory c = inl (breaks_before c)
  ended_before Asked c = absurd (as_planned Asked c.0)
  ended_before Spent c = absurd (as_planned Spent c.0)
  ended_before Closed c = record { ends = (refl, less, as_planned Closed c.0); written = all_written Closed c.1 }
  ended_before Truncated c = record { ends = (refl, less, as_planned Truncated c.0); written = all_written Truncated c.1 }
  ended_before BadHead c = record { ends = (refl, less, as_planned BadHead c.0); written = all_written BadHead c.1 }
  ended_before BadFraming c = record { ends = (refl, less, as_planned BadFraming c.0); written = all_written BadFraming c.1 }
  ended_before OriginRefused c = record { ends = (refl, less, as_planned OriginRefused c.0); written = all_written OriginRefused c.1 }
  ended_before HeadTooLong c = record { ends = (refl, less, as_planned HeadTooLong c.0); written = all_written HeadTooLong c.1 }
  ended_before BodyTooLong c = record { ends = (refl, less, as_planned BodyTooLong c.0); written = all_written BodyTooLong c.1 }

  -- it ended at no message
  read_before : (end : End) (rest : Option (List ℕ)) → IsClosed planned end middle now → ReadsNoMore left rest end
  read_before Asked rest c = absurd (as_planned Asked c.0)
  read_before Spent rest c = absurd (as_planned Spent c.0)
  read_before LinkFault rest c = tt
  read_before Memory rest c = tt
  read_before Closed rest c = tt
  read_before Truncated rest c = tt
  read_before BadHead rest c = tt
  read_before BadFraming rest c = tt
  read_before OriginRefused rest c = tt
  read_before HeadTooLong rest c = tt
  read_before BodyTooLong rest c = tt

module _ {S : Type 0} (answers : S → Request → Response → S → Type 0) where
  exchanges_snoc : (p q r : Position S) (xs : List Exchange) (x : Exchange) → Exchanges answers p xs q → IsExchange answers q x r → Exchanges answers p (xs ++ x ∷ []) r
  exchanges_snoc p q r [] x e i = (r, subst (λ w. IsExchange answers w x r) e i, refl)
  exchanges_snoc p q r (y ∷ xs) x (m, first, more) i = (m, first, exchanges_snoc m q r xs x more i)

  -- Whatever bytes come, the exchanges lead from the bytes that were read and these to the buffer and these.
  pub record Going (old now : S) (answered : ℕ) (left later : Option (List ℕ)) (buffer : List ℕ) (before taken : Option (List ℕ)) : Type 0 where
    pub read : List ℕ
    pub given : Consumes left later read
    pub exchanges : List Exchange
    pub leads : (rest : List ℕ) → Exchanges answers (position_at false 0 old (read ++ rest)) exchanges (position_at false answered now (buffer ++ rest))
    pub gained : Gains before taken (exchanges_text exchanges)

  pub going_start : (old : S) (left before : Option (List ℕ)) (buffer : List ℕ) → buffer ≡ [] → Going old old 0 left left buffer before before
  going_start old left before buffer none = record {
    read = [];
    given = consumes_none left;
    exchanges = [];
    leads = λ rest. ap (λ w. position_at false 0 old (w ++ rest)) none;
    gained = gains_nothing before;
  }

  module _ {old now next : S} {answered : ℕ} {left later : Option (List ℕ)} {buffer : List ℕ} {before taken : Option (List ℕ)} (g : Going old now answered left later buffer before taken) where
    -- one exchange more, with what is left after it
    leads_by : {last_left : Option (List ℕ)} {after : List ℕ} {last : Bool} → answered < MESSAGE_LIMIT → (t : ExchangedBy answers now next later last_left buffer after last) → (rest : List ℕ) → Exchanges answers (position_at false 0 old ((g.read ++ t.piece) ++ rest)) (g.exchanges ++ t.exchange ∷ []) (position_at last (answered + 1) next (after ++ rest))
    leads_by {last_left} {after} {last} less t rest =
        exchanges_snoc (position_at false 0 old ((g.read ++ t.piece) ++ rest)) (position_at false answered now ((buffer ++ t.piece) ++ rest)) (position_at last (answered + 1) next (after ++ rest)) g.exchanges t.exchange
        (subst (λ w. Exchanges answers (position_at false 0 old w) g.exchanges (position_at false answered now ((buffer ++ t.piece) ++ rest))) (sym (append_assoc g.read t.piece rest))
        (subst (λ w. Exchanges answers (position_at false 0 old (g.read ++ (t.piece ++ rest))) g.exchanges (position_at false answered now w)) (sym (append_assoc buffer t.piece rest)) (g.leads (t.piece ++ rest))))
        (t.is_exchange answered less rest)

    pub going_on : {last_left took : Option (List ℕ)} {after : List ℕ} → answered < MESSAGE_LIMIT → Steps answers now next later last_left buffer after taken took false → Going old next (answered + 1) left last_left after before took
    going_on {last_left} {took} {after} less s = record {
      read = g.read ++ s.exchanged.piece;
      given = consumes_more left later last_left g.read s.exchanged.piece g.given s.exchanged.given;
      exchanges = g.exchanges ++ s.exchanged.exchange ∷ [];
      leads = leads_by less s.exchanged;
      gained = gained_by before taken took g.exchanges s.exchanged.exchange g.gained s.written;
    }

    pub served_asked : {last_left took : Option (List ℕ)} {after : List ℕ} → answered < MESSAGE_LIMIT → length after < FILL_BYTES → Steps answers now next later last_left buffer after taken took true → Served answers old next left last_left before took Asked
    served_asked {last_left} {took} {after} less few s = record {
      bytes = (g.read ++ s.exchanged.piece) ++ unread last_left;
      told = told_of left last_left (g.read ++ s.exchanged.piece) (consumes_more left later last_left g.read s.exchanged.piece g.given s.exchanged.given);
      exchanges = g.exchanges ++ s.exchanged.exchange ∷ [];
      position = position_at true (answered + 1) next (after ++ unread last_left);
      leads = leads_by less s.exchanged (unread last_left);
      service = refl;
      ended = record {
        ends = refl;
        written = subst (λ w. Gains before took w) (sym (append-nil (exchanges_text (g.exchanges ++ s.exchanged.exchange ∷ [])))) (gained_by before taken took g.exchanges s.exchanged.exchange g.gained s.written);
      };
      read = read_past after last_left few;
    }

    -- a fault while a response is written
    served_within : {last_left took : Option (List ℕ)} (end : End) → answered < MESSAGE_LIMIT → EndsWithin answers now next later last_left buffer taken took end → Served answers old next left last_left before took end
    served_within {last_left} {took} end less e =
        record {
          bytes = (g.read ++ e.exchanged.piece) ++ unread last_left;
          told = told_of left last_left (g.read ++ e.exchanged.piece) (consumes_more left later last_left g.read e.exchanged.piece g.given e.exchanged.given);
          exchanges = g.exchanges ++ e.exchanged.exchange ∷ [];
          position = position_at e.last (answered + 1) next (e.after ++ unread last_left);
          leads = leads_by less e.exchanged (unread last_left);
          service = refl;
          ended = ended_within end (position_at e.last (answered + 1) next (e.after ++ unread last_left)) (g.exchanges ++ e.exchanged.exchange ∷ []) before took e.fault (record {
            earlier = g.exchanges;
            last = e.exchanged.exchange;
            cut = refl;
            middle = taken;
            responses = g.gained;
            response = e.written;
          });
          read = read_at_fault end (e.after ++ unread last_left) last_left e.fault;
        }

    -- the end before a message
    served_before : {last_left took : Option (List ℕ)} (end : End) → answered < MESSAGE_LIMIT → EndsBefore answers now next later last_left buffer taken took end → Served answers old next left last_left before took end
    served_before {last_left} {took} end less e = record {
      bytes = (g.read ++ e.piece) ++ unread last_left;
      told = told_of left last_left (g.read ++ e.piece) (consumes_more left later last_left g.read e.piece g.given e.given);
      exchanges = g.exchanges;
      position = position_at false answered now ((buffer ++ e.piece) ++ unread last_left);
      leads = subst (λ w. Exchanges answers (position_at false 0 old w) g.exchanges (position_at false answered now ((buffer ++ e.piece) ++ unread last_left))) (sym (append_assoc g.read e.piece (unread last_left)))
          (subst (λ w. Exchanges answers (position_at false 0 old (g.read ++ (e.piece ++ unread last_left))) g.exchanges (position_at false answered now w)) (sym (append_assoc buffer e.piece (unread last_left))) (g.leads (e.piece ++ unread last_left)));
      service = sym e.same;
      ended = ended_before e.planned answered now ((buffer ++ e.piece) ++ unread last_left) g.exchanges before taken took less e.allows g.gained end e.closed;
      read = read_before e.planned answered now ((buffer ++ e.piece) ++ unread last_left) g.exchanges before taken took less e.allows g.gained end last_left e.closed;
    }

    pub served_end : {last_left took : Option (List ℕ)} (end : End) → answered < MESSAGE_LIMIT → Ends answers now next later last_left buffer taken took end → Served answers old next left last_left before took end
    served_end end less (inl e) = served_before end less e
    served_end end less (inr e) = served_within end less e

  pub served_spent : {old now : S} {answered : ℕ} {left later : Option (List ℕ)} {buffer : List ℕ} {before taken : Option (List ℕ)} → Going old now answered left later buffer before taken → length buffer < FILL_BYTES → answered ≡ MESSAGE_LIMIT → Served answers old now left later before taken Spent
  served_spent {old} {now} {answered} {left} {later} {buffer} {before} {taken} g few full = record {
    bytes = g.read ++ unread later;
    told = told_of left later g.read g.given;
    exchanges = g.exchanges;
    position = position_at false answered now (buffer ++ unread later);
    leads = g.leads (unread later);
    service = refl;
    ended = record {
      ends = (refl, full);
      written = subst (λ w. Gains before taken w) (sym (append-nil (exchanges_text g.exchanges))) g.gained;
    };
    read = read_past buffer later few;
  }
