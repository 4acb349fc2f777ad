-- The exchanges of a connection lead its asker.
use Rattle.std.proofs.Common.{◌≡◌, ℕ, List, [], ◌∷◌, ◌++◌, Option, refl, sym, ap, ◌∙◌, subst}
use Rattle.batch_desk.specs.Exchanges.{Exchange, Called, Looked, Leads}
use Rattle.http_serving.specs.declared.end.End.{End}
use Rattle.http_serving.specs.declared.response.Response.{Response}
use Rattle.http_serving.specs.Connection.{Position, Exchange as Message, request_of, Exchanges, Served}
use Rattle.http_requests.specs.declared.request.Wanted.{Wanted}
use Rattle.http_requests.specs.declared.request.Wanted.TheVariants.{Call, Look, Answered}
use Rattle.batch_http.specs.Services.{HttpService, wanted, AnswersWanted, Answers}
use Rattle.batch_http.specs.Connections.{Makes, MakeAll, GivesMoments, AreMade, IsServed}

module _ {A C : Type 0} (exchanged : A → Exchange → A → Type 0) (gives : C → ℕ → C → Type 0) where
  -- what one message made
  record MadeOne (old : HttpService A C) (asks : Wanted) (response : Response) (middle : HttpService A C) (xs : List Exchange) (new : HttpService A C) : Type 0 where
    first : List Exchange
    made : Makes asks response first
    leads : Leads exchanged old.asker (first ++ xs) new.asker
    moments : GivesMoments gives old.clock (first ++ xs) new.clock

  one : (old middle new : HttpService A C) (asks : Wanted) (response : Response) (xs : List Exchange) → AnswersWanted exchanged gives old asks response middle → Leads exchanged middle.asker xs new.asker → GivesMoments gives middle.clock xs new.clock → MadeOne old asks response middle xs new
  one old middle new (Call event) response xs m leads moments = record {
    first = Called m.moment event m.answer ∷ [];
    made = (m.moment, m.answer, refl, m.answers);
    leads = (middle.asker, m.made, leads);
    moments = (middle.clock, m.given, moments);
  }
  one old middle new (Look read) response xs m leads moments = record {
    first = Looked read m.shown ∷ [];
    made = (m.shown, refl, m.shows);
    leads = (middle.asker, m.made, leads);
    moments = subst (λ c. GivesMoments gives c xs new.clock) m.same_clock moments;
  }
  one old middle new (Answered own) response xs (same, stays) leads moments = record {
    first = [];
    made = (refl, same);
    leads = subst (λ s. Leads exchanged s.asker xs new.asker) stays leads;
    moments = subst (λ s. GivesMoments gives s.clock xs new.clock) stays moments;
  }

  all : (p q : Position (HttpService A C)) (messages : List Message) → Exchanges (Answers exchanged gives) p messages q → AreMade exchanged gives p.service messages q.service
  all p q [] same = record {
    exchanges = [];
    made = refl;
    leads = ap (λ r. r.service.asker) same;
    moments = ap (λ r. r.service.clock) same;
  }
  all p q (x ∷ xs) (m, is, more) =
      let rest = all m q xs more in
      let first = one p.service m.service q.service (wanted (request_of x)) x.response rest.exchanges is.answer rest.leads rest.moments in
      record {
        exchanges = first.first ++ rest.exchanges;
        made = (first.first, rest.exchanges, refl, first.made, rest.made);
        leads = first.leads;
        moments = first.moments;
      }

  pub is_served : {old new : HttpService A C} {left rest before now : Option (List ℕ)} {end : End} → Served (Answers exchanged gives) old new left rest before now end → IsServed exchanged gives old new left rest before now end
  is_served {old} s = record {
    served = s;
    made = subst (λ w. AreMade exchanged gives old s.exchanges w) s.service (all _ s.position s.exchanges s.leads);
  }
