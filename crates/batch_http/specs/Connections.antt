-- A connection over an asker and a clock.
use Rattle.std.specs.Prelude.{◌≡◌, ℕ, List, [], ◌∷◌, ◌++◌, Option, Result}
use Rattle.bt_base.specs.declared.memory.NoMemory.{NoMemory}
use Rattle.bt_rows.specs.declared.event.EventKind.{EventKind}
use Rattle.bt_rows.specs.declared.reply.Reply.{Reply}
use Rattle.batch_desk.specs.declared.answer.Answer.{Answer}
use Rattle.batch_desk.specs.Exchanges.{Exchange, Called, Looked, Leads}
use Rattle.http_serving.specs.declared.end.End.{End}
use Rattle.http_serving.specs.declared.response.Response.{Response}
use Rattle.http_serving.specs.Connection.{Exchange as Message, request_of, Served}
use Rattle.http_requests.specs.declared.request.Wanted.{Wanted}
use Rattle.http_requests.specs.declared.request.Wanted.TheVariants.{Call, Look, Answered}
use Rattle.batch_http.specs.Responses.{answer_response, look_response}
use Rattle.batch_http.specs.Services.{HttpService, wanted, Answers}

-- a request that asks for this, and has this response, makes these exchanges: one, or none if it is answered as it is
abbrev pub Makes : Wanted → Response → List Exchange → Type 0
Makes (Call event) response exchanges =
    (moment : ℕ) × (answer : Answer) × (exchanges ≡ Called moment event answer ∷ []) × (response ≡ answer_response answer)
Makes (Look read) response exchanges =
    (shown : Result Reply NoMemory) × (exchanges ≡ Looked read shown ∷ []) × (response ≡ look_response shown)
Makes (Answered own) response exchanges = (exchanges ≡ []) × (response ≡ own)

-- the messages of a connection, in order, make these exchanges
abbrev pub MakeAll : List Message → List Exchange → Type 0
MakeAll [] exchanges = exchanges ≡ []
MakeAll (x ∷ xs) exchanges =
    (first : List Exchange) × (rest : List Exchange) × (exchanges ≡ first ++ rest) × Makes (wanted (request_of x)) x.response first × MakeAll xs rest

-- the clock gave the moments of the calls, in order, and no other
abbrev pub GivesMoments : {C : Type 0} → (C → ℕ → C → Type 0) → C → List Exchange → C → Type 0
GivesMoments gives old [] new = new ≡ old
GivesMoments gives old (Called moment event answer ∷ xs) new = (middle : _) × gives old moment middle × GivesMoments gives middle xs new
GivesMoments gives old (Looked read shown ∷ xs) new = GivesMoments gives old xs new

module _ {A C : Type 0} (exchanged : A → Exchange → A → Type 0) (gives : C → ℕ → C → Type 0) where
  -- the exchanges that these messages make lead the asker, and their moments are the clock's
  pub record AreMade (old : HttpService A C) (messages : List Message) (new : HttpService A C) : Type 0 where
    pub exchanges : List Exchange
    pub made : MakeAll messages exchanges
    pub leads : Leads exchanged old.asker exchanges new.asker
    pub moments : GivesMoments gives old.clock exchanges new.clock

  -- a connection was served, and so were its messages
  pub record IsServed (old new : HttpService A C) (left rest before now : Option (List ℕ)) (end : End) : Type 0 where
    pub served : Served (Answers exchanged gives) old new left rest before now end
    pub made : AreMade old served.exchanges new
