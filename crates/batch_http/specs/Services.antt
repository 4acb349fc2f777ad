-- What the service makes of a request.
use Rattle.std.specs.Prelude.{◌≡◌, ℕ, Result}
use Rattle.bt_base.specs.declared.memory.NoMemory.{NoMemory}
use Rattle.bt_rows.specs.declared.event.EventKind.{EventKind}
use Rattle.bt_rows.specs.declared.reply.Reply.{Reply}
use Rattle.table_reads.specs.declared.request.Read.{Read}
use Rattle.batch_desk.specs.declared.answer.Answer.{Answer}
use Rattle.batch_desk.specs.Exchanges.{Exchange, Called, Looked}
use Rattle.http_serving.specs.declared.response.Response.{Response}
use Rattle.http_serving.specs.Services.{Request}
use Rattle.http_requests.specs.declared.request.Wanted.{Wanted}
use Rattle.http_requests.specs.declared.request.Wanted.TheVariants.{Call, Look, Answered}
use Rattle.http_requests.specs.Requests.{wanted_of}
use Rattle.batch_http.specs.Responses.{answer_response, look_response}

-- an asker, and the clock that is asked for the moments of calls
pub record HttpService (A C : Type 0) : Type 0 where
  pub asker : A
  pub clock : C

-- what a request asks for
abbrev pub wanted : Request → Wanted
wanted request = wanted_of request.method request.target request.body

module _ {A C : Type 0} (exchanged : A → Exchange → A → Type 0) (gives : C → ℕ → C → Type 0) where
  -- the clock gave a moment, the asker was asked for a call then, and its answer is the response
  pub record IsCall (old : HttpService A C) (event : EventKind) (response : Response) (new : HttpService A C) : Type 0 where
    pub moment : ℕ
    pub given : gives old.clock moment new.clock
    pub answer : Answer
    pub made : exchanged old.asker (Called moment event answer) new.asker
    pub answers : response ≡ answer_response answer

-- the asker was asked for a read, and what it showed is the response; the clock was not asked
pub record IsLook {A C : Type 0} (exchanged : A → Exchange → A → Type 0) (old : HttpService A C) (read : Read) (response : Response) (new : HttpService A C) : Type 0 where
  pub same_clock : new.clock ≡ old.clock
  pub shown : Result Reply NoMemory
  pub made : exchanged old.asker (Looked read shown) new.asker
  pub shows : response ≡ look_response shown

module _ {A C : Type 0} (exchanged : A → Exchange → A → Type 0) (gives : C → ℕ → C → Type 0) where
  -- what the service makes of a request that asks for this
  abbrev pub AnswersWanted : HttpService A C → Wanted → Response → HttpService A C → Type 0
  AnswersWanted old (Call event) response new = IsCall exchanged gives old event response new
  AnswersWanted old (Look read) response new = IsLook exchanged old read response new
  AnswersWanted old (Answered own) response new = (response ≡ own) × (new ≡ old)

  abbrev pub Answers : HttpService A C → Request → Response → HttpService A C → Type 0
  Answers old request response new = AnswersWanted old (wanted request) response new
