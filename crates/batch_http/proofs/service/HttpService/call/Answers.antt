use Rattle.std.proofs.Common.{refl, subst}
use Rattle.batch_http.specs.Services.{HttpService, IsCall}
use Rattle.batch_http.specs.Responses.{answer_response}
use Rattle.batch_http.proofs.Losing.{lost}
use Rattle.batch_http.proofs.service.HttpService.call.Goals as goal

pub returns-clause-lost : goal.returns-clause-lost
returns-clause-lost g c =
    let response = answer_response c.ask-answer.result in
    let now : HttpService g.row.A.Denot g.row.C.Denot = record { asker = c.ask-answer.new.self; clock = c.now-moment.new.self } in
    lost (λ r. IsCall g.A.Ask.exchanged g.C.Clock.gives c.args.self.now c.args.event r now) _ response
    (subst (λ old. IsCall g.A.Ask.exchanged g.C.Clock.gives old c.args.event response now) c.self.view_is (record {
      moment = c.now-moment.result;
      given = c.now-moment.ensures.given;
      answer = c.ask-answer.result;
      made = c.ask-answer.ensures;
      answers = refl;
    }))
