use Rattle.std.proofs.Common.{refl, subst}
use Rattle.batch_http.specs.Services.{HttpService, IsLook}
use Rattle.batch_http.specs.Responses.{look_response}
use Rattle.batch_http.proofs.Losing.{lost}
use Rattle.batch_http.proofs.service.HttpService.look.Goals as goal

pub returns-clause-lost : goal.returns-clause-lost
returns-clause-lost g c =
    let response = look_response c.look-shown.result in
    let now : HttpService g.row.A.Denot g.row.C.Denot = record { asker = c.look-shown.new.self; clock = c.self.inside.clock } in
    lost (λ r. IsLook g.A.Ask.exchanged c.args.self.now c.args.read.now r now) _ response
    (subst (λ old. IsLook g.A.Ask.exchanged old c.args.read.now response now) c.self.view_is (record {
      same_clock = refl;
      shown = c.look-shown.result;
      made = c.look-shown.ensures;
      shows = refl;
    }))
