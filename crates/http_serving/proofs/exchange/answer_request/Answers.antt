use Rattle.std.proofs.Common.{refl, inl, inr}
use Rattle.std.specs.Str.{bytes_eq}
use Rattle.http_serving.specs.Responses.{head_text}
use Rattle.http_serving.proofs.Cutting.{none_of_response}
use Rattle.http_serving.proofs.exchange.answer_request.Goals as goal

pub returns-in-Err-clause-answered : goal.returns-in-Err-clause-answered
returns-in-Err-clause-answered g c = record {
  fault = tt;
  part = elim c.in-Err.ensures.lost [
    | inl same ↦ inl (same, refl)
    | inr some ↦ inr (record {
      response = some.0;
      answer = some.1;
      written = none_of_response (g.L.Link.taken c.args.link.now) (bytes_eq c.args.method.now head_text) some.0;
    })
  ];
}
