-- A response that is lost.
use Rattle.std.proofs.Common.{Result, Ok, Err, OnErr}
use Rattle.http_serving.specs.declared.response.Response.{Response}

-- what holds of some response, whatever the result is
pub lost : {X E : Type 0} (P : Response → Type 0) (r : Result X E) (response : Response) → P response → OnErr r ((lost : Response) × P lost)
lost P (Ok x) response p = tt
lost P (Err e) response p = (response, p)
