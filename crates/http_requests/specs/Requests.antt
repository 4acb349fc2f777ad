-- What a request asks for.
use Rattle.std.specs.Prelude.{ℕ, List, Result, Ok, Err}
use Rattle.bt_base.specs.Fails.{◌>>=◌}
use Rattle.bt_rows.specs.declared.refusal.Refusal.{Refusal}
use Rattle.bt_rows.specs.declared.reply.Reply.TheVariants.{Refused}
use Rattle.http_routes.specs.declared.route.Route.{Route}
use Rattle.http_routes.specs.declared.method.Method.{Method}
use Rattle.http_routes.specs.declared.method.Method.TheVariants.{Get, Post, Patch, Delete}
use Rattle.http_routes.specs.declared.method.Routing.{Routing}
use Rattle.http_routes.specs.declared.method.Routing.TheVariants.{NotFound, MethodNotAllowed, Found}
use Rattle.http_routes.specs.Methods.{routing}
use Rattle.http_routes.specs.Targets.{path_of, query_of}
use Rattle.http_requests.specs.declared.request.Wanted.{Wanted}
use Rattle.http_requests.specs.declared.request.Wanted.TheVariants.{Call, Look, Answered}
use Rattle.http_requests.specs.Events.{event_for}
use Rattle.http_requests.specs.Reads.{read_for}
use Rattle.http_requests.specs.Responses.{reply_response, route_not_found, method_not_allowed}

-- the read of a route and GET, or the event of a route and another of its methods
unfoldable pub request_for : Route → Method → List ℕ → List ℕ → List ℕ → Result Wanted Refusal
request_for route Get path query body = do
  read ← read_for route path query
  Ok (Look read)
request_for route Post path query body = do
  event ← event_for route Post path body
  Ok (Call event)
request_for route Patch path query body = do
  event ← event_for route Patch path body
  Ok (Call event)
request_for route Delete path query body = do
  event ← event_for route Delete path body
  Ok (Call event)

-- a refusal is the response
abbrev pub refused_or : Result Wanted Refusal → Wanted
refused_or (Ok wanted) = wanted
refused_or (Err refusal) = Answered (reply_response (Refused refusal))

-- what a request that goes there asks for
abbrev pub wanted_by : Routing → List ℕ → List ℕ → List ℕ → Wanted
wanted_by NotFound path query body = Answered route_not_found
wanted_by (MethodNotAllowed methods) path query body = Answered (method_not_allowed methods)
wanted_by (Found route method) path query body = refused_or (request_for route method path query body)

-- what a request with this method, target and body asks for
unfoldable pub wanted_of : List ℕ → List ℕ → List ℕ → Wanted
wanted_of method target body = wanted_by (routing method (path_of target)) (path_of target) (query_of target) body
