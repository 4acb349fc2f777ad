-- Replies as responses, and the responses that no reply is.
use Rattle.std.specs.Prelude.{ℕ, List, ◌++◌, codes, Option, Some, None, if◌then◌else◌}
use Rattle.bt_base.specs.Ids.{within}
use Rattle.bt_rows.specs.declared.reply.Reply.{Reply}
use Rattle.bt_rows.specs.declared.reply.Reply.TheVariants.{Status, Refused}
use Rattle.wire_words.specs.Refusals.{refusal_status}
use Rattle.wire_json.specs.Replies.{reply_json}
use Rattle.http_routes.specs.declared.method.AllowedMethods.{AllowedMethods}
use Rattle.http_routes.specs.Methods.{allow_text}
use Rattle.http_serving.specs.declared.response.ExtraField.{ExtraField}
use Rattle.http_serving.specs.declared.response.ExtraField.TheVariants.{Allow}
use Rattle.http_serving.specs.declared.response.Response.{Response}

-- a status has three digits; no reply of the service has another number
unfoldable pub valid_status : ℕ → ℕ
valid_status number = if within 100 999 number then number else 500

-- the status of a reply
abbrev pub reply_status : Reply → ℕ
reply_status (Status number) = valid_status number
reply_status (Refused refusal) = valid_status (refusal_status refusal)
reply_status _ = 200

-- a reply as a response
abbrev pub reply_response : Reply → Response
reply_response reply = record { status = reply_status reply; extra = None; body = reply_json reply }

-- an error object with this code, the number 0 and no values; the code has letters alone
unfoldable pub error_body : List ℕ → List ℕ
error_body code = codes "{\"code\":\"" ++ (code ++ codes "\",\"number\":0,\"values\":[]}")

-- a response with an error object
abbrev pub error_with : ℕ → Option ExtraField → List ℕ → Response
error_with status extra code = record { status = status; extra = extra; body = error_body code }

abbrev pub error_response : ℕ → List ℕ → Response
error_response status code = error_with status None code

-- the path names no route
unfoldable pub route_not_found : Response
route_not_found = error_response 404 (codes "RouteNotFound")

-- the path names a route with these methods, which the request's is not among (RFC 9110, section 15.5.6)
unfoldable pub method_not_allowed : AllowedMethods → Response
method_not_allowed methods = error_with 405 (Some (Allow (allow_text methods))) (codes "MethodNotAllowed")
