-- The text of a response (RFC 9112, sections 4 to 6, in this project's profile).
use Rattle.std.specs.Prelude.{ℕ, Bool, false, ◌||◌, List, [], ◌∷◌, ◌++◌, length, codes, decimal, unwrap_or, if◌then◌else◌, ◌==◌, Option, None, Some}
use Rattle.http.specs.StatusCode.{reason_phrase}
use Rattle.http_serving.specs.declared.end.End.{End}
use Rattle.http_serving.specs.declared.end.End.TheVariants.{BadFraming, OriginRefused, HeadTooLong, BodyTooLong}
use Rattle.http_serving.specs.declared.response.ExtraField.{ExtraField}
use Rattle.http_serving.specs.declared.response.ExtraField.TheVariants.{Allow, BatchStop}
use Rattle.http_serving.specs.declared.response.StopCause.TheVariants.{KeeperFault, Memory}
use Rattle.http_serving.specs.declared.response.Response.{Response}

-- the status 204 says that a response has no content (RFC 9110, section 15.3.5)
abbrev pub no_content : ℕ
no_content = 204

-- the reason phrase of a status; empty if it has none
unfoldable pub phrase_of : ℕ → List ℕ
phrase_of status = unwrap_or (reason_phrase status) []

-- the content of a response with this body
abbrev pub content_of : ℕ → List ℕ → List ℕ
content_of status body = if status == no_content then [] else body

-- the line of the content's media type; none without content
unfoldable pub type_line : List ℕ → List ℕ
type_line [] = []
type_line (b ∷ content) = codes "Content-Type: application/json\r\n"

-- the line of the content's length, which a response 204 does not have (RFC 9110, section 8.6)
unfoldable pub length_line : ℕ → List ℕ → List ℕ
length_line status content =
    if status == no_content then [] else (codes "Content-Length: " ++ (decimal (length content) ++ codes "\r\n"))

-- the line of the field that only some responses have
unfoldable pub extra_line : Option ExtraField → List ℕ
extra_line None = []
extra_line (Some (Allow methods)) = codes "Allow: " ++ (methods ++ codes "\r\n")
extra_line (Some (BatchStop KeeperFault)) = codes "Batch-Stop: fault\r\n"
extra_line (Some (BatchStop Memory)) = codes "Batch-Stop: memory\r\n"

-- the lines of a head, and what follows them
unfoldable pub joined_text : ℕ → List ℕ → List ℕ → List ℕ → List ℕ → List ℕ → List ℕ
joined_text status phrase type length extra content =
    codes "HTTP/1.1 " ++ (decimal status ++ (codes " " ++ (phrase ++ (codes "\r\n" ++ (type
    ++ (length ++ (extra ++ (codes "\r\n" ++ content))))))))

-- the method HEAD
unfoldable pub head_text : List ℕ
head_text = codes "HEAD"

-- the text of a response with these parts; the answer to HEAD has the same head and no content (RFC 9110, section 9.3.2)
abbrev pub text_with : Bool → ℕ → Option ExtraField → List ℕ → List ℕ
text_with to_head status extra body =
    let content = content_of status body in
    joined_text status (phrase_of status) (type_line content) (length_line status content) (extra_line extra)
    (if to_head then [] else content)

abbrev pub text_of : Bool → Response → List ℕ
text_of to_head response = text_with to_head response.status response.extra response.body

-- the status of the answer that is written before a connection ends because of what the peer sent
abbrev pub end_status : End → ℕ
end_status HeadTooLong = 431
end_status BodyTooLong = 413
end_status OriginRefused = 403
end_status _ = 400

-- the body of that answer: an error object whose code is the name of the end
unfoldable pub end_body : End → List ℕ
end_body HeadTooLong = codes "{\"code\":\"HeadTooLong\",\"number\":0,\"values\":[]}"
end_body BodyTooLong = codes "{\"code\":\"BodyTooLong\",\"number\":0,\"values\":[]}"
end_body BadFraming = codes "{\"code\":\"BadFraming\",\"number\":0,\"values\":[]}"
end_body OriginRefused = codes "{\"code\":\"OriginRefused\",\"number\":0,\"values\":[]}"
end_body _ = codes "{\"code\":\"BadHead\",\"number\":0,\"values\":[]}"

abbrev pub end_text : End → List ℕ
end_text end = text_with false (end_status end) None (end_body end)
