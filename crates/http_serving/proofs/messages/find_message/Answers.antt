use Rattle.http_serving.proofs.Bodies.{body_small, stops_framing, stops_origin, stops_long_body, result_more}
use Rattle.http_serving.proofs.messages.find_message.Goals as goal

pub returns-then-head-clause-found : goal.returns-then-head-clause-found
returns-then-head-clause-found g c = stops_origin c.in-Ok.ensures.found c.if-head.true c.end_of_origin.ensures

pub find_body-requires-clause-small : goal.find_body-requires-clause-small
find_body-requires-clause-small g c = body_small _ c.in-Body.size c.in-Ok.ensures.found.is_head c.in-Body.is

pub returns-in-Bad-clause-found : goal.returns-in-Bad-clause-found
returns-in-Bad-clause-found g c = stops_framing c.in-Ok.ensures.found c.in-Bad.is

pub returns-in-TooLong-clause-found : goal.returns-in-TooLong-clause-found
returns-in-TooLong-clause-found g c = stops_long_body c.in-Ok.ensures.found c.in-TooLong.is c.if-head.false

pub returns-in-Body-clause-found : goal.returns-in-Body-clause-found
returns-in-Body-clause-found g c = result_more _ _ c.find_body.result c.in-Ok.ensures.found.grows c.find_body.ensures.found
