use Rattle.http_serving.proofs.Exchanging.{steps, breaks_off}
use Rattle.http_serving.proofs.Nearing.{few_left}
use Rattle.http_serving.proofs.exchange.serve_one.Goals as goal

pub returns-in-Ok-answer_message-clause-served : goal.returns-in-Ok-answer_message-clause-served
returns-in-Ok-answer_message-clause-served g c =
    let answers = g.S.Service.answers in
    let same = c.deref.ensures.value in
    let answered = rw same at c.in-Ok-answer_message.ensures.answered in
    steps answers _ _ _ _ c.drop_front.new.buffer.items c.in-Ok.ensures.found c.in-Ok-answer_message.ensures.same_left c.in-Ok.ensures.same_taken answered c.drop_front.ensures

pub returns-in-Err-answer_message-clause-served : goal.returns-in-Err-answer_message-clause-served
returns-in-Err-answer_message-clause-served g c =
    let answers = g.S.Service.answers in
    let same = c.deref.ensures.value in
    let broken = rw same at c.in-Err-answer_message.ensures.answered in
    breaks_off answers _ _ _ _ c.in-Ok.ensures.found c.in-Err-answer_message.ensures.same_left c.in-Ok.ensures.same_taken broken

pub returns-in-Ok-answer_message-clause-few : goal.returns-in-Ok-answer_message-clause-few
returns-in-Ok-answer_message-clause-few g c =
    few_left _ _ _ c.in-Ok.ensures.few c.in-Ok.ensures.found.is_message.whole c.drop_front.ensures
