-- Answers of calls and of reads as responses.
use Rattle.std.specs.Prelude.{Option, Some, None, Result, Ok, Err, codes}
use Rattle.bt_base.specs.declared.memory.NoMemory.{NoMemory}
use Rattle.bt_rows.specs.declared.reply.Reply.{Reply}
use Rattle.batch_desk.specs.declared.answer.Answer.{Answer}
use Rattle.batch_desk.specs.declared.answer.Answer.TheVariants.{Done, KeeperFault, JournalFull, Memory}
use Rattle.batch_desk.specs.declared.entry.Stop.{Stop}
use Rattle.batch_desk.specs.declared.entry.Stop.TheVariants.{Rest, KeeperFault as FaultStop, Memory as MemoryStop}
use Rattle.http_serving.specs.declared.response.ExtraField.{ExtraField}
use Rattle.http_serving.specs.declared.response.ExtraField.TheVariants.{BatchStop}
use Rattle.http_serving.specs.declared.response.StopCause.TheVariants.{KeeperFault as ByFault, Memory as ByMemory}
use Rattle.http_serving.specs.declared.response.Response.{Response}
use Rattle.http_requests.specs.Responses.{reply_status, reply_response, error_response}
use Rattle.wire_json.specs.Replies.{reply_json}

-- the field that says why due steps stopped, unless none applied
abbrev pub stop_field : Stop → Option ExtraField
stop_field Rest = None
stop_field FaultStop = Some (BatchStop ByFault)
stop_field MemoryStop = Some (BatchStop ByMemory)

-- a call was made: its reply, with that field
abbrev pub done_response : Reply → Stop → Response
done_response reply stop = record { status = reply_status reply; extra = stop_field stop; body = reply_json reply }

-- it was not saved, and left undone
unfoldable pub keeper_fault : Response
keeper_fault = error_response 500 (codes "KeeperFault")

-- the journal takes no more calls
unfoldable pub journal_full : Response
journal_full = error_response 503 (codes "JournalFull")

-- memory ran out before anything changed
unfoldable pub out_of_memory : Response
out_of_memory = error_response 503 (codes "Memory")

abbrev pub answer_response : Answer → Response
answer_response (Done reply dues stop) = done_response reply stop
answer_response KeeperFault = keeper_fault
answer_response JournalFull = journal_full
answer_response Memory = out_of_memory

abbrev pub look_response : Result Reply NoMemory → Response
look_response (Ok reply) = reply_response reply
look_response (Err memory) = out_of_memory
