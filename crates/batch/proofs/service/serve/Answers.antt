use denote.Param.Send.{sendable}
use Rattle.std.proofs.Crossing.{crosses}
use Rattle.batch.proofs.service.ServeCommand.TheSendSync as command
use Rattle.batch.proofs.Sends.{ending_send, ending_sync}
use Rattle.batch.proofs.service.serve.Goals as goal

pub spawn-service-requires-send-F : goal.spawn-service-requires-send-F
spawn-service-requires-send-F g c κs within = search (sendable, crosses, command.the_send, ending_send, ending_sync) depth 30
