use denote.Param.Send.{sendable, param_send, arg_send}
use Rattle.std.proofs.Crossing.{crosses}
use Rattle.sql_store.proofs.Sends.{sync_send}
use Rattle.store_tests.proofs.sql_files.Counting.TheSendSync as counting
use Rattle.store_tests.proofs.sql_sync_tests.waited_in_threads.Goals as goal

pub spawn-spawned-requires-send-F : goal.spawn-spawned-requires-send-F
spawn-spawned-requires-send-F g c κs within = search (param_send, arg_send, sync_send, counting.the_send, sendable, crosses) depth 30
