use denote.Param.Send.{param_send, arg_send}
use Rattle.store_keeper.proofs.keeper.StoreKeeper.TheSendSync as keeper
use Rattle.batch.proofs.Sends.{host_store_send}
use Rattle.batch.proofs.service.serving.serve_in_store.Goals as goal

pub serve_prepared-status-requires-send-K : goal.serve_prepared-status-requires-send-K
serve_prepared-status-requires-send-K g c κs within = search (param_send, arg_send, keeper.the_send, host_store_send)
