use denote.Param.Send.{sendable, param_send, arg_send}
use Rattle.std.proofs.Crossing.{crosses}
use Rattle.child_programs.proofs.spawner.ProgramSpawner.TheSendSync as spawner
use Rattle.tcp_links.proofs.link.TcpLink.TheSendSync as link
use Rattle.tcp_links.proofs.listener.TcpListener.TheSendSync as listener
use Rattle.std.proofs.net.tcp.TcpListener.TheSendSync as socket
use Rattle.batch.proofs.Sends.{service_reports_send, service_reports_sync}
use Rattle.batch.proofs.service.serving.serve_with.Goals as goal

pub serve_words-status-requires-send-S : goal.serve_words-status-requires-send-S
serve_words-status-requires-send-S g c κs within = search (param_send, arg_send, spawner.the_send, service_reports_send, sendable, crosses) depth 20

pub serve_words-status-requires-send-N : goal.serve_words-status-requires-send-N
serve_words-status-requires-send-N g c κs within = search (param_send, arg_send, listener.the_send, socket.the_send, service_reports_send, service_reports_sync, sendable, crosses) depth 20

pub serve_words-status-requires-send-N-Link : goal.serve_words-status-requires-send-N-Link
serve_words-status-requires-send-N-Link g c κs within = search (param_send, arg_send, link.the_send, service_reports_send, service_reports_sync, sendable, crosses) depth 20
