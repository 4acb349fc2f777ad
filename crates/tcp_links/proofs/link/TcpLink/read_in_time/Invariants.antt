use Rattle.std.proofs.Common.{◌≡◌}
use Rattle.tcp_links.proofs.link.TcpLink.read_in_time.Given as goal

abbrev pub invariant-loop : goal.invariant-loop
invariant-loop g l = l.self ≡ l.fn.self
