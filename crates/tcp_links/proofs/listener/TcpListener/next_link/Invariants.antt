use Rattle.std.proofs.Common.{◌≡◌, ◌≤◌}
use Rattle.tcp_links.proofs.listener.TcpListener.next_link.Given as goal

abbrev pub invariant-loop : goal.invariant-loop
invariant-loop g l =
    (l.fn.self.faults ≤ l.self.faults)
    × (l.self.is_out ≡ l.fn.self.is_out)
    × (l.self.has_ended ≡ l.fn.self.has_ended)
