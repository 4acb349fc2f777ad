-- What contracts see of a listener over TCP.
use Rattle.std.specs.Prelude.{ℕ, Bool}

-- how often it failed, whether a link is out, and whether it has answered that it has ended
pub record TcpDoor : Type 0 where
  pub faults : ℕ
  pub is_out : Bool
  pub has_ended : Bool
