-- Workers over TCP that can begin.
use Rattle.std.specs.Prelude.{List, All}
use Rattle.batch_serve.specs.declared.worker.Worker.{Worker}
use Rattle.batch_serve.specs.declared.worker.WorkerKind.{WorkerKind}
use Rattle.batch_serve.specs.Works.{IsReady}
use Rattle.tcp_links.specs.Doors.{TcpDoor}

-- the worker has what it needs: a door its clock, and a listener of which no link is out
abbrev pub IsHostReady : {S P C L : Type 0} → WorkerKind S P TcpDoor C L → Type 0
IsHostReady kind = IsReady (λ (l : TcpDoor). l.is_out) kind

-- each of the workers has
abbrev pub AreReady : {S P C L : Type 0} → List (Worker (WorkerKind S P TcpDoor C L)) → Type 0
AreReady {S} {P} {C} {L} workers = All (λ (w : Worker (WorkerKind S P TcpDoor C L)). IsHostReady w.kind) workers
