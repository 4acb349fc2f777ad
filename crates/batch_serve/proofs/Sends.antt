-- Workers may go to other threads, if what they have may.
use denote.RattleType.{RattleType}
use denote.Param.Send.{IsSend, sendable}
use Rattle.std.proofs.Crossing.{crosses}
use Rattle.batch_serve.specs.contracts.worker.Lane as lane
use Rattle.batch_serve.specs.contracts.worker.Timer as timer
use Rattle.batch_serve.specs.contracts.worker.Door as door
use Rattle.batch_serve.specs.contracts.worker.WorkerKind as kind

pub lane_send : (S C : RattleType) → IsSend S → IsSend C → IsSend (lane.the_row S C)
lane_send S C s c = search (sendable, crosses) depth 40

pub timer_send : (P C : RattleType) → IsSend P → IsSend C → IsSend (timer.the_row P C)
timer_send P C p c = search (sendable, crosses) depth 40

pub door_send : (N C L : RattleType) → IsSend N → IsSend C → IsSend L → IsSend (door.the_row N C L)
door_send N C L n c l = search (sendable, crosses) depth 40

pub kind_send : (S P N C L : RattleType) → IsSend S → IsSend P → IsSend N → IsSend C → IsSend L → IsSend (kind.the_row S P N C L)
kind_send S P N C L s p n c l = let a = lane_send S C s c in let b = timer_send P C p c in let d = door_send N C L n c l in search (sendable, crosses) depth 40
