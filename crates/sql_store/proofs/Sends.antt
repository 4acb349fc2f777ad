-- What others wait in for the writes of a store in a file may go to another thread, and be shared by threads, if the monitor may go there.
use denote.Param.Send.{IsSend, IsSync, sendable, view_send, struct_send, struct_sync, recorded_send, recorded_sync}
use denote.RattleType.{RattleType}
use denote.Struct.Declared.{shape}
use Rattle.std.proofs.Crossing.{crosses, Arc-send, Arc-sync}
use Rattle.std.proofs.sync.Mutex.TheSendSync as mutex
use Rattle.sql_store.specs.contracts.monitor.Watch as Watch
use Rattle.sql_store.specs.contracts.queue.Queue as Queue
use Rattle.sql_store.specs.contracts.store.SqlStore as SqlStore
use Rattle.sql_store.specs.contracts.store.SqlStore.TheInside as inside
use Rattle.sql_store.specs.contracts.sync.Shared as Shared
use Rattle.sql_store.specs.contracts.sync.StoreSync as StoreSync
use Rattle.sql_store.proofs.health.StoreHealth.TheSendSync as health
use Rattle.sql_file.proofs.Sends.{file_send}
use Rattle.sql_file.proofs.reading.ReadFault.TheSendSync as read_fault
use Rattle.keeper_store.proofs.edit.Edit.TheSendSync as edit

-- a monitor and what it was told
watch_send : (M : RattleType) → IsSend M → IsSend (Watch.the_field M).row
watch_send M m = struct_send (shape (Watch.the_type M)) (
  m,
  (search (sendable, crosses) depth 20, (search (sendable, crosses) depth 20, tt)),
)

-- writes that are not in the file yet
queue_send : (M : RattleType) → IsSend M → IsSend (Queue.the_row M)
queue_send M m = recorded_send (Queue.the_field M).row _ _ (Queue.the_type M).to_one (struct_send (shape (Queue.the_type M)) (
  search (file_send, sendable, crosses) depth 20,
  (
    search sendable,
    (
      search (edit.the_send, sendable, crosses) depth 20,
      (
        search (edit.the_send, sendable, crosses) depth 20,
        (
          search sendable,
          (search sendable, (search sendable, (search sendable, (search (sendable, crosses) depth 20, (watch_send M m, tt))))),
        ),
      ),
    ),
  ),
))

shared_send : (M : RattleType) → IsSend M → IsSend (Shared.the_row M)
shared_send M m = recorded_send (Shared.the_field M).row _ _ (Shared.the_type M).to_one (struct_send (shape (Shared.the_type M)) (
  mutex.the_send (Queue.the_row M) (queue_send M m),
  (search (sendable, crosses) depth 20, tt),
))

shared_sync : (M : RattleType) → IsSend M → IsSync (Shared.the_row M)
shared_sync M m = recorded_sync (Shared.the_field M).row _ _ (Shared.the_type M).to_one (struct_sync (shape (Shared.the_type M)) (
  mutex.the_sync (Queue.the_row M) (queue_send M m),
  (search (sendable, crosses) depth 20, tt),
))

-- a share of them
sync_field_send : (M : RattleType) → IsSend M → IsSend (StoreSync.the_field M).row
sync_field_send M m = struct_send (shape (StoreSync.the_type M)) (Arc-send (Shared.the_row M) (shared_send M m) (shared_sync M m), tt)

pub sync_send : (M : RattleType) → IsSend M → IsSend (StoreSync.the_row M)
sync_send M m = recorded_send (StoreSync.the_field M).row _ _ (StoreSync.the_type M).to_one (sync_field_send M m)

pub sync_sync : (M : RattleType) → IsSend M → IsSync (StoreSync.the_row M)
sync_sync M m = recorded_sync (StoreSync.the_field M).row _ _ (StoreSync.the_type M).to_one (struct_sync (shape (StoreSync.the_type M)) (
  Arc-sync (Shared.the_row M) (shared_send M m) (shared_sync M m),
  tt,
))

-- the fields of a store
inside_send : (R M : RattleType) → IsSend R → IsSend M → IsSend (inside.the_row R M)
inside_send R M r m = recorded_send (inside.the_field R M).row _ _ (inside.the_type R M).to_one (struct_send (shape (inside.the_type R M)) (
  r,
  (
    sync_field_send M m,
    (health.the_field_send, (search sendable, (search sendable, (search (read_fault.the_send, sendable, crosses), tt)))),
  ),
))

-- a store with a monitor
pub store_send : (R M : RattleType) → IsSend R → IsSend M → IsSend (SqlStore.the_row R M)
store_send R M r m = view_send (inside.the_row R M) _ _ _ _ (inside_send R M r m)
