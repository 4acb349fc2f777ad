-- A store in a file of SQL, and what others wait in for its writes, may go to another thread if the runtime may: so may each of their fields.
use denote.Param.Send.{IsSend, IsSync, sendable, struct_send, struct_sync, recorded_send, recorded_sync}
use denote.RattleType.{RattleType}
use denote.Struct.Declared.{shape}
use Rattle.std.proofs.Crossing.{crosses}
use Rattle.std.proofs.sync.Mutex.TheSendSync as mutex
use Rattle.std.specs.contracts.option.Option as Option
use Rattle.std.below.core.proofs.option.Option.TheSendSync as option
use Rattle.service_host.specs.contracts.reports.Reports as Reports
use Rattle.service_host.specs.contracts.reports.ServiceReports as ServiceReports
use Rattle.service_host.proofs.reports.Reports.TheSendSync as reports
use Rattle.sql_store.specs.contracts.store.SqlStore as SqlStore
use Rattle.sql_store.specs.contracts.sync.StoreSync as StoreSync
use Rattle.sql_store.proofs.Sends.{sync_send, sync_sync, store_send}
use Rattle.batch.specs.contracts.service.apart.Ending as Ending

-- what others wait in
pub host_sync_send : (R : RattleType) → IsSend R → IsSend (StoreSync.the_row (Reports.the_row R))
host_sync_send R r = sync_send (Reports.the_row R) (reports.the_send R r)

pub host_sync_sync : (R : RattleType) → IsSend R → IsSync (StoreSync.the_row (Reports.the_row R))
host_sync_sync R r = sync_sync (Reports.the_row R) (reports.the_send R r)

-- a store of the program
pub host_store_send : (R : RattleType) → IsSend R → IsSend (SqlStore.the_row R (Reports.the_row R))
host_store_send R r = store_send R (Reports.the_row R) r (reports.the_send R r)

-- what the listeners and the spawners of a service tell and wait for
pub service_reports_send : (R : RattleType) → IsSend R → IsSend (ServiceReports.the_row R)
service_reports_send R r = recorded_send (ServiceReports.the_field R).row _ _ (ServiceReports.the_type R).to_one (struct_send (shape (ServiceReports.the_type R)) (
  r,
  (search (host_sync_send, r, sendable, crosses) depth 20, tt),
))

pub service_reports_sync : (R : RattleType) → IsSend R → IsSync R → IsSync (ServiceReports.the_row R)
service_reports_sync R r y = recorded_sync (ServiceReports.the_field R).row _ _ (ServiceReports.the_type R).to_one (struct_sync (shape (ServiceReports.the_type R)) (
  y,
  (search (host_sync_sync, r, sendable, crosses) depth 20, tt),
))

-- what waits for the end of a service
pub ending_send : (R : RattleType) → IsSend R → IsSend (Ending.the_row R)
ending_send R r = recorded_send (Ending.the_field R).row _ _ (Ending.the_type R).to_one (struct_send (shape (Ending.the_type R)) (
  search (sendable, crosses) depth 20,
  (
    mutex.the_send (Option.the_row (StoreSync.the_row (Reports.the_row R))) (option.the_send (StoreSync.the_row (Reports.the_row R)) (host_sync_send R r)),
    (search (sendable, crosses) depth 20, tt),
  ),
))

pub ending_sync : (R : RattleType) → IsSend R → IsSync (Ending.the_row R)
ending_sync R r = recorded_sync (Ending.the_field R).row _ _ (Ending.the_type R).to_one (struct_sync (shape (Ending.the_type R)) (
  search (sendable, crosses) depth 20,
  (
    mutex.the_sync (Option.the_row (StoreSync.the_row (Reports.the_row R))) (option.the_send (StoreSync.the_row (Reports.the_row R)) (host_sync_send R r)),
    (search (sendable, crosses) depth 20, tt),
  ),
))
