-- A file that is open as a store may go to another thread: so may each of its fields.
use denote.Param.Send.{IsSend, sendable, struct_send, recorded_send}
use denote.Struct.Declared.{shape}
use Rattle.std.proofs.Crossing.{crosses}
use Rattle.sql_file.specs.contracts.file.SqlFile as SqlFile
use Rattle.sql_file.proofs.statements.Statements.TheSendSync as statements
use Rattle.sqlite.proofs.connection.Connection.TheSendSync as connection
use Rattle.sqlite.below.sqlite_store.proofs.store.FileStore.TheSendSync as file_store
use Rattle.sqlite.below.sqlite_std_file.specs.contracts.host.Host as Host
use Rattle.sqlite_disk.proofs.modelled.Modelled.TheSendSync as modelled

-- an open file of the system
host_send : IsSend Host.the_row
host_send = search (sendable, crosses) depth 30

file_field_send : IsSend SqlFile.the_field.row
file_field_send = struct_send (shape SqlFile.the_type) (
  search (connection.the_send, file_store.the_send, modelled.the_send, host_send),
  (statements.the_field_send, (search sendable, (search sendable, tt))),
)

pub file_send : IsSend SqlFile.the_row
file_send = recorded_send SqlFile.the_field.row _ _ SqlFile.the_type.to_one file_field_send
