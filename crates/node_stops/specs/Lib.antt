pub mod LeaveChanges
