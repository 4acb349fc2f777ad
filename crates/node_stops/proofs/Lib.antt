pub mod LeaveMade
