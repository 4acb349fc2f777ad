mod Closed
mod Exchanging
mod Opened
mod Turning
