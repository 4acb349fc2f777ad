mod Roles
mod Sends
