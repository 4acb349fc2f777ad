mod Askers
mod Journals
mod Loops
mod Numbers
mod Outcomes
mod Promises
mod Sends
mod Statuses
