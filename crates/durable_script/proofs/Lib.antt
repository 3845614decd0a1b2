pub mod Naming
pub mod SchedulerChanges
pub mod Following
pub mod Leaving
pub mod Printing
pub mod EntriesShown
pub mod Showing
pub mod States
pub mod Dues
pub mod Doing
pub mod Turning
mod Lasting
