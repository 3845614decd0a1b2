pub mod HostRows
