pub mod Writing
pub mod Sessions
pub mod Proxies
