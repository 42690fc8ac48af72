pub mod Limits
pub mod Lists
pub mod Messages
pub mod Faults
