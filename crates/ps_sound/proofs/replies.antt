pub mod Calls
pub mod Published
pub mod MarkRows
pub mod Received
pub mod Acknowledging
pub mod Modifying
