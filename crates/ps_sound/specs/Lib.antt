pub mod Histories
pub mod Recorded
pub mod Told
pub mod Living
