pub mod Living
pub mod Outcomes
pub mod Kept
pub mod Recorded
