pub mod Options
pub mod Ordered
pub mod Filtered
pub mod Tallies
