pub mod Cabinets
pub mod Keepers
pub mod Opened
