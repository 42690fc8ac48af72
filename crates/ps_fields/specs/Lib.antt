pub mod Durations
pub mod Fields
pub mod Kinds
pub mod Paths
pub mod Rows
pub mod Shapes
pub mod Timestamps
pub mod Unknown
