pub mod World
pub mod Had
pub mod Steady
pub mod Moving
pub mod Published
