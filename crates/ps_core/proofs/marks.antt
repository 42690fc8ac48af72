pub mod Flat
pub mod Entering
pub mod OnePlace
