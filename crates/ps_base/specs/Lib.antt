pub mod Moments
pub mod Reasons
pub mod Refusals
pub mod Keys
