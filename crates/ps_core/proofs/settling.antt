pub mod Settings
pub mod Passes
pub mod CaughtUp
pub mod Expunging
pub mod Ending
pub mod Moving
pub mod Loop
pub mod Due
