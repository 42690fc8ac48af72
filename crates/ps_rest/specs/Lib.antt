pub mod Answers
pub mod Bodies
pub mod Calls
pub mod Routes
pub mod Targets
