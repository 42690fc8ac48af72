pub mod Sorting
pub mod Fronts
pub mod Listed
pub mod Topics
pub mod Subscriptions
