pub mod Numbers
pub mod Subscriptions
pub mod Members
pub mod Pages
pub mod TableEdits
pub mod Releasing
pub mod Entering
pub mod Sameness
