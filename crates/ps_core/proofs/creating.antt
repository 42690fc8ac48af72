pub mod Settings
pub mod Pushed
pub mod Steady
pub mod Topics
pub mod Subscriptions
pub mod Kept
