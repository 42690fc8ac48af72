pub mod Rows
pub mod Entering
pub mod Numbers
pub mod Keeping
pub mod Holders
pub mod Members
pub mod Tables
