pub mod Books
pub mod Bytes
pub mod Cause
pub mod Fault
pub mod Holding
pub mod Journaled
pub mod Meaning
pub mod Read
