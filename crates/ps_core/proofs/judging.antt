pub mod Reading
pub mod Settled
pub mod Changed
pub mod Rests
pub mod Refused
pub mod Judged
