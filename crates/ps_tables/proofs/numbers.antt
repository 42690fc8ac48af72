pub mod Numbered
pub mod Changes
