pub mod Bytes
pub mod Calls
pub mod EndLemmas
pub mod LedLemmas
pub mod PassLemmas
pub mod PortLemmas
pub mod Steps
pub mod TurnLemmas
