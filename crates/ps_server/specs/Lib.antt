pub mod Asking
pub mod Ports
pub mod Service
pub mod Serving
pub mod Turns
