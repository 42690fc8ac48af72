pub mod Commands
pub mod Numbers
pub mod Reading
pub mod Service
pub mod Serving
pub mod Words
