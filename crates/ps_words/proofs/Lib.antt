pub mod FoundLemmas
pub mod PlainLemmas
pub mod ServeExamples
pub mod TakesLemmas
pub mod WordLemmas
