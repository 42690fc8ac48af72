pub mod PathLogLemmas
pub mod Texts
pub mod PieceLemmas
pub mod LinkLemmas
pub mod NetLemmas
