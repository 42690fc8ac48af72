pub mod SliceLemmas
pub mod IdLemmas
