pub mod GrammarLemmas
pub mod PartLemmas
pub mod NameLemmas
