pub mod PublishLemmas
pub mod SizeLemmas
