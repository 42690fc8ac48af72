pub mod DurationLemmas
pub mod FieldLemmas
pub mod KindLemmas
pub mod ShapeLemmas
