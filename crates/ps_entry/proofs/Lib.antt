pub mod FieldForms
pub mod CommandForms
pub mod EntryForms
