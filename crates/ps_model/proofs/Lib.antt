pub mod SameLemmas
pub mod InTurn
pub mod EmptyPull
pub mod NormalForms
pub mod FormSteps
pub mod FormLemmas
pub mod FormProofs
