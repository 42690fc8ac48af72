pub mod Tokens
pub mod Filters
pub mod Grammar
pub mod GrammarLaws
pub mod Kept
pub mod Readings
