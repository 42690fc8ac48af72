pub mod AckTexts
