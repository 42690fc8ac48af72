pub mod Order
pub mod Paging
