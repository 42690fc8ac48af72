pub mod lists
pub mod numbers
pub mod names
pub mod publishing
pub mod letting_go
pub mod comparing
