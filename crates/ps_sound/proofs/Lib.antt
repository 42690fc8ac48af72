pub mod worlds
pub mod phases
pub mod commands
pub mod histories
pub mod replies
pub mod living
