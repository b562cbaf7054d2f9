pub mod Asking
pub mod Options
pub mod Proposals
pub mod Questions
