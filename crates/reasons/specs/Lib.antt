pub mod Books
pub mod Fields
pub mod Names
pub mod Records
