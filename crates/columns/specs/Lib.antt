pub mod Columns
pub mod Crossing
pub mod Coding
pub mod Beside
pub mod Sharing
