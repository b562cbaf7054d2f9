pub mod Lines
pub mod Listed
pub mod Parts
pub mod Proposals
pub mod Quotes
pub mod Words
