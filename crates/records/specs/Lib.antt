pub mod Ends
pub mod Fields
pub mod Laws
pub mod Records
