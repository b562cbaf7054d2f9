pub mod Answers
pub mod Documents
pub mod Frames
