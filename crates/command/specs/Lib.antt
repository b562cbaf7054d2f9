pub mod CommandLine
pub mod Jobs
pub mod Naming
pub mod SessionWords
pub mod ShardWords
