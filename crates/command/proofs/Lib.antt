pub mod CommandLineLemmas
pub mod NamingLemmas
pub mod SessionWordsLemmas
pub mod ShardWordsLemmas
