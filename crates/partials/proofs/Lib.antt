pub mod KeptLemmas
pub mod ListsLemmas
pub mod SumsLemmas
