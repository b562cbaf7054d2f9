pub mod NumberingLemmas
pub mod OptionsLemmas
pub mod ProposalsLemmas
pub mod QuestionsLemmas
