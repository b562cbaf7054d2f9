pub mod DifferingLemmas
pub mod NeededLemmas
