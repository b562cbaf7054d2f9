pub mod AccsLemmas
pub mod GatheredLemmas
pub mod OneRowLemmas
