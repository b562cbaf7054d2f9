pub mod DepthLemmas
pub mod DocumentsLemmas
pub mod FaultsLemmas
pub mod FramesLemmas
pub mod ListsLemmas
pub mod ToldsLemmas
