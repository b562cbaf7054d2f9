pub mod ColumnsLemmas
pub mod HoldLemmas
pub mod WithLemmas
