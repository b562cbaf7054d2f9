pub mod BooksLemmas
pub mod LinesLemmas
