pub mod CsvReading
pub mod Filling
pub mod JsonReading
pub mod ValueReading
