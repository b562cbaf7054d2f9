mod CsvLemmas
mod CsvRowsLemmas
mod FillingLemmas
mod IntegersLemmas
mod JsonLemmas
mod JsonStringsLemmas
mod TextsLemmas
mod ValuesLemmas
