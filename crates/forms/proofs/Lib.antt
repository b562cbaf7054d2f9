mod LinesLemmas
mod SpeltLemmas
mod WidthsLemmas
