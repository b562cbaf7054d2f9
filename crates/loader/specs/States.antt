-- Where a text of CSV stands, as a state of `csv`'s machine.
use Rattle.csv.specs.declared.parser.State as machine
use Rattle.csv.specs.declared.parser.State.TheVariants as st
use Rattle.loader.specs.declared.states.State.{State}
use Rattle.loader.specs.declared.states.State.TheVariants.{Between, FieldStart, InField, InQuotes, AfterQuote, AfterReturn}

-- the machine's state where the text stands so
abbrev pub machine_state : State → machine.State
machine_state Between = st.StartRecord
machine_state FieldStart = st.StartField
machine_state InField = st.InField
machine_state InQuotes = st.InQuoted
machine_state AfterQuote = st.AfterQuote
machine_state AfterReturn = st.AfterCr
