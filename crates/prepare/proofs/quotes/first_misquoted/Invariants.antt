use Rattle.std.proofs.Common.{take}
use Rattle.prepare.proofs.QuotesLemmas.{Stands}
use Rattle.prepare.proofs.quotes.first_misquoted.Given as goal

abbrev pub invariant-loop-place : goal.invariant-loop-place
invariant-loop-place l = Stands l.delimiter (take l.place l.text) l.standing
