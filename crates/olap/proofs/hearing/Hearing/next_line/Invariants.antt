-- so much was heard of the line so far
use Rattle.olap.proofs.HearingLemmas.{Listens}
use Rattle.olap.proofs.hearing.Hearing.next_line.Given as goal

abbrev pub invariant-loop : goal.invariant-loop
invariant-loop g l = Listens (g.B.Read.remaining l.fn.self.reader) (g.B.Read.remaining l.self.reader) l.self.line.items
