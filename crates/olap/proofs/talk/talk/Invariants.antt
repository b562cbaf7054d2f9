-- the lines that were heard are answered
use Rattle.std.specs.Io.Buffered.{writer_contents}
use Rattle.olap.proofs.TalksLemmas.{GoesOnTalking}
use Rattle.olap.proofs.talk.talk.Given as goal

abbrev pub invariant-loop : goal.invariant-loop
invariant-loop g l = GoesOnTalking g.H.KeyHash-1.hash_of l.fn.on_refusal l.fn.session l.session (g.B.Read.remaining l.fn.hearing.reader) (g.B.Read.remaining l.hearing.reader)
    (writer_contents g.W.Write.contents l.fn.replies.writer) (writer_contents g.W.Write.contents l.replies.writer) l.replies.faults
