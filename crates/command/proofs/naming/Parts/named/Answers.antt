use Rattle.command.proofs.NamingLemmas.{named_more}
use Rattle.command.proofs.naming.Parts.named.Goals as goal

pub loop-word-preserved : goal.loop-word-preserved
loop-word-preserved c = named_more c.args.files.items c.args.words.now c.loop-word.word-index c.word-item.result c.as_str.result.now c.loop-word.parts c.take.new.self
    c.loop-word.invariant c.loop-word-test.true c.word-item.is c.as_str.ensures c.in_ok-take.ensures.ok
