use Rattle.std.proofs.Common.{◌++◌, ◌∷◌, ◌∙◌, [], ap}
use Rattle.command.specs.Naming.{resolved_word, resolved_words}
use Rattle.command.proofs.NamingLemmas.{pieces_more}
use Rattle.command.proofs.naming.push_words.Goals as goal

pub loop-word-preserved : goal.loop-word-preserved
loop-word-preserved c = pieces_more 32 (resolved_word c.args.names.now) (c.args.text.now.items ++ resolved_words c.args.names.now c.args.words.now)
    c.loop-word.text.items c.push.new.self.items c.loop-word.left.now c.loop-word.invariant c.in-Some.word.now c.in-Some.later.now c.in-Some.ensures.split
    (c.in_ok-push.ensures.items ∙ ap (λ text. text ++ 32 ∷ []) c.in_ok-push_word.ensures)
