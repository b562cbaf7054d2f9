use Rattle.std.proofs.Common.{◌≡◌, rules}
use Rattle.prepare.specs.Words.{word_of}
use Rattle.prepare.proofs.WordsLemmas.{word_other}
use Rattle.prepare.proofs.words.word_text.Goals as goal

pub returns : goal.returns
returns c =
    let same : c.in_ok-word.word.items ≡ word_of c.args.name.now = search rules in
    absurd (word_other c.in_ok-word.word.items c.args.name.now same (rw (← c.as_slice.ensures.value) (c.in-Err.ensures.cases.0)))
