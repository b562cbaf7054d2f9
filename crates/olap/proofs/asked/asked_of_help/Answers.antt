use Rattle.olap.proofs.CommandsLemmas.{helps_other}
use Rattle.olap.proofs.asked.asked_of_help.Goals as goal

pub returns-in-Some : goal.returns-in-Some
returns-in-Some c =
    let no = c.in_default-as_str in
    helps_other c.args.words.now c.word-item.result c.as_str.result.now c.in-len1.len_at_least c.in-len1.len_below c.word-item.is c.as_str.ensures.value no.not-run no.not-live no.not-help

pub returns-in-None : goal.returns-in-None
returns-in-None c =
    let no = c.in_default-as_str in
    helps_other c.args.words.now c.word-item.result c.as_str.result.now c.in-len1.len_at_least c.in-len1.len_below c.word-item.is c.as_str.ensures.value no.not-run no.not-live no.not-help
