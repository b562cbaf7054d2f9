use Rattle.query.specs.Grammar.{SpellsName}
use Rattle.query.specs.Phrases.{name_at}
use Rattle.query.proofs.PhrasesLemmas.{computed, name_computes}
use Rattle.query.proofs.phrases.TextPhrase.read.Goals as goal

pub returns-clause-reads : goal.returns-clause-reads
returns-clause-reads c = computed SpellsName _ c.args.tokens.now (name_at c.args.tokens.now) c.name_at.result (name_computes c.args.tokens.now) c.name_at.ensures.exact
