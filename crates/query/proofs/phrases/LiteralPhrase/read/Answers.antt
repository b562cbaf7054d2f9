use Rattle.query.specs.Grammar.{SpellsLiteral}
use Rattle.query.specs.Phrases.{literal_at}
use Rattle.query.proofs.PhrasesLemmas.{computed, literal_computes}
use Rattle.query.proofs.phrases.LiteralPhrase.read.Goals as goal

pub returns-clause-reads : goal.returns-clause-reads
returns-clause-reads c = computed SpellsLiteral _ c.args.tokens.now (literal_at c.args.tokens.now) c.literal_at.result (literal_computes c.args.tokens.now) c.literal_at.ensures.exact
