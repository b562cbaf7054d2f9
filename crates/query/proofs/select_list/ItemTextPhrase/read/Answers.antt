use Rattle.std.proofs.Common.{ap, arith, length}
use Rattle.std.proofs.lemmas.Result.{err_from_is_err_and}
use Rattle.query.specs.Grammar.{SpellsItem}
use Rattle.query.specs.Phrases.{item_at}
use Rattle.query.proofs.ItemsLemmas.{item_grouping}
use Rattle.query.proofs.Lists.{turn_err, turn_found}
use Rattle.query.proofs.PhrasesLemmas.{computed, item_computes}
use Rattle.query.proofs.select_list.ItemTextPhrase.read.Goals as goal

pub returns-in-Some-clause-reads : goal.returns-in-Some-clause-reads
returns-in-Some-clause-reads c = rw c.new.ensures (turn_found (item_grouping c.args.tokens.now c.in-Some.more.now c.in-Some.ensures) c.in_ok-names.ensures.reads)

pub returns-clause-reads : goal.returns-clause-reads
returns-clause-reads c = computed SpellsItem _ c.args.tokens.now (item_at c.args.tokens.now) c.item_at.result (item_computes c.args.tokens.now c.in_default.ensures) c.item_at.ensures.exact

pub returns-in-Some-clause-shorter : goal.returns-in-Some-clause-shorter
returns-in-Some-clause-shorter c = omega (arith, ap length c.in-Some.ensures, c.in_ok-names.ensures.shorter)

pub returns-clause-shorter : goal.returns-clause-shorter
returns-clause-shorter c = c.item_at.ensures.shorter

pub returns-in_err-names-clause-reads : goal.returns-in_err-names-clause-reads
returns-in_err-names-clause-reads c =
    let p = err_from_is_err_and c.from_residual.result c.from_residual.ensures.1 in
    rw (p.1, p.2) (turn_err (item_grouping c.args.tokens.now c.in-Some.more.now c.in-Some.ensures) c.in_err-names.ensures.reads)
