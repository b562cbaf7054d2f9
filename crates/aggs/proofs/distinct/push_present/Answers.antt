use Rattle.std.proofs.Common.{ap, sym, ◌∙◌}
use Rattle.std.specs.Map.{keys_of}
use Rattle.aggs.proofs.DifferingLemmas.{null_behind, one_behind}
use Rattle.aggs.proofs.distinct.push_present.Goals as goal

pub returns-then-is_null : goal.returns-then-is_null
returns-then-is_null c = null_behind (keys_of c.args.pairs.now.items) c.args.cell (sym c.is_null.ensures ∙ c.if-is_null.true)

pub returns : goal.returns
returns c = ap keys_of c.in_ok-push.ensures.items ∙ one_behind c.args.pairs.now.items c.args.cell (sym c.is_null.ensures ∙ c.if-is_null.false)
