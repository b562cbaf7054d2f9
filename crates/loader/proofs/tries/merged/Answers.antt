use Rattle.std.proofs.lemmas.Result.{IfOk-weaker}
use Rattle.cells.specs.CellOrder.{cell_cmp}
use Rattle.trie.specs.Digits.{digit_order}
use Rattle.loader.proofs.TriesLemmas.{merged_over}
use Rattle.loader.proofs.tries.merged.Goals as goal

pub returns : goal.returns
returns g c =
    IfOk-weaker c.merge.result _ _
    (λ both is. merged_over c.later_puts_lie_over.ensures.stands (digit_order g.H.KeyHash.hash_of cell_cmp)
    c.entries_are_a_map.ensures.value c.args.first c.args.second both is)
    c.merge.ensures.map
