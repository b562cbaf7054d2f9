use Rattle.std.proofs.Common.{◌<◌, List, arith, get_or, rules}
use Rattle.std.proofs.lemmas.List.{length-map}
use Rattle.groups.specs.Differing.{lists_of}
use Rattle.groups.specs.Parting.{no_part}
use Rattle.groups.specs.declared.parting.Part.{Part}
use Rattle.groups.proofs.DifferingLemmas.{listed_all, listed_next, listed_none}
use Rattle.groups.proofs.TuplesLemmas.{all_at}
use Rattle.groups.proofs.differing.cells_by_group.Goals as goal

pub loop-part-init : goal.loop-part-init
loop-part-init c = listed_none c.args.count _ c.in_ok-lists.ensures

pub index_mut-requires : goal.index_mut-requires
index_mut-requires c =
    let parts : List Part = c.args.parts.now in
    let below : (get_or parts c.loop-part.part-index no_part).group < c.args.count =
    all_at (λ (p : Part). p.group < c.args.count) parts c.loop-part.part-index no_part c.requires c.loop-part-test.true in
    omega (arith, below, c.loop-part.invariant.counted, length-map c.loop-part.lists.items (λ list. list.items), c.loop-part.lists.ok.0)

pub loop-part-preserved : goal.loop-part-preserved
loop-part-preserved c =
    listed_next c.args.count c.args.parts.now c.args.column.now.cells c.loop-part.lists.items c.loop-part.part-index c.in_ok-cell.cell c.index_mut.result.now c.push.new.self c.requires c.loop-part-test.true
    (search rules) c.index_mut.ensures.value c.in_ok-push.ensures.items c.loop-part.invariant

pub returns : goal.returns
returns c =
    listed_all c.args.count c.args.parts.now c.args.column.now.cells (lists_of c.loop-part.lists.items) c.loop-part.part-index (omega (arith, c.loop-part-test.false, c.loop-part.auto.part-index-end)) c.loop-part.invariant
