use Rattle.std.proofs.Common.{◌≡◌, get_or, true}
use Rattle.std.proofs.lemmas.List.{get_or_default}
use Rattle.columns.specs.Columns.{has}
use Rattle.groups.specs.Groups.{cell_at}
use Rattle.groups.specs.Numbered.{no_row}
use Rattle.groups.proofs.TakenLemmas.{map_all, map_taken}
use Rattle.groups.proofs.TuplesLemmas.{all_at}
use Rattle.groups.proofs.asking.put_tuple.Goals as goal

pub cell_of_row-requires-clause-row : goal.cell_of_row-requires-clause-row
cell_of_row-requires-clause-row c = c.requires.row

pub cell_of_row-requires-clause-there : goal.cell_of_row-requires-clause-there
cell_of_row-requires-clause-there c = all_at (λ index. has c.args.columns.now index ≡ true) c.args.named.now c.loop-index.index-index 0 c.requires.there c.loop-index-test.true

pub loop-index-init : goal.loop-index-init
loop-index-init c = λ all held. c.clear.ensures.items

pub loop-index-preserved : goal.loop-index-preserved
loop-index-preserved c = λ all held.
    let named = c.args.named.now in
    let i = c.loop-index.index-index in
    map_taken (λ index. cell_at index (get_or all c.args.place no_row)) named i (get_or named i 0) c.loop-index-test.true
    (get_or_default named i 0 (get_or named i 0) c.loop-index-test.true) c.loop-index.tuple.items c.push.new.self.items c.in_ok-cell.cell
    (c.loop-index.invariant all held) (c.in_ok-cell.ensures all held) c.in_ok-push.ensures.items

pub returns : goal.returns
returns c = λ all held.
    map_all (λ index. cell_at index (get_or all c.args.place no_row)) c.args.named.now c.loop-index.index-index c.loop-index.tuple.items
    c.loop-index-test.false (c.loop-index.invariant all held)
