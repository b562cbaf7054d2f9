use Rattle.std.proofs.Common.{◌≡◌, ◌+◌, ◌<◌, subst, sym, arith}
use Rattle.cells.specs.Packing.{IsLeft, cells_in}
use Rattle.cells.proofs.PackingLemmas.{left_all, left_first, left_next}
use Rattle.cells.proofs.packing.behind.Goals as goal

pub loop-i-init : goal.loop-i-init
loop-i-init c = left_all c.args.count c.args.bytes.now c.requires.fills

pub behind_first-rest-requires : goal.behind_first-rest-requires
behind_first-rest-requires c =
    let inside : c.loop-i._i < c.args.count = let few = c.requires.few in let test = c.loop-i-test.true in omega arith in
    left_first c.args.count c.loop-i._i (cells_in c.args.count c.args.bytes.now) c.loop-i.rest.now inside c.loop-i.invariant

pub loop-i-preserved : goal.loop-i-preserved
loop-i-preserved c =
    let inside : c.loop-i._i < c.args.count = let few = c.requires.few in let test = c.loop-i-test.true in omega arith in
    subst (IsLeft c.args.count (c.loop-i._i + 1) (cells_in c.args.count c.args.bytes.now)) (sym c.behind_first-rest.ensures)
    (left_next c.args.count c.loop-i._i (cells_in c.args.count c.args.bytes.now) c.loop-i.rest.now inside c.loop-i.invariant)

pub returns : goal.returns
returns c =
    let place : c.loop-i._i ≡ c.args.first = let end = c.loop-i.auto._i-end in let test = c.loop-i-test.false in omega arith in
    subst (λ i. IsLeft c.args.count i (cells_in c.args.count c.args.bytes.now) c.loop-i.rest.now) place c.loop-i.invariant
