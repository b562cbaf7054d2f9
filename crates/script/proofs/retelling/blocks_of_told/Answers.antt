use Rattle.std.proofs.Common.{◌≡◌, ◌∙◌, arith}
use Rattle.std.specs.Str.Lines.{lines}
use Rattle.std.specs.Vec.Iter.{into_iter_items}
use Rattle.script.proofs.ProgressLemmas.{last_first, last_first-more, length-lines}
use Rattle.script.proofs.RetellingLemmas.{retold_all, retold_more, retold_start}
use Rattle.script.proofs.WalksLemmas.{walk_small}
use Rattle.script.proofs.retelling.blocks_of_told.Goals as goal

pub loop-line-init : goal.loop-line-init
loop-line-init g c =
    let all : c.into_iter-line-iterator.result ≡ lines c.args.script.now = c.into_iter-line-iterator.ensures.into_iter_gives ∙ c.lines_of-line-items.ensures in
    rw all (retold_start _ _ _ _ _ _ c.new-walk.ensures c.into_iter-left.ensures.rest c.new-text.ensures.items (omega (arith, length-lines c.args.script.now, c.requires)))

pub go_over-requires : goal.go_over-requires
go_over-requires g c =
    let small = walk_small (last_first c.loop-line.yielded) c.loop-line.walk c.loop-line.invariant.stands (omega (arith, c.loop-line.invariant.short)) in
    record { editions = small.0; lines = small.1 }

pub loop-line-preserved : goal.loop-line-preserved
loop-line-preserved g c =
    rw last_first-more
    (retold_more c.args.manner.now (last_first c.loop-line.yielded) c.loop-line.line-iterator (lines c.args.script.now) c.args.tolds.items (into_iter_items c.loop-line.left) c.loop-line.text.items c.loop-line.walk
    c.loop-line.invariant c.in-Some.line.now c.next.new.self c.in-Some-next.told (into_iter_items c.next-in-loop-line.new.self) c.go_over.new.self c.in_ok-doing.doing c.as_slice.result.now _ c.in-Some.ensures.steps c.in-Some-next.ensures.items c.in_ok-doing.ensures
    (rw c.as_slice.ensures.value (rw c.in-Some-2.is at c.in_ok-block.ensures)) c.in_ok-extend_from_slice.ensures.items)

pub returns : goal.returns
returns g c = λ hash givens all same every fit are.
    retold_all c.args.manner.now (last_first c.loop-line.yielded) c.loop-line.line-iterator (lines c.args.script.now) c.args.tolds.items (into_iter_items c.loop-line.left) c.loop-line.text.items c.loop-line.walk
    c.loop-line.invariant c.in-None.ensures.steps.0 hash givens all same every fit are
