use Rattle.std.proofs.Common.{◌≡◌, ◌∙◌, arith}
use Rattle.std.specs.Str.Lines.{lines}
use Rattle.std.specs.Vec.Iter.{into_iter_items}
use Rattle.script.proofs.JoiningLemmas.{joined_all, joined_more, joined_start}
use Rattle.script.proofs.ProgressLemmas.{last_first, last_first-more, length-lines}
use Rattle.script.proofs.WalksLemmas.{walk_small}
use Rattle.script.proofs.joining.joined_lines.Goals as goal

pub loop-line-init : goal.loop-line-init
loop-line-init g c =
    let all : c.into_iter-line-iterator.result ≡ lines c.args.script.now = c.into_iter-line-iterator.ensures.into_iter_gives ∙ c.lines_of-line-items.ensures in
    rw all (joined_start _ _ _ _ _ _ _ c.new-walk.ensures c.into_iter-firsts.ensures.rest c.into_iter-seconds.ensures.rest c.new-both.ensures.items (omega (arith, length-lines c.args.script.now, c.requires)))

pub go_over-requires : goal.go_over-requires
go_over-requires g c =
    let small = walk_small (last_first c.loop-line.yielded) c.loop-line.walk c.loop-line.invariant.stands (omega (arith, c.loop-line.invariant.short)) in
    record { editions = small.0; lines = small.1 }

pub loop-line-preserved : goal.loop-line-preserved
loop-line-preserved g c =
    rw last_first-more
    (joined_more (last_first c.loop-line.yielded) c.loop-line.line-iterator (lines c.args.script.now) c.args.first.items c.args.second.items (into_iter_items c.loop-line.firsts) (into_iter_items c.loop-line.seconds) c.loop-line.both.items c.loop-line.walk
    c.loop-line.invariant c.in-Some.line.now c.next.new.self c.in-Some-next.one c.in-Some-next-2.two c.in-Some-2.joined (into_iter_items c.next-in-loop-line.new.self) (into_iter_items c.next-in-loop-line-2.new.self) _ c.go_over.new.self c.in_ok-doing.doing
    c.in-Some.ensures.steps c.in-Some-next.ensures.items c.in-Some-next-2.ensures.items c.in_ok-doing.ensures (rw c.in-Some-2.is at c.in_ok-joined.ensures) c.in_ok-push.ensures.items)

pub returns : goal.returns
returns g c = λ givens one two apart are others.
    joined_all (last_first c.loop-line.yielded) c.loop-line.line-iterator (lines c.args.script.now) c.args.first.items c.args.second.items (into_iter_items c.loop-line.firsts) (into_iter_items c.loop-line.seconds) c.loop-line.both.items c.loop-line.walk
    c.loop-line.invariant c.in-None.ensures.steps.0 givens one two apart are others
