use Rattle.std.proofs.Common.{◌≡◌, ◌∙◌, arith}
use Rattle.std.specs.Str.Lines.{lines}
use Rattle.script.proofs.OwnLemmas.{no_put_all, no_put_more, no_put_start, puts_first}
use Rattle.script.proofs.ProgressLemmas.{last_first, last_first-more, length-lines}
use Rattle.script.proofs.WalksLemmas.{walk_small}
use Rattle.script.proofs.own.first_put.Goals as goal

pub loop-line-init : goal.loop-line-init
loop-line-init c =
    let all : c.into_iter-line-iterator.result ≡ lines c.args.script.now = c.into_iter-line-iterator.ensures.into_iter_gives ∙ c.lines_of-line-items.ensures in
    rw all (no_put_start _ _ c.new-walk.ensures)

pub go_over-requires : goal.go_over-requires
go_over-requires c =
    let small = walk_small (last_first c.loop-line.yielded) c.loop-line.walk c.loop-line.invariant.stands (omega (arith, c.loop-line.invariant.count, length-lines c.args.script.now, c.requires)) in
    record { editions = small.0; lines = small.1 }

pub loop-line-preserved : goal.loop-line-preserved
loop-line-preserved c =
    rw last_first-more
    (no_put_more (last_first c.loop-line.yielded) c.loop-line.line-iterator (lines c.args.script.now) c.loop-line.walk
    c.loop-line.invariant c.in-Some.line.now c.next.new.self c.go_over.new.self c.in_ok-doing.doing c.in-Some.ensures.steps c.in_ok-doing.ensures c.in_default.not-Puts)

pub returns-clause-none : goal.returns-clause-none
returns-clause-none c = no_put_all (last_first c.loop-line.yielded) c.loop-line.line-iterator (lines c.args.script.now) c.loop-line.walk c.loop-line.invariant c.in-None.ensures.steps.0

pub returns-in-Puts-clause-some : goal.returns-in-Puts-clause-some
returns-in-Puts-clause-some c =
    puts_first (last_first c.loop-line.yielded) c.loop-line.line-iterator (lines c.args.script.now) c.loop-line.walk
    c.loop-line.invariant c.in-Some.line.now c.next.new.self c.go_over.new.self c.in-Some.ensures.steps (rw c.in-Puts.is at c.in_ok-doing.ensures)
