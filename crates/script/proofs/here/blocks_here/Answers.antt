use Rattle.std.proofs.Common.{◌≡◌, ◌∙◌, arith}
use Rattle.std.specs.Str.Lines.{lines}
use Rattle.script.specs.Givens.{givens_of}
use Rattle.script.specs.Limits.{script_limit}
use Rattle.script.proofs.HereLemmas.{made_all, made_more, made_start, narrow_left}
use Rattle.script.proofs.ProgressLemmas.{last_first, last_first-more, length-lines, narrow_lines, publishable}
use Rattle.script.proofs.here.blocks_here.Goals as goal

pub loop-bytes-init : goal.loop-bytes-init
loop-bytes-init g c =
    let all : c.into_iter-bytes-iterator.result ≡ lines c.args.script.now = c.into_iter-bytes-iterator.ensures.into_iter_gives ∙ c.lines_of-bytes-items.ensures in
    rw all (made_start _ _ _ _ c.new-text.ensures.items (omega (arith, length-lines c.args.script.now, c.requires)) (narrow_lines c.args.script.now script_limit c.requires))

pub execute_here-requires-clause-publishable : goal.execute_here-requires-clause-publishable
execute_here-requires-clause-publishable g c =
    publishable (givens_of c.args.setup.now) (last_first c.loop-bytes.yielded) c.loop-bytes.desk c.loop-bytes.invariant.stands (omega (arith, c.loop-bytes.invariant.short))

pub execute_here-requires-clause-short : goal.execute_here-requires-clause-short
execute_here-requires-clause-short g c =
    (narrow_left g.H.KeyHash-1.hash_of (givens_of c.args.setup.now) (last_first c.loop-bytes.yielded) c.loop-bytes.bytes-iterator (lines c.args.script.now) c.loop-bytes.text.items c.loop-bytes.desk c.loop-bytes.number
    c.loop-bytes.invariant c.in-Some.bytes.now c.next.new.self c.in-Some.ensures.steps).0

pub loop-bytes-preserved : goal.loop-bytes-preserved
loop-bytes-preserved g c =
    rw last_first-more
    (made_more g.H.KeyHash-1.hash_of (givens_of c.args.setup.now) (last_first c.loop-bytes.yielded) c.loop-bytes.bytes-iterator (lines c.args.script.now) c.loop-bytes.text.items c.loop-bytes.desk c.loop-bytes.number
    c.loop-bytes.invariant c.in-Some.bytes.now c.next.new.self c.execute_here.new.desk c.in-Ok.block c.as_slice.result.now _ c.in-Some.ensures.steps c.in-Ok.ensures.step (λ t will. c.as_slice.ensures.value ∙ c.in_ok-said.ensures t will) c.in_ok-extend_from_slice.ensures.items)

pub returns : goal.returns
returns g c =
    made_all g.H.KeyHash-1.hash_of (givens_of c.args.setup.now) (last_first c.loop-bytes.yielded) c.loop-bytes.bytes-iterator (lines c.args.script.now) c.loop-bytes.text.items c.loop-bytes.desk c.loop-bytes.number
    c.loop-bytes.invariant c.in-None.ensures.steps.0
