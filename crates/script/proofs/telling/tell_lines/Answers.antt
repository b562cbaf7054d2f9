use Rattle.std.proofs.Common.{◌≡◌, ◌∙◌, arith, map}
use Rattle.std.proofs.lemmas.Result.{err_from_is_err_and}
use Rattle.std.specs.Str.Lines.{lines}
use Rattle.loader.specs.Shards.{takes}
use Rattle.script.specs.Limits.{script_limit}
use Rattle.script.proofs.ProgressLemmas.{last_first, last_first-more, length-lines, narrow_lines}
use Rattle.script.proofs.TellingLemmas.{goes_all, goes_ends, goes_more, goes_start, narrow_rest}
use Rattle.script.proofs.telling.tell_lines.Goals as goal

pub loop-bytes-init : goal.loop-bytes-init
loop-bytes-init g c =
    let all : c.into_iter-bytes-iterator.result ≡ lines c.args.script.now = c.into_iter-bytes-iterator.ensures.into_iter_gives ∙ c.lines_of-bytes-items.ensures in
    rw all (goes_start _ _ _ _ _ c.new-tolds.ensures.items (omega (arith, length-lines c.args.script.now, c.requires)) (narrow_lines c.args.script.now script_limit c.requires))

pub tell_line-requires-clause-short : goal.tell_line-requires-clause-short
tell_line-requires-clause-short g c =
    (narrow_rest (takes g.H.KeyHash-1.hash_of c.args.sharing.now.shard.now) (map (λ p. p.items) c.args.sharing.now.parts.now) c.args.sharing.now.how.now.rows (last_first c.loop-bytes.yielded) c.loop-bytes.bytes-iterator (lines c.args.script.now) c.loop-bytes.tolds.items c.loop-bytes.desk c.loop-bytes.number
    c.loop-bytes.invariant c.in-Some.bytes.now c.next.new.self c.in-Some.ensures.steps).0

pub loop-bytes-preserved : goal.loop-bytes-preserved
loop-bytes-preserved g c =
    rw last_first-more
    (goes_more (takes g.H.KeyHash-1.hash_of c.args.sharing.now.shard.now) (map (λ p. p.items) c.args.sharing.now.parts.now) c.args.sharing.now.how.now.rows (last_first c.loop-bytes.yielded) c.loop-bytes.bytes-iterator (lines c.args.script.now) c.loop-bytes.tolds.items c.loop-bytes.desk c.loop-bytes.number
    c.loop-bytes.invariant c.in-Some.bytes.now c.next.new.self c.tell_line.new.desk c.in_ok-told.told _ c.in-Some.ensures.steps c.in_ok-told.ensures.step c.in-Ok.ensures.items)

pub returns-clause-told : goal.returns-clause-told
returns-clause-told g c =
    goes_all (takes g.H.KeyHash-1.hash_of c.args.sharing.now.shard.now) (map (λ p. p.items) c.args.sharing.now.parts.now) c.args.sharing.now.how.now.rows (last_first c.loop-bytes.yielded) c.loop-bytes.bytes-iterator (lines c.args.script.now) c.loop-bytes.tolds.items c.loop-bytes.desk c.loop-bytes.number
    c.loop-bytes.invariant c.in-None.ensures.steps.0

pub returns-in_err-told-clause-ends : goal.returns-in_err-told-clause-ends
returns-in_err-told-clause-ends g c =
    let p = err_from_is_err_and c.from_residual.result c.from_residual.ensures.1 in
    rw (p.1, p.2)
    (goes_ends (takes g.H.KeyHash-1.hash_of c.args.sharing.now.shard.now) (map (λ p. p.items) c.args.sharing.now.parts.now) c.args.sharing.now.how.now.rows (last_first c.loop-bytes.yielded) c.loop-bytes.bytes-iterator (lines c.args.script.now) c.loop-bytes.tolds.items c.loop-bytes.desk c.loop-bytes.number
    c.loop-bytes.invariant c.in-Some.bytes.now c.next.new.self c.in_err-told.field-0.0 c.in-Some.ensures.steps c.in_err-told.ensures.ends)
