use Rattle.std.proofs.Common.{◌≡◌, ap, arith, ◌∙◌}
use Rattle.std.specs.List.{range_with_len}
use Rattle.groups.proofs.NeededLemmas.{range_next}
use Rattle.groups.proofs.folding.all_rows.Goals as goal

pub loop-row-init : goal.loop-row-init
loop-row-init c = (c.in_ok-rows.ensures.items, omega arith)

pub loop-row-preserved : goal.loop-row-preserved
loop-row-preserved c = (range_next c.loop-row.row c.loop-row.rows.items c.push.new.self.items c.loop-row.invariant.0 c.in_ok-push.ensures.items, omega (arith, c.loop-row-test.true))

pub returns : goal.returns
returns c =
    let all : c.loop-row.row ≡ c.args.count = omega (arith, c.loop-row-test.false, c.loop-row.invariant.1) in
    c.loop-row.invariant.0 ∙ ap (λ n. range_with_len 0 n) all
