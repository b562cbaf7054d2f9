use Rattle.std.proofs.Common.{rules, ◌≡◌, true, false, take, bytes_eq}
use Rattle.std.specs.List.{list_any}
use Rattle.cells.proofs.NamesLemmas.{distinct_more, distinct_none, found_twice}
use Rattle.cells.proofs.schema.are_different.Goals as goal

pub loop-i-init : goal.loop-i-init
loop-i-init c = distinct_none

pub returns-then-has_name : goal.returns-then-has_name
returns-then-has_name c =
    let again : list_any (λ d. bytes_eq c.index-columns-i.result.name d.name) (take c.loop-i.i c.args.columns.now) ≡ true = search rules in
    ((λ h. cc), λ distinct. absurd (found_twice c.args.columns.now c.loop-i.i c.index-columns-i.result c.loop-i-test.true c.index-columns-i.is again distinct))

pub loop-i-preserved : goal.loop-i-preserved
loop-i-preserved c =
    let new : list_any (λ d. bytes_eq c.index-columns-i.result.name d.name) (take c.loop-i.i c.args.columns.now) ≡ false = search rules in
    distinct_more c.args.columns.now c.loop-i.i c.index-columns-i.result c.loop-i-test.true c.index-columns-i.is new c.loop-i.invariant
