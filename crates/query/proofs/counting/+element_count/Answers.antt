use Rattle.std.proofs.Common.{◌^◌, ◌∙◌, ap, sym, length, arith}
use Rattle.query.specs.Sets.{counted, sets_of}
use Rattle.query.specs.ElementViews.{element_tree}
use Rattle.query.proofs.CountsLemmas.{length-rollup, length-cube}
use Rattle.query.proofs.counting.+element_count.Goals as goal

pub returns-in-Rollup : goal.returns-in-Rollup
returns-in-Rollup t c =
    let e = ap (λ f. length (sets_of (element_tree f))) c.in-Rollup.is ∙ length-rollup c.in-Rollup.units.items in
    let v = ap (λ s. length (sets_of s)) c.element.view_is in
    omega (arith, c.in-Rollup.units.ok.0)

pub returns-in-Cube : goal.returns-in-Cube
returns-in-Cube t c =
    let e = ap (λ f. length (sets_of (element_tree f))) c.in-Cube.is ∙ length-cube c.in-Cube.units.items in
    c.cube_count.ensures ∙ ap (λ n. counted (2 ^ n)) (c.len-in-Cube.ensures ∙ c.in-Cube.units.ok.0) ∙ ap counted (sym e) ∙ ap (λ s. counted (length (sets_of s))) c.element.view_is
