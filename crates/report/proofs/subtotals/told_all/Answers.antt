use Rattle.std.proofs.Common.{◌∙◌, arith, inl, inr, sym}
use Rattle.std.proofs.lemmas.List.{nil_from_length}
use Rattle.std.specs.Iterator.Adapters.{zip_first, zip_second}
use Rattle.std.specs.Vec.Iter.{into_iter_items}
use Rattle.report.proofs.SubtotalsLemmas.{told_marks, told_values}
use Rattle.report.proofs.subtotals.told_all.Goals as goal

pub returns : goal.returns
returns c =
    let it = c.loop-value.value-iterator in
    let all = c.loop-value.all.items in
    let left = into_iter_items (zip_first it) in
    let behind = into_iter_items (zip_second it) in
    elim c.in-None.ensures.steps [
      | inl values ↦ sym (c.loop-value.invariant ∙ told_values all left behind (nil_from_length left (omega (arith, it.a.rest.ok, values.1.0))))
      | inr marks ↦ sym (c.loop-value.invariant ∙ told_marks all left behind (nil_from_length behind (omega (arith, it.b.rest.ok, marks.1.0))))
    ]
