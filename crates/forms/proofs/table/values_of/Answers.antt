use Rattle.std.proofs.Common.{◌≡◌, ◌++◌, ◌∙◌, rules}
use Rattle.std.specs.Prelude.{codes, slice_index}
use Rattle.forms.specs.Tables.{cell_of}
use Rattle.forms.proofs.LinesLemmas.{written_more}
use Rattle.forms.proofs.table.values_of.Goals as goal

pub loop-place-preserved : goal.loop-place-preserved
loop-place-preserved c =
    let total = c.index-totals-place.result in
    let wide : c.at.result ≡ slice_index c.args.widths.now c.loop-place.place = search rules in
    let value : c.push_value.new.text.items ≡ c.loop-place.made.items ++ cell_of c.at.result total = search rules in
    let written : c.extend_from_slice.new.self.items ≡ (c.loop-place.made.items ++ cell_of (slice_index c.args.widths.now c.loop-place.place) total) ++ codes "  " = search rules in
    written ∙ written_more cell_of c.args.widths.now c.args.totals.now c.loop-place.place total c.loop-place.made.items c.loop-place-test.true c.index-totals-place.is c.loop-place.invariant
