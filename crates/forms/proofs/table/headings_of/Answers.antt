use Rattle.std.proofs.Common.{◌≡◌, ℕ, List, ◌++◌, ◌∙◌, rules}
use Rattle.std.specs.Prelude.{codes, slice_index}
use Rattle.forms.specs.Tables.{at_left, shown_text}
use Rattle.forms.proofs.LinesLemmas.{written_more}
use Rattle.forms.proofs.table.headings_of.Goals as goal

pub loop-place-preserved : goal.loop-place-preserved
loop-place-preserved c =
    let heading = c.index-headings-place.result in
    let wide : c.at.result ≡ slice_index c.args.widths.now c.loop-place.place = search rules in
    let value : c.push_left.new.text.items ≡ c.loop-place.made.items ++ at_left c.at.result (shown_text heading) = search rules in
    let written : c.extend_from_slice.new.self.items ≡ (c.loop-place.made.items ++ at_left (slice_index c.args.widths.now c.loop-place.place) (shown_text heading)) ++ codes "  " = search rules in
    written ∙ written_more {X = List ℕ} (λ wide heading. at_left wide (shown_text heading)) c.args.widths.now c.args.headings.now c.loop-place.place heading c.loop-place.made.items c.loop-place-test.true c.index-headings-place.is c.loop-place.invariant
