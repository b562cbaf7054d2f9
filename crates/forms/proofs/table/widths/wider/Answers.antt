use Rattle.std.proofs.Common.{◌≡◌, ◌∷◌, [], ◌++◌, ◌∙◌, get_or, max, rules}
use Rattle.std.proofs.lemmas.List.{get_or_default}
use Rattle.std.specs.Prelude.{slice_get}
use Rattle.forms.specs.Tables.{width_of}
use Rattle.forms.proofs.WidthsLemmas.{wider_more}
use Rattle.forms.proofs.table.widths.wider.Goals as goal

pub loop-place-preserved : goal.loop-place-preserved
loop-place-preserved c =
    let widths = c.args.widths.now in
    let wide = get_or widths c.loop-place.place 0 in
    let small = c.loop-place-test.true in
    let value : c.in_ok-value.value ≡ width_of (slice_get c.args.totals.now c.loop-place.place) = search rules in
    let grown : c.push.new.self.items ≡ c.loop-place.made.items ++ max wide (width_of (slice_get c.args.totals.now c.loop-place.place)) ∷ [] = search rules in
    grown ∙ wider_more c.args.totals.now widths c.loop-place.place wide c.loop-place.made.items small (get_or_default widths c.loop-place.place 0 wide small) c.loop-place.invariant
