use Rattle.std.proofs.Common.{◌≡◌, ◌<◌, ◌∙◌, ap₂, arith, length}
use Rattle.std.proofs.lemmas.List.{get_or_default}
use Rattle.csv.specs.Records.{fields_of}
use Rattle.std.specs.List.{slice_index_or}
use Rattle.cells.specs.declared.schema.ColumnType.TheVariants.{Text}
use Rattle.prepare.specs.Proposals.{field_in, narrowed}
use Rattle.prepare.proofs.TypesLemmas.{narrowed_more}
use Rattle.prepare.proofs.kinds.narrow.Goals as goal

pub loop-place-preserved : goal.loop-place-preserved
loop-place-preserved c =
    let within : c.loop-place.place < length c.loop-place.types = omega arith in
    let is : c.narrowed.result ≡ narrowed (slice_index_or c.loop-place.types c.loop-place.place Text) (field_in c.loop-place.place (fields_of c.args.row.now)) =
    c.narrowed.ensures ∙ ap₂ narrowed (get_or_default c.loop-place.types c.loop-place.place _ Text within) c.field_in.ensures in
    narrowed_more c.args.types.now c.loop-place.types (fields_of c.args.row.now) c.loop-place.place c.narrowed.result within is c.loop-place.invariant
