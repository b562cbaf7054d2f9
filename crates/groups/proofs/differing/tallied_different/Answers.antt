use Rattle.std.proofs.Common.{List, ℕ, refl, subst, sym}
use Rattle.aggs.specs.declared.acc.Kind.TheVariants.{CountDistinct}
use Rattle.groups.specs.Differing.{cells_of_parts, groups_of_parts}
use Rattle.groups.specs.Parting.{AreOfGroups, codes_at}
use Rattle.groups.specs.Tallying.{AreTallied}
use Rattle.groups.proofs.DifferingLemmas.{tallied_by_parts}
use Rattle.groups.proofs.NumberedLemmas.{parts_below}
use Rattle.groups.proofs.PartingLemmas.{parted_by}
use Rattle.groups.proofs.differing.tallied_different.Goals as goal

pub tallied_parts-requires : goal.tallied_parts-requires
tallied_parts-requires g c =
    let made = c.in_ok-made.made in
    let numbers : List ℕ = c.args.numbers.now in
    let column = c.args.column.now in
    let rows : List ℕ = c.args.rows.now in
    let are = parted_by made numbers numbers c.codes.result.now column.by_row rows refl c.codes.ensures.codes c.in_ok-made.ensures in
    subst (AreOfGroups c.args.count) (sym c.as_slice.ensures.value)
    (parts_below numbers (codes_at column.by_row rows) made.numbers.items made.parts.items are c.args.count c.requires.numbers.1)

pub returns : goal.returns
returns g c =
    let made = c.in_ok-made.made in
    let numbers : List ℕ = c.args.numbers.now in
    let column = c.args.column.now in
    let rows : List ℕ = c.args.rows.now in
    let accs = c.in_ok-tallied_parts.field-0.items in
    let are = parted_by made numbers numbers c.codes.result.now column.by_row rows refl c.codes.ensures.codes c.in_ok-made.ensures in
    tallied_by_parts numbers (codes_at column.by_row rows) made.numbers.items made.parts.items column.cells are c.args.count accs
    (subst (λ l. AreTallied CountDistinct c.args.count (groups_of_parts l) (cells_of_parts column.cells l) accs) c.as_slice.ensures.value
    c.in_ok-tallied_parts.ensures)
