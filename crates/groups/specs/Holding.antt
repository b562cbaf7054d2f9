-- What is held of a list of cells for one aggregate.
use Rattle.aggs.specs.declared.acc.Acc.{Acc}
use Rattle.aggs.specs.declared.acc.Acc.TheVariants as acc
use Rattle.groups.specs.declared.held.Form.{Form}
use Rattle.groups.specs.declared.held.Form.TheVariants as form

module _ {H : Type 0} where
  -- the accumulator of the list, wherever it is held
  abbrev pub accumulator_of : Form H → Acc H
  accumulator_of (form.Accumulator a) = a
  accumulator_of (form.Cells cells) = acc.CountDistinct cells
