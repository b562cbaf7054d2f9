-- Values that are lent.
use Rattle.cells.specs.declared.total.Total.{Total}
use Rattle.cells.specs.declared.total.Total.TheVariants as total
use Rattle.query.specs.declared.truth.Value.{Value}
use Rattle.query.specs.declared.truth.Value.TheVariants as value

-- the value that is lent
abbrev pub total_of : Value → Total
total_of value.Null = total.Null
total_of (value.Int n) = total.Int n
total_of (value.Text t) = total.Text t.now
