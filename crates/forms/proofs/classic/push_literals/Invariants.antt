use Rattle.std.proofs.Common.{◌≡◌, ◌++◌, take}
use Rattle.std.specs.List.{flat_map}
use Rattle.cells.specs.Literals.{literal_of}
use Rattle.forms.specs.Classic.{separator}
use Rattle.forms.proofs.classic.push_literals.Given as goal

abbrev pub invariant-loop-total : goal.invariant-loop-total
invariant-loop-total l = l.text.items ≡ l.fn.text.items ++ flat_map (λ total. separator ++ literal_of total) (take l.total-index l.totals)
