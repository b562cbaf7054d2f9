use Rattle.std.proofs.Common.{◌≡◌, ◌++◌, map}
use Rattle.aggs.specs.Accs.{acc_of}
use Rattle.aggs.specs.declared.acc.Kind.TheVariants.{CountDistinct}
use Rattle.columns.specs.Columns.{decoded}
use Rattle.groups.specs.Differing.{lists_of}
use Rattle.groups.proofs.differing.held_of_lists.Given as goal

-- what is held of the lists so far, and what will be of those that are left
abbrev pub invariant-loop-codes : goal.invariant-loop-codes
invariant-loop-codes g l = l.all.items ++ map (λ codes. acc_of CountDistinct (decoded l.column.cells codes)) (lists_of l.codes-iterator.rest.items)
    ≡ map (λ codes. acc_of CountDistinct (decoded l.column.cells codes)) (lists_of l.fn.lists.items)
