use Rattle.std.proofs.Common.{Some, ap, arith, length, rules}
use Rattle.std.proofs.lemmas.List.{length-append}
use Rattle.std.specs.Option.{option_to_list}
use Rattle.aggs.specs.declared.kept.Kept.TheVariants.{Extreme}
use Rattle.partials.proofs.KeptLemmas.{few, popped}
use Rattle.partials.proofs.ListsLemmas.{list_found, list_missed}
use Rattle.partials.proofs.kept.extreme_of.Goals as goal

pub returns-in_default : goal.returns-in_default
returns-in_default c = λ cell spells.
    absurd (list_missed c.in_ok-cells.field-0 (option_to_list cell) (c.in_ok-cells.ensures (option_to_list cell) spells) c.in_default.is)

pub returns-then-len-gt1 : goal.returns-then-len-gt1
returns-then-len-gt1 c = λ cell spells.
    let found = list_found c.in_ok-cells.field-0 c.in-Some.cells (option_to_list cell) (c.in_ok-cells.ensures (option_to_list cell) spells) c.in-Some.is in
    absurd (omega (arith, few cell, ap length found, c.len.ensures, c.if-len-gt1.true))

pub returns : goal.returns
returns c = λ cell spells.
    let found = list_found c.in_ok-cells.field-0 c.in-Some.cells (option_to_list cell) (c.in_ok-cells.ensures (option_to_list cell) spells) c.in-Some.is in
    ap (λ o. Some (Extreme o)) (popped c.in-Some.cells.items c.pop.new.self.items c.pop.result cell _ _ c.pop.ensures.items found (omega (arith, ap length c.pop.ensures.items, length-append c.pop.new.self.items (option_to_list c.pop.result))) (search rules) c.pop.ensures.cases)
