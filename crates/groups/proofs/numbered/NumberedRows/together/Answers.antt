use Rattle.std.proofs.Common.{arith, rules}
use Rattle.groups.proofs.NumberedLemmas.{number_one, one_of_all}
use Rattle.groups.proofs.numbered.NumberedRows.together.Goals as goal

pub returns-clause-one : goal.returns-clause-one
returns-clause-one c = λ rows is.
    one_of_all c.args.count rows c.in_ok-from_elem.field-0.items c.push.new.self.items (omega (arith, c.if-count-eq0.false)) is (c.in_ok-from_elem.ensures.items_if_clones_equal (λ y e. e)) (search rules)

pub returns-clause-all : goal.returns-clause-all
returns-clause-all c =
    number_one c.args.count c.in_ok-from_elem.field-0.items c.push.new.self.items (c.in_ok-from_elem.ensures.items_if_clones_equal (λ y e. e)) (search rules)
