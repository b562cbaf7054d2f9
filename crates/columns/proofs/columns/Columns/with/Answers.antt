use Rattle.std.proofs.Common.{◌≡◌, ℕ, List, ap, arith, subst, ◌∙◌}
use Rattle.cells.specs.Values.{RowValue}
use Rattle.columns.specs.Columns.{ColumnValue, Hold, cells_at, cells_of, has}
use Rattle.std.proofs.lemmas.List.{nil_from_length}
use Rattle.std.specs.Vec.Iter.{into_iter_items}
use Rattle.columns.proofs.WithLemmas.{AreBoth, goes_all, goes_on, goes_past}
use Rattle.columns.proofs.columns.Columns.with.Goals as goal

pub loop-named-preserved-in_default : goal.loop-named-preserved-in_default
loop-named-preserved-in_default c =
    goes_past c.args.self c.args.other.now c.loop-named.columns.items (into_iter_items c.loop-named.named-iterator) (into_iter_items c.next.new.self) c.in-Some.named c.in-Some.ensures.steps.0
    c.loop-named.invariant (c.in_default.ensures.there ∙ ap (λ (n : ℕ × ColumnValue). has c.args.other.now n.0) c.named.view_is)

pub loop-named-preserved : goal.loop-named-preserved
loop-named-preserved c =
    goes_on c.args.self c.args.other.now c.loop-named.columns.items c.push.new.self.items (into_iter_items c.loop-named.named-iterator) (into_iter_items c.next.new.self) c.in-Some.named
    c.in_ok-with.field-0 c.in-Some-at.more.now c.in-Some.ensures.steps.0 c.loop-named.invariant c.in_ok-push.ensures.items
    (subst (λ (n : ℕ × ColumnValue). (rows : List RowValue) → Hold rows c.args.other.now → cells_of c.in-Some-at.more.now ≡ cells_at n.0 rows) c.named.view_is c.in-Some-at.ensures.cells)
    c.in_ok-with.ensures.puts c.in_ok-with.ensures.index

pub returns-clause-held : goal.returns-clause-held
returns-clause-held c = λ rows more held others.
    let iterator = c.loop-named.named-iterator in
    let both : AreBoth c.args.self c.args.other.now c.loop-named.columns.items =
    goes_all c.args.self c.args.other.now c.loop-named.columns.items (into_iter_items iterator)
    (nil_from_length (into_iter_items iterator) (omega (arith, iterator.rest.ok, c.in-None.ensures.steps.0))) c.loop-named.invariant in
    record { each = both.held rows more held.each others }

pub returns-clause-has : goal.returns-clause-has
returns-clause-has c = λ index one two.
    let iterator = c.loop-named.named-iterator in
    let both : AreBoth c.args.self c.args.other.now c.loop-named.columns.items =
    goes_all c.args.self c.args.other.now c.loop-named.columns.items (into_iter_items iterator)
    (nil_from_length (into_iter_items iterator) (omega (arith, iterator.rest.ok, c.in-None.ensures.steps.0))) c.loop-named.invariant in
    both.there index one two
