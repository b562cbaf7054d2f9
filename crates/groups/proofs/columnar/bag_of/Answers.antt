use Rattle.std.proofs.Common.{◌≡◌, ap, length, map, subst, sym, ◌∙◌}
use Rattle.std.specs.List.{AllByRecursion}
use Rattle.groups.specs.Bags.{Covers}
use Rattle.groups.specs.Columnar.{groups_from}
use Rattle.groups.specs.Numbered.{picked_rows}
use Rattle.groups.proofs.ColumnarLemmas.{covers_rows, each_long, number_all, tallies_long}
use Rattle.groups.proofs.NumberedLemmas.{rows_counted}
use Rattle.groups.proofs.columnar.bag_of.Goals as goal

pub tallies-requires-clause-all : goal.tallies-requires-clause-all
tallies-requires-clause-all g c =
    let rows = c.requires.rows.rows in
    number_all c.args.set.now (picked_rows rows c.args.rows.now) c.in_ok-groups.groups.numbers.items c.in_ok-groups.groups.tuples.items (length c.args.rows.now) (rows_counted rows c.args.rows.now)
    (c.in_ok-groups.ensures rows c.requires.rows.held)

pub listed-requires : goal.listed-requires
listed-requires g c =
    let rows = picked_rows c.requires.rows.rows c.args.rows.now in
    let groups = c.in_ok-groups.groups in
    let tuples = groups.tuples.items in
    let all : AllByRecursion (λ accs. length accs ≡ length tuples) (map (λ accs. accs.items) c.in_ok-tallies.tallies.items) =
    tallies_long rows groups.numbers.items (length tuples) c.args.aggregations.now (map (λ accs. accs.items) c.in_ok-tallies.tallies.items) (c.in_ok-tallies.ensures c.requires.rows.rows c.requires.rows.held) in
    subst (AllByRecursion (λ accs. length accs.items ≡ length tuples)) (sym c.as_slice.ensures.value)
    (each_long (λ accs. accs.items) (length tuples) c.in_ok-tallies.tallies.items all)

pub returns : goal.returns
returns g c = λ all held.
    let groups = c.in_ok-groups.groups in
    let rows = picked_rows all c.args.rows.now in
    let lists = map (λ accs. accs.items) c.in_ok-tallies.tallies.items in
    subst (Covers c.args.aggregations.now c.args.set.now rows)
    (sym (c.of.ensures ∙ c.in_ok-groups-2.ensures ∙ ap (λ l. groups_from groups.tuples.items (map (λ accs. accs.items) l)) c.as_slice.ensures.value))
    (covers_rows c.args.aggregations.now c.args.set.now rows groups.numbers.items groups.tuples.items lists (c.in_ok-groups.ensures all held) (c.in_ok-tallies.ensures all held))
