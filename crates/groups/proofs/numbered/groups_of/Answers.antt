use Rattle.std.proofs.Common.{List, ℕ, true, arith, get_or, subst, sym, take, ◌≡◌}
use Rattle.std.proofs.lemmas.List.{take_all, take_more}
use Rattle.columns.specs.Columns.{has}
use Rattle.groups.specs.Numbered.{AreNumbered, picked_rows}
use Rattle.groups.proofs.NumberedLemmas.{has_rows, rows_counted}
use Rattle.groups.proofs.TuplesLemmas.{all_at}
use Rattle.groups.proofs.numbered.groups_of.Goals as goal

pub loop-index-init : goal.loop-index-init
loop-index-init c = record {
  all = c.in_ok-groups.ensures.all;
  numbered = λ all held. c.in_ok-groups.ensures.one (picked_rows all c.args.rows.now) (rows_counted all c.args.rows.now);
}

pub column_of-requires : goal.column_of-requires
column_of-requires c = all_at (λ index. has c.args.columns.now index ≡ true) c.args.set.now c.loop-index.index-index 0 c.requires.there c.loop-index-test.true

pub cut-requires-clause-rows : goal.cut-requires-clause-rows
cut-requires-clause-rows c = has_rows c.args.columns.now c.column_of.result.now _ c.args.rows.now c.requires.rows (c.column_of.ensures c.requires.rows.rows c.requires.rows.held)

pub loop-index-preserved : goal.loop-index-preserved
loop-index-preserved c = record {
  all = c.in_ok-finer.ensures.all;
  numbered = λ all held.
      let before : List ℕ = take c.loop-index.index-index c.args.set.now in
      let index : ℕ = get_or c.args.set.now c.loop-index.index-index 0 in
      subst (λ set. AreNumbered set (picked_rows all c.args.rows.now) c.in_ok-finer.finer.numbers.items c.in_ok-finer.finer.tuples.items)
      (sym (take_more c.args.set.now c.loop-index.index-index 0 c.loop-index-test.true))
      (c.in_ok-finer.ensures.cut all before index (c.column_of.ensures all held) (c.loop-index.invariant.numbered all held));
}

pub returns : goal.returns
returns c = λ all held.
    subst (λ set. AreNumbered set (picked_rows all c.args.rows.now) c.loop-index.groups.numbers.items c.loop-index.groups.tuples.items)
    (take_all c.loop-index.index-index c.args.set.now (omega (arith, c.loop-index-test.false, c.loop-index.auto.index-index-end))) (c.loop-index.invariant.numbered all held)
