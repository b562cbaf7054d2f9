use Rattle.std.proofs.Common.{[], ◌∷◌, ap, arith, sym, length, map, refl, subst, take, ◌∙◌}
use Rattle.std.proofs.lemmas.List.{length-append, take_all}
use Rattle.std.specs.List.{AllZip}
use Rattle.aggs.specs.declared.acc.Kind.TheVariants.{CountRows}
use Rattle.groups.specs.Columnar.{TalliesRows, aggregation_at}
use Rattle.groups.specs.Numbered.{picked_rows}
use Rattle.groups.proofs.ColumnarLemmas.{zip_next}
use Rattle.groups.proofs.columnar.tallies.Goals as goal

pub tally_next-requires-clause-left : goal.tally_next-requires-clause-left
tally_next-requires-clause-left g c = omega (arith, ap (λ l. length l) c.as_slice-before.ensures.value, c.loop-at.invariant.made, c.loop-at-test.true)

pub loop-at-preserved : goal.loop-at-preserved
loop-at-preserved g c = record {
  made = omega (arith, ap (λ l. length l) c.in_ok-push.ensures.items, length-append c.loop-at.tallies.items (c.in_ok-accs.accs ∷ []), c.loop-at.invariant.made);
  all = λ all held.
      let R = TalliesRows (picked_rows all c.args.rows.now) c.args.groups.now.numbers.items (length c.args.groups.now.tuples.items) in
      let now = c.loop-at.invariant.all all held in
      let there = ap (λ l. length l) c.as_slice-before.ensures.value ∙ c.loop-at.invariant.made in
      zip_next R (λ accs. accs.items) c.args.aggregations.now c.loop-at.tallies.items c.push.new.self.items c.loop-at._at (aggregation_at c.args.aggregations.now c.loop-at._at)
      (record { kind = CountRows; column = 0 }) c.in_ok-accs.accs c.loop-at-test.true refl now
      (subst (λ n. R (aggregation_at c.args.aggregations.now n) c.in_ok-accs.accs.items) there
      (c.in_ok-accs.ensures all held (subst (λ n. AllZip R (take n c.args.aggregations.now) (map (λ accs. accs.items) c.as_slice-before.result.now)) (sym there)
      (subst (λ l. AllZip R (take c.loop-at._at c.args.aggregations.now) (map (λ accs. accs.items) l)) (sym c.as_slice-before.ensures.value) now)))) c.in_ok-push.ensures.items;
}

pub returns : goal.returns
returns g c = λ all held.
    subst (λ l. AllZip (TalliesRows (picked_rows all c.args.rows.now) c.args.groups.now.numbers.items (length c.args.groups.now.tuples.items)) l (map (λ accs. accs.items) c.loop-at.tallies.items))
    (take_all c.loop-at._at c.args.aggregations.now (omega (arith, c.loop-at-test.false, c.loop-at.auto._at-end))) (c.loop-at.invariant.all all held)
