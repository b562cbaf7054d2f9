use Rattle.std.proofs.Common.{[], arith, rules, subst, sym, take}
use Rattle.std.proofs.lemmas.List.{take_all}
use Rattle.groups.specs.Keeping.{KeptBy}
use Rattle.groups.specs.Numbered.{HaveRows}
use Rattle.query.specs.Trees.{And, predicates_of}
use Rattle.groups.proofs.KeepingLemmas.{kept_by_none, kept_by_more, still_have_rows}
use Rattle.groups.proofs.NeededLemmas.{each_there}
use Rattle.groups.proofs.keeping.kept_by_all.Goals as goal

pub loop-predicate-init : goal.loop-predicate-init
loop-predicate-init c = λ all held. subst (KeptBy (And (predicates_of [])) all c.args.places.now) (sym c.in_ok-kept.ensures.items) (kept_by_none all c.args.places.now)

pub chosen_by-requires : goal.chosen_by-requires
chosen_by-requires c = record {
  rows =
      subst (HaveRows c.args.columns.now) (sym c.as_slice.ensures.value)
      (still_have_rows c.args.columns.now c.args.places.now c.loop-predicate.kept.items c.requires.rows (And (predicates_of (take c.loop-predicate.predicate-index c.args.predicates.now))) c.loop-predicate.invariant);
  there = each_there c.args.columns.now c.args.predicates.now c.loop-predicate.predicate-index c.predicate-item.result c.loop-predicate-test.true (search rules) c.requires.there;
}

pub loop-predicate-preserved : goal.loop-predicate-preserved
loop-predicate-preserved c = λ all held.
    kept_by_more c.args.predicates.now c.loop-predicate.predicate-index c.predicate-item.result all c.args.places.now c.loop-predicate.kept.items c.in_ok-kept-2.kept.items c.loop-predicate-test.true
    (search rules) (c.loop-predicate.invariant all held)
    (subst (λ l. KeptBy c.predicate-item.result all l c.in_ok-kept-2.kept.items) c.as_slice.ensures.value (c.in_ok-kept-2.ensures all held))

pub returns : goal.returns
returns c = λ all held.
    subst (λ l. KeptBy (And (predicates_of l)) all c.args.places.now c.loop-predicate.kept.items)
    (take_all c.loop-predicate.predicate-index c.args.predicates.now (omega (arith, c.loop-predicate-test.false, c.loop-predicate.auto.predicate-index-end))) (c.loop-predicate.invariant all held)
