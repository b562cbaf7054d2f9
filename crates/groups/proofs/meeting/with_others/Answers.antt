use Rattle.std.proofs.Common.{◌++◌, refl, subst, sym}
use Rattle.groups.specs.Bags.{Covers}
use Rattle.groups.proofs.MeetingLemmas.{both_coarsen, covers_both, others_coarsen}
use Rattle.groups.proofs.SourcesLemmas.{has_itself}
use Rattle.groups.proofs.meeting.with_others.Goals as goal

pub bag_from-requires-clause-can : goal.bag_from-requires-clause-can
bag_from-requires-clause-can g c = others_coarsen c.args.others.now c.args.source c.requires

pub coarser_bag-requires-clause-can : goal.coarser_bag-requires-clause-can
coarser_bag-requires-clause-can g c =
    both_coarsen c.args.others.now c.args.source c.requires _ c.in_ok-more.more refl c.in_ok-bag.ensures
    (λ aggregations rows pool. subst (λ set. Covers aggregations set rows c.in_ok-more.more) c.as_slice.ensures.value (c.in_ok-more.ensures aggregations rows pool))

pub coarser_bag-requires-clause-finer : goal.coarser_bag-requires-clause-finer
coarser_bag-requires-clause-finer g c = rw c.as_slice-2.ensures.value (has_itself c.args.source.set.items)

pub returns : goal.returns
returns g c =
    let set = c.args.source.set.items in
    record {
      set_stays = refl;
      serves = λ aggregations rows more covers pool.
          let others = subst (λ columns. Covers aggregations columns more c.in_ok-more.more) c.as_slice.ensures.value (c.in_ok-more.ensures aggregations more pool) in
          let both = subst (λ bag. Covers aggregations set (rows ++ more) bag) (sym c.in_ok-bag.ensures)
          (covers_both aggregations set rows more c.args.source.bag c.in_ok-more.more covers others) in
          subst (λ columns. Covers aggregations columns (rows ++ more) c.in_ok-bag-2.bag) c.as_slice-2.ensures.value (c.in_ok-bag-2.ensures aggregations (rows ++ more) both);
    }
