use Rattle.std.proofs.Common.{◌∙◌, ap, arith, length, sym}
use Rattle.std.proofs.lemmas.List.{length-map}
use Rattle.std.specs.Vec.Iter.{into_iter_items}
use Rattle.loader.specs.Shares.{in_shares, lists, pairs_in}
use Rattle.loader.proofs.SharesLemmas.{appended_pushed, next_list}
use Rattle.loader.proofs.shares.Shares.append.Goals as goal

pub loop-rows-preserved : goal.loop-rows-preserved
loop-rows-preserved c =
    let held = c.loop-rows.invariant in
    let part = c.args.part.shares.items in
    let next = next_list part c.loop-rows.share c.in-Some.rows (into_iter_items c.next.new.self) (sym held.left ∙ c.in-Some.ensures.steps.0) in
    record {
      appended = appended_pushed (in_shares c.args.self.now.shares.items) (lists part) c.loop-rows.self.shares.items c.loop-rows.share c.in-Some.rows held.appended (omega (arith, c.requires.old, held.appended.many, length-map c.args.self.now.shares.items (λ one. pairs_in one.items), length-map c.loop-rows.self.shares.items (λ one. pairs_in one.items), held.counted, ap length c.in-Some.ensures.steps.0)) next.0
          c.index_mut.result.now c.push.new.self c.index_mut.ensures.value c.in_ok-push.ensures.items;
      left = next.1;
      counted = omega (arith, held.counted, ap length c.in-Some.ensures.steps.0);
    }
