use Rattle.std.proofs.Common.{◌∙◌, refl}
use Rattle.script.specs.Viewers.{none_came, turns_in}
use Rattle.script.proofs.ComingLemmas.{all_then}
use Rattle.script.proofs.coming.come.Goals as goal

pub loop-init : goal.loop-init
loop-init g c = record {
  same = refl;
  looking = c.requires.looking;
  came = λ before keeps. rw c.new-text.ensures.items none_came;
}

pub next_block-requires-clause-looking : goal.next_block-requires-clause-looking
next_block-requires-clause-looking g c κs within = rw c.loop.invariant.same c.loop.invariant.looking

pub loop-preserved : goal.loop-preserved
loop-preserved g c =
    let inv = c.loop.invariant in
    record {
      same = c.next_block.ensures.same ∙ inv.same;
      looking = rw inv.same at c.in_ok-block.ensures.looking;
      came = λ before keeps. rw (c.in_ok-extend_from_slice.ensures.items, c.as_slice.ensures.value) (all_then (turns_in c.next_block.new.onlookers) c.in_ok-block.block.items (inv.came before keeps) (c.in_ok-block.ensures.next before (rw inv.same keeps)));
    }
