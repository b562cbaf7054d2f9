use Rattle.std.proofs.Common.{◌∙◌, arith, refl}
use Rattle.report.specs.Laws.{takes_start}
use Rattle.report.proofs.WritingLemmas.{left_shorter, some_left, written, written_more}
use Rattle.report.proofs.out.write_whole.Goals as goal

pub loop-rest-init : goal.loop-rest-init
loop-rest-init g c = record { written = written _ _ _ _ (takes_start _ _); sound = refl; shorter = omega arith; nothing = λ none. refl }

pub loop-rest-preserved : goal.loop-rest-preserved
loop-rest-preserved g c = record {
  written = written_more _ _ _ _ _ _ c.loop-rest.invariant.written c.in-Ok.ensures.taken;
  sound = c.in-Ok.ensures.sound ∙ c.loop-rest.invariant.sound;
  shorter = left_shorter c.args.bytes.now c.loop-rest.rest.now c.in-Ok.n c.loop-rest.invariant.shorter;
  nothing = λ none. absurd (some_left c.args.bytes.now c.loop-rest.rest.now _ c.is_empty.ensures c.loop-rest-test.true c.loop-rest.invariant.shorter none);
}
