use Rattle.std.proofs.Common.{◌∙◌, refl, rules, subst}
use Rattle.std.specs.Io.KnownBytes.{Appends}
use Rattle.std.proofs.lemmas.Result.{err_from_is_err_and}
use Rattle.script.specs.Givens.{givens_of}
use Rattle.script.specs.Viewers.{turns_in, viewing_of}
use Rattle.report.specs.Taken.{TakesBeginning}
use Rattle.script.proofs.ComingLemmas.{after_turn, no_blocks, some_left, writer_failed}
use Rattle.script.proofs.EndingsLemmas.{begins_more, begins_so_far, delivers_for, more_so_far, none_so_far, whole_so_far}
use Rattle.script.proofs.ProgressLemmas.{delivers_whole}
use Rattle.script.proofs.coming.write_turns.Goals as goal

pub loop-block-init : goal.loop-block-init
loop-block-init g c = record {
  same = refl;
  looking = c.requires.looking;
  so_far = λ hash on before keeps. none_so_far _ _;
  sound = refl;
}

pub next_turn-requires-clause-looking : goal.next_turn-requires-clause-looking
next_turn-requires-clause-looking g c κs within = rw c.loop-block.invariant.same c.loop-block.invariant.looking

pub returns-in_err-block : goal.returns-in_err-block
returns-in_err-block g c = record {
  views = λ hash on before keeps.
      let inv = c.loop-block.invariant in
      let p = err_from_is_err_and c.from_residual.result c.from_residual.ensures.1 in
      let (bytes, are) = some_left c.args.setup.now.manner.now (viewing_of c.args.viewing) c.args.keeper.now hash (givens_of c.args.setup.now) on before refl keeps c.loop-block.onlookers inv.looking in
      delivers_for g.O.Out.taken g.O.Out.faults c.args.out.now c.loop-block.out _ _ c.from_residual.result p.1 (begins_so_far (inv.so_far hash on before keeps) bytes are) _ p.2;
}

pub returns-in_default-write_whole : goal.returns-in_default-write_whole
returns-in_default-write_whole g c = record {
  views = λ hash on before keeps.
      let inv = c.loop-block.invariant in
      let turn = rw c.in-Some.is at (c.in_ok-block.ensures.turn before (rw inv.same keeps)) in
      let looking = rw inv.same at c.in_ok-block.ensures.looking in
      let (bytes, are) = some_left c.args.setup.now.manner.now (viewing_of c.args.viewing) c.args.keeper.now hash (givens_of c.args.setup.now) on before refl keeps c.next_turn.new.onlookers looking in
      writer_failed g.O.Out.taken g.O.Out.faults c.args.out.now c.loop-block.out c.write_whole.new.out _
      (begins_more (inv.so_far hash on before keeps) (g.O.Out.taken c.write_whole.new.out) _ c.in-Some.block.items (after_turn hash (givens_of c.args.setup.now) on (viewing_of c.args.viewing) before (turns_in c.loop-block.onlookers) (turns_in c.next_turn.new.onlookers) c.in-Some.block.items turn) bytes are
      (subst (TakesBeginning (g.O.Out.taken c.loop-block.out) (g.O.Out.taken c.write_whole.new.out)) c.as_slice.ensures.value (search rules)))
      (search rules) inv.sound;
}

pub loop-block-preserved : goal.loop-block-preserved
loop-block-preserved g c =
    let inv = c.loop-block.invariant in
    record {
      same = c.in_ok-block.ensures.same ∙ inv.same;
      looking = rw inv.same at c.in_ok-block.ensures.looking;
      so_far = λ hash on before keeps.
          let turn = rw c.in-Some.is at (c.in_ok-block.ensures.turn before (rw inv.same keeps)) in
          more_so_far (inv.so_far hash on before keeps) (g.O.Out.taken c.write_whole.new.out) _ c.in-Some.block.items (after_turn hash (givens_of c.args.setup.now) on (viewing_of c.args.viewing) before (turns_in c.loop-block.onlookers) (turns_in c.next_turn.new.onlookers) c.in-Some.block.items turn)
          (subst (Appends (g.O.Out.taken c.loop-block.out) (g.O.Out.taken c.write_whole.new.out)) c.as_slice.ensures.value (search rules));
      sound = c.in-Ok.ensures.sound ∙ inv.sound;
    }

pub returns : goal.returns
returns g c = record {
  views = λ hash on before keeps.
      let inv = c.loop-block.invariant in
      delivers_whole g.O.Out.taken g.O.Out.faults c.args.out.now c.loop-block.out _ _
      (whole_so_far (inv.so_far hash on before keeps) (no_blocks hash (givens_of c.args.setup.now) on (viewing_of c.args.viewing) before (turns_in c.loop-block.onlookers) (search rules))) inv.sound;
}
