use Rattle.std.proofs.Common.{◌∙◌, ◌+◌, ◌≤◌, Err, ap, arith, length, refl, rules}
use Rattle.std.proofs.lemmas.Result.{err_from_is_err_and}
use Rattle.std.specs.Result.{result_from_control_flow}
use Rattle.script.specs.Tails.{no_viewer, viewer_first}
use Rattle.script.specs.Viewers.{viewing_of}
use Rattle.script.proofs.EndingsLemmas.{begins_so_far, delivers_for, more_so_far, none_so_far, whole_so_far}
use Rattle.script.proofs.GalleryLemmas.{came_back, delivers_more, left_back, ok_so, some_back}
use Rattle.script.proofs.ProgressLemmas.{delivers_whole}
use Rattle.script.proofs.gallery.Gallery.write_viewers.Goals as goal

pub loop-watched-init : goal.loop-watched-init
loop-watched-init g c = record {
  so_far = λ given before keeps. none_so_far _ _;
  started = c.requires.started;
  same = refl;
  counted = omega arith;
  sound = refl;
}

pub returns-in_err-watcher : goal.returns-in_err-watcher
returns-in_err-watcher g c = record {
  views = λ given before keeps.
      let inv = c.loop-watched.invariant in
      let p = err_from_is_err_and c.from_residual.result c.from_residual.ensures.1 in
      let viewing = viewing_of c.args.viewing in
      let some = some_back given before viewing c.args.keeper.now c.loop-watched.self.audience.watches c.next.new.self.watches c.in-Some.watched keeps c.in-Some.ensures.some inv.started in
      let (rest, are) = some (c.loop-watched.number + 1) (length c.loop-watched.self.audience.watches) in
      delivers_for g.O.Out.taken g.O.Out.faults c.args.out.now c.loop-watched.out _ _ c.from_residual.result p.1 (begins_so_far (inv.so_far given before keeps) rest are) _ p.2;
}

pub overflow_add-number : goal.overflow_add-number
overflow_add-number g c =
    let inv = c.loop-watched.invariant in
    let fewer = (left_back c.args.setup.now.manner.now (viewing_of c.args.viewing) c.args.keeper.now c.loop-watched.self.audience.watches c.next.new.self.watches c.in-Some.watched c.in-Some.ensures.some inv.started).1 in
    let less : c.loop-watched.number + 1 ≤ c.args.viewing.viewers = omega (arith, inv.counted, fewer, c.requires.many) in
    search (rules, less)

pub write_viewer-requires-clause-own : goal.write_viewer-requires-clause-own
write_viewer-requires-clause-own g c κs within =
    let inv = c.loop-watched.invariant in
    rw inv.same (ok_so c.in-Some.watched _ _ (came_back c.args.setup.now.manner.now (viewing_of c.args.viewing) c.args.keeper.now c.loop-watched.self.audience.watches c.next.new.self.watches c.in-Some.watched c.in-Some.ensures.some inv.started) (c.branch-watcher.ensures ∙ ap result_from_control_flow c.in_ok-watcher.is)).own

pub write_viewer-requires-clause-asked : goal.write_viewer-requires-clause-asked
write_viewer-requires-clause-asked g c κs within =
    let inv = c.loop-watched.invariant in
    rw inv.same (ok_so c.in-Some.watched _ _ (came_back c.args.setup.now.manner.now (viewing_of c.args.viewing) c.args.keeper.now c.loop-watched.self.audience.watches c.next.new.self.watches c.in-Some.watched c.in-Some.ensures.some inv.started) (c.branch-watcher.ensures ∙ ap result_from_control_flow c.in_ok-watcher.is)).asked

pub write_viewer-requires-clause-shots : goal.write_viewer-requires-clause-shots
write_viewer-requires-clause-shots g c κs within =
    let inv = c.loop-watched.invariant in
    (ok_so c.in-Some.watched _ _ (came_back c.args.setup.now.manner.now (viewing_of c.args.viewing) c.args.keeper.now c.loop-watched.self.audience.watches c.next.new.self.watches c.in-Some.watched c.in-Some.ensures.some inv.started) (c.branch-watcher.ensures ∙ ap result_from_control_flow c.in_ok-watcher.is)).many

pub returns-in_err-write_viewer : goal.returns-in_err-write_viewer
returns-in_err-write_viewer g c = record {
  views = λ given before keeps.
      let inv = c.loop-watched.invariant in
      let p = err_from_is_err_and c.from_residual-in_err-write_viewer.result c.from_residual-in_err-write_viewer.ensures.1 in
      let viewing = viewing_of c.args.viewing in
      let some = some_back given before viewing c.args.keeper.now c.loop-watched.self.audience.watches c.next.new.self.watches c.in-Some.watched keeps c.in-Some.ensures.some inv.started in
      let fewer = (left_back c.args.setup.now.manner.now viewing c.args.keeper.now c.loop-watched.self.audience.watches c.next.new.self.watches c.in-Some.watched c.in-Some.ensures.some inv.started).1 in
      delivers_more g.O.Out.taken g.O.Out.faults c.args.out.now c.loop-watched.out c.write_viewer.new.out given before viewing c.args.keeper.now c.loop-watched.number (length c.args.self.now.audience.watches) (length c.loop-watched.self.audience.watches) _ _ _
      (inv.so_far given before keeps) (length c.next.new.self.watches) fewer some inv.sound refl (rw inv.same at (c.in_err-write_viewer.ensures.views given before (rw inv.same keeps))) (p.1 ∙ ap Err p.2);
}

pub loop-watched-preserved : goal.loop-watched-preserved
loop-watched-preserved g c =
    let inv = c.loop-watched.invariant in
    let viewing = viewing_of c.args.viewing in
    let left = left_back c.args.setup.now.manner.now viewing c.args.keeper.now c.loop-watched.self.audience.watches c.next.new.self.watches c.in-Some.watched c.in-Some.ensures.some inv.started in
    let fewer = left.1 in
    record {
      so_far = λ given before keeps.
          let wrote = (rw inv.same at (c.in_ok-write_viewer.ensures.views given before (rw inv.same keeps))).output in
          more_so_far (rw fewer at (inv.so_far given before keeps)) (g.O.Out.taken c.write_viewer.new.out) _ wrote.whole (λ rest are. viewer_first wrote.whole rest wrote.is_whole are) wrote.taken;
      started = left.0;
      same = c.in_ok-write_viewer.ensures.same ∙ inv.same;
      counted = omega (arith, inv.counted, fewer);
      sound = c.in_ok-write_viewer.ensures.sound ∙ inv.sound;
    }

pub returns : goal.returns
returns g c = record {
  views = λ given before keeps.
      let inv = c.loop-watched.invariant in
      let none = ap length (c.in_default.ensures.none refl) in
      delivers_whole g.O.Out.taken g.O.Out.faults c.args.out.now c.loop-watched.out _ _
      (whole_so_far (rw none at (inv.so_far given before keeps)) no_viewer) inv.sound;
}
