use Rattle.std.proofs.Common.{length, refl, rules}
use Rattle.std.proofs.lemmas.Result.{err_from_is_err_and}
use Rattle.script.specs.Viewers.{viewing_of}
use Rattle.report.specs.declared.want.Want.TheVariants.{Memory}
use Rattle.script.proofs.EndingsLemmas.{delivers_for}
use Rattle.script.proofs.GalleryLemmas.{blocks_of, nothing_yet}
use Rattle.script.proofs.TailsLemmas.{delivers_all, delivers_failed, some_blocks_of}
use Rattle.script.proofs.gallery.write_viewer.Goals as goal

pub returns-in_err-shots-clause-views : goal.returns-in_err-shots-clause-views
returns-in_err-shots-clause-views g c = λ given before keeps.
    let p = err_from_is_err_and c.from_residual.result c.from_residual.ensures.1 in
    let some = some_blocks_of c.args.manner.now given before c.args.keeper.now (viewing_of c.args.viewing) c.requires.asked.plan keeps c.requires.asked.means c.args.number in
    delivers_for g.O.Out.taken g.O.Out.faults c.args.out.now c.args.out.now _ _ c.from_residual.result p.1 (nothing_yet _ (g.O.Out.taken c.args.out.now) some.0 some.1) _ p.2

pub returns-in_err-text-clause-views : goal.returns-in_err-text-clause-views
returns-in_err-text-clause-views g c = λ given before keeps.
    let p = err_from_is_err_and c.from_residual-in_err-text.result c.from_residual-in_err-text.ensures.1 in
    let some = some_blocks_of c.args.manner.now given before c.args.keeper.now (viewing_of c.args.viewing) c.requires.asked.plan keeps c.requires.asked.means c.args.number in
    delivers_for g.O.Out.taken g.O.Out.faults c.args.out.now c.args.out.now _ _ c.from_residual-in_err-text.result p.1 (nothing_yet _ (g.O.Out.taken c.args.out.now) some.0 some.1) Memory p.2

pub returns-in_default-clause-views : goal.returns-in_default-clause-views
returns-in_default-clause-views g c = λ given before keeps.
    let is = blocks_of c.args.manner.now given before c.args.keeper.now c.args.viewing.query.now c.args.watcher.question c.args.number c.args.viewing.shots (length c.args.watcher.shots) c.in_ok-shots.shots.items c.in_ok-text.text.items
    c.requires.asked keeps c.requires.shots c.in_ok-shots.ensures.shots (search rules) in
    delivers_failed g.O.Out.taken g.O.Out.faults c.args.out.now c.write_whole.new.out _ c.in_ok-text.text.items is _ (search rules) (search rules) refl

pub returns-clause-views : goal.returns-clause-views
returns-clause-views g c = λ given before keeps.
    let is = blocks_of c.args.manner.now given before c.args.keeper.now c.args.viewing.query.now c.args.watcher.question c.args.number c.args.viewing.shots (length c.args.watcher.shots) c.in_ok-shots.shots.items c.in_ok-text.text.items
    c.requires.asked keeps c.requires.shots c.in_ok-shots.ensures.shots (search rules) in
    delivers_all g.O.Out.taken g.O.Out.faults c.args.out.now c.write_whole.new.out _ c.in_ok-text.text.items is _ (search rules) (search rules)
