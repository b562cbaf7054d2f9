use Rattle.std.proofs.Common.{Err, ap, subst, sym, ◌∙◌, ◌∷◌}
use Rattle.std.proofs.lemmas.Result.{err_from_is_err_and}
use Rattle.olap.specs.Folders.{IsFirstUnread}
use Rattle.olap.proofs.FoldersLemmas.{first_unread_alone, first_unread_behind}
use Rattle.olap.proofs.input.read_input.Goals as goal

pub returns-in-Err-clause-named : goal.returns-in-Err-clause-named
returns-in-Err-clause-named g c =
    let job = c.args.job.now in
    let was_read = g.F.Folder.was_read c.args.folder.now in
    let was_refused = g.F.Folder.was_refused c.args.folder.now in
    subst (IsFirstUnread was_read was_refused (job.script ∷ job.parts.items)) (sym c.not_read.ensures)
    (first_unread_alone was_read was_refused job.parts.items job.script (subst was_refused c.as_str.ensures c.in-Err.ensures.refused))

pub returns-in_err-parts-clause-named : goal.returns-in_err-parts-clause-named
returns-in_err-parts-clause-named g c =
    let job = c.args.job.now in
    let was_read = g.F.Folder.was_read c.args.folder.now in
    let was_refused = g.F.Folder.was_refused c.args.folder.now in
    let p = err_from_is_err_and c.from_residual.result c.from_residual.ensures.1 in
    let one = subst was_read c.as_str.ensures c.in-Ok.ensures.read in
    rw (p.1 ∙ ap Err p.2) (first_unread_behind was_read was_refused job.parts.items job.script _ one (rw c.as_slice.ensures.value at c.in_err-parts.ensures.named))
