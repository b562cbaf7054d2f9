use Rattle.std.proofs.Common.{refl}
use Rattle.std.proofs.lemmas.Result.{err_from_is_err_and}
use Rattle.report.specs.declared.want.Want.TheVariants.{Memory}
use Rattle.script.specs.Viewers.{asked_of, too_much_text}
use Rattle.script.proofs.EndingsLemmas.{ends_for}
use Rattle.script.proofs.GalleryLemmas.{nothing_yet}
use Rattle.script.proofs.too_much.write_too_much.Goals as goal

pub returns-in_err-text-clause-ends : goal.returns-in_err-text-clause-ends
returns-in_err-text-clause-ends g c =
    let p = err_from_is_err_and c.from_residual.result c.from_residual.ensures.1 in
    ends_for g.O.Out.taken g.O.Out.faults c.args.out.now c.args.out.now _ _ c.from_residual.result p.1
    (nothing_yet _ (g.O.Out.taken c.args.out.now) (too_much_text c.args.setup.now.manner.now.form (asked_of c.args.viewing)) refl) _ _ Memory p.2 (λ late. absurd cc)
