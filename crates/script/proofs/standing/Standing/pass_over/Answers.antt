use Rattle.std.proofs.Common.{◌≡◌, refl, rules}
use Rattle.std.proofs.lemmas.Result.{err_from_is_err_and}
use Rattle.report.specs.declared.want.Want.TheVariants.{Memory}
use Rattle.script.specs.Endings.{HasWorkers}
use Rattle.script.specs.Givens.{givens_of}
use Rattle.script.specs.Output.{deed_behind}
use Rattle.script.specs.Sessions.{counted, not_heard, refused_unheard}
use Rattle.script.proofs.SessionsLemmas.{ends_unwritten_reply, ends_wanting, ends_written, stands_unheard, unheard_reply}
use Rattle.script.proofs.standing.Standing.pass_over.Goals as goal

pub returns-in_err-text-clause-ends : goal.returns-in_err-text-clause-ends
returns-in_err-text-clause-ends g c =
    let p = err_from_is_err_and c.from_residual.result c.from_residual.ensures.1 in
    ends_wanting g.O.Out.taken g.O.Out.faults _ _ g.H.KeyHash-1.hash_of (givens_of c.args.setup.now) c.args.self.now.lines.items c.args.line.now (HasWorkers (deed_behind (givens_of c.args.setup.now) (counted c.args.self.now.lines.items) c.args.line.now))
    _ (not_heard c.requires.unheard refl) p.0 c.from_residual.result p.1 refl Memory p.2 (λ late. absurd cc)

pub returns-in_err-write_text-clause-ends : goal.returns-in_err-write_text-clause-ends
returns-in_err-write_text-clause-ends g c =
    let givens = givens_of c.args.setup.now in
    let p = err_from_is_err_and c.from_residual-in_err-write_text.result c.from_residual-in_err-write_text.ensures.1 in
    ends_unwritten_reply g.O.Out.taken g.O.Out.faults _ _ g.H.KeyHash-1.hash_of givens c.args.self.now.lines.items c.args.line.now (HasWorkers (deed_behind givens (counted c.args.self.now.lines.items) c.args.line.now))
    c.in_ok-text.text.items (unheard_reply g.H.KeyHash-1.hash_of givens c.args.self.now.lines.items c.args.line.now c.in_ok-text.text.items c.args.self.now.desk c.args.self.now.number c.saturating_add-number.result c.requires.stands c.requires.unheard c.saturating_add-number.ensures c.in_ok-text.ensures.block)
    (λ more. c.as_slice.result.now ≡ more) c.as_slice.ensures.value _ c.in_err-write_text.ensures.whole p.0 c.from_residual-in_err-write_text.result p.1 p.2
    (λ late. absurd (c.in_err-write_text.ensures.worker (search (rules, late))))

pub returns-clause-ends : goal.returns-clause-ends
returns-clause-ends g c =
    let givens = givens_of c.args.setup.now in
    ends_written g.O.Out.taken g.O.Out.faults _ _ g.H.KeyHash-1.hash_of givens c.args.self.now.lines.items c.args.line.now (HasWorkers (deed_behind givens (counted c.args.self.now.lines.items) c.args.line.now))
    c.in_ok-text.text.items (unheard_reply g.H.KeyHash-1.hash_of givens c.args.self.now.lines.items c.args.line.now c.in_ok-text.text.items c.args.self.now.desk c.args.self.now.number c.saturating_add-number.result c.requires.stands c.requires.unheard c.saturating_add-number.ensures c.in_ok-text.ensures.block)
    (λ more. c.as_slice.result.now ≡ more) c.as_slice.ensures.value _ c.in_ok-write_text.ensures.whole _

pub returns-clause-tells : goal.returns-clause-tells
returns-clause-tells g c = refused_unheard c.requires.unheard

pub returns-clause-stands : goal.returns-clause-stands
returns-clause-stands g c =
    stands_unheard (givens_of c.args.setup.now) c.args.self.now.lines.items c.args.line.now c.args.self.now.desk c.args.self.now.number c.requires.stands c.requires.unheard
    _ _ _ c.count.ensures.desk c.count.ensures.lines c.count.ensures.number
