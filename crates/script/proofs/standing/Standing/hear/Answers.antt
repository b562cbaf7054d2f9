use Rattle.std.proofs.Common.{Err, ap, refl}
use Rattle.std.proofs.lemmas.Result.{err_from_is_err_and}
use Rattle.script.specs.Blocks.{WillBe}
use Rattle.script.specs.Endings.{HasWorkers}
use Rattle.script.specs.Givens.{givens_of}
use Rattle.script.specs.Output.{deed_behind}
use Rattle.script.specs.Sessions.{counted}
use Rattle.script.proofs.SessionsLemmas.{ends_unwritten_reply, ends_wanting, ends_written, has_workers, heard_small, may_publish, some_reply, stands_heard, told, told_reply, told_so, wants_worker}
use Rattle.script.proofs.standing.Standing.hear.Goals as goal

pub execute-requires-clause-publishable : goal.execute-requires-clause-publishable
execute-requires-clause-publishable g c = λ κs outlives.
    may_publish (givens_of c.args.setup.now) c.args.self.now.lines.items c.args.line.now c.args.self.now.desk c.args.self.now.number c.saturating_add-number.result c.requires.stands c.requires.heard c.saturating_add-number.ensures

pub execute-requires-clause-short : goal.execute-requires-clause-short
execute-requires-clause-short g c = λ κs outlives. (heard_small c.args.self.now.lines.items c.args.line.now c.requires.heard).1

pub returns-in_err-block-clause-ends : goal.returns-in_err-block-clause-ends
returns-in_err-block-clause-ends g c =
    let givens = givens_of c.args.setup.now in
    let p = err_from_is_err_and c.from_residual.result c.from_residual.ensures.1 in
    let some = some_reply c.each_text_has_an_answer.ensures g.H.KeyHash-1.hash_of givens c.args.self.now.lines.items c.args.line.now in
    ends_wanting g.O.Out.taken g.O.Out.faults _ _ g.H.KeyHash-1.hash_of givens c.args.self.now.lines.items c.args.line.now (HasWorkers (deed_behind givens (counted c.args.self.now.lines.items) c.args.line.now))
    some.0 some.1 p.0 c.from_residual.result p.1 refl _ p.2
    (λ late. wants_worker givens c.args.self.now.lines.items c.args.line.now c.args.self.now.desk c.args.self.now.number c.saturating_add-number.result c.requires.stands c.requires.heard c.saturating_add-number.ensures (c.in_err-block.ensures.worker (ap Err late)))

pub returns-in_err-write_block-clause-ends : goal.returns-in_err-write_block-clause-ends
returns-in_err-write_block-clause-ends g c =
    let givens = givens_of c.args.setup.now in
    let p = err_from_is_err_and c.from_residual-in_err-write_block.result c.from_residual-in_err-write_block.ensures.1 in
    let foretold = told givens c.args.self.now.lines.items c.args.line.now c.args.self.now.desk c.args.self.now.number c.saturating_add-number.result c.requires.stands c.requires.heard c.saturating_add-number.ensures g.H.KeyHash-1.hash_of c.execute.new.desk c.in_ok-block.block c.in_ok-block.ensures.step in
    ends_unwritten_reply g.O.Out.taken g.O.Out.faults _ _ g.H.KeyHash-1.hash_of givens c.args.self.now.lines.items c.args.line.now (HasWorkers (deed_behind givens (counted c.args.self.now.lines.items) c.args.line.now))
    foretold.text (told_reply givens c.args.self.now.lines.items c.args.line.now c.args.self.now.desk c.args.self.now.number c.saturating_add-number.result c.requires.stands c.requires.heard c.saturating_add-number.ensures g.H.KeyHash-1.hash_of c.execute.new.desk c.in_ok-block.block c.in_ok-block.ensures.step)
    (WillBe c.in_ok-block.block) foretold.will _ c.in_err-write_block.ensures.whole p.0 c.from_residual-in_err-write_block.result p.1 p.2
    (λ late. has_workers givens c.args.self.now.lines.items c.args.line.now c.args.self.now.desk c.args.self.now.number c.saturating_add-number.result c.requires.stands c.requires.heard c.saturating_add-number.ensures g.H.KeyHash-1.hash_of c.execute.new.desk c.in_ok-block.block c.in_ok-block.ensures.step (c.in_err-write_block.ensures.worker (ap Err late)))

pub returns-clause-ends : goal.returns-clause-ends
returns-clause-ends g c =
    let givens = givens_of c.args.setup.now in
    let foretold = told givens c.args.self.now.lines.items c.args.line.now c.args.self.now.desk c.args.self.now.number c.saturating_add-number.result c.requires.stands c.requires.heard c.saturating_add-number.ensures g.H.KeyHash-1.hash_of c.execute.new.desk c.in_ok-block.block c.in_ok-block.ensures.step in
    ends_written g.O.Out.taken g.O.Out.faults _ _ g.H.KeyHash-1.hash_of givens c.args.self.now.lines.items c.args.line.now (HasWorkers (deed_behind givens (counted c.args.self.now.lines.items) c.args.line.now))
    foretold.text (told_reply givens c.args.self.now.lines.items c.args.line.now c.args.self.now.desk c.args.self.now.number c.saturating_add-number.result c.requires.stands c.requires.heard c.saturating_add-number.ensures g.H.KeyHash-1.hash_of c.execute.new.desk c.in_ok-block.block c.in_ok-block.ensures.step)
    (WillBe c.in_ok-block.block) foretold.will _ c.in_ok-write_block.ensures.whole c.heard_of-heard.result

pub returns-clause-tells : goal.returns-clause-tells
returns-clause-tells g c =
    told_so (givens_of c.args.setup.now) c.args.self.now.lines.items c.args.line.now c.args.self.now.desk c.args.self.now.number c.saturating_add-number.result c.requires.stands c.requires.heard c.saturating_add-number.ensures g.H.KeyHash-1.hash_of c.execute.new.desk c.in_ok-block.block c.in_ok-block.ensures.step
    _ c.heard_of-heard.ensures

pub returns-clause-stands : goal.returns-clause-stands
returns-clause-stands g c =
    stands_heard (givens_of c.args.setup.now) c.args.self.now.lines.items c.args.line.now c.args.self.now.desk c.args.self.now.number c.saturating_add-number.result c.requires.stands c.requires.heard c.saturating_add-number.ensures g.H.KeyHash-1.hash_of c.execute.new.desk c.in_ok-block.block c.in_ok-block.ensures.step
    _ _ _ c.count.ensures.desk c.count.ensures.lines c.count.ensures.number
