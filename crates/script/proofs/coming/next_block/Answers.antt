use Rattle.std.proofs.Common.{◌∙◌, ap, refl}
use Rattle.std.specs.Result.{result_from_control_flow}
use Rattle.report.specs.Onlooking.{sent}
use Rattle.script.specs.Givens.{givens_of}
use Rattle.script.specs.Viewers.{view_block, viewing_of}
use Rattle.script.proofs.ComingLemmas.{one_block_fewer, shows_next, still_onlooking}
use Rattle.script.proofs.GalleryLemmas.{ok_so}
use Rattle.script.proofs.coming.next_block.Goals as goal

pub returns-clause-looking : goal.returns-clause-looking
returns-clause-looking g c =
    let came = c.branch-came.ensures ∙ ap result_from_control_flow c.in_ok-came.is in
    let back = c.in-Some.ensures.some in
    let glanced = ok_so c.in-Some.came c.in_ok-came.field-0 _ back.glanced came in
    let next = c.in_ok-send.ensures.sent ∙ ap (sent c.next.new.self) c.in_ok-onlooker-2.ensures.1 in
    still_onlooking c.args.setup.now.manner.now (viewing_of c.args.viewing) c.args.keeper.now c.args.onlookers.now c.next.new.self c.send.new.self back.onlooker c.in_ok-came.field-0 c.in_ok-onlooker.onlooker c.in_ok-onlooker.shot back.first back.waiting glanced c.in_ok-onlooker.ensures.shown c.requires.looking next

pub returns-clause-fewer : goal.returns-clause-fewer
returns-clause-fewer g c =
    let came = c.branch-came.ensures ∙ ap result_from_control_flow c.in_ok-came.is in
    let back = c.in-Some.ensures.some in
    let glanced = ok_so c.in-Some.came c.in_ok-came.field-0 _ back.glanced came in
    let next = c.in_ok-send.ensures.sent ∙ ap (sent c.next.new.self) c.in_ok-onlooker-2.ensures.1 in
    one_block_fewer c.args.setup.now.manner.now (viewing_of c.args.viewing) c.args.keeper.now c.args.onlookers.now c.next.new.self c.send.new.self back.onlooker c.in_ok-came.field-0 c.in_ok-onlooker.onlooker c.in_ok-onlooker.shot back.first back.waiting glanced c.in_ok-onlooker.ensures.shown c.requires.looking next

pub returns-clause-next : goal.returns-clause-next
returns-clause-next g c = λ before keeps.
    let came = c.branch-came.ensures ∙ ap result_from_control_flow c.in_ok-came.is in
    let back = c.in-Some.ensures.some in
    let glanced = ok_so c.in-Some.came c.in_ok-came.field-0 _ back.glanced came in
    let next = c.in_ok-send.ensures.sent ∙ ap (sent c.next.new.self) c.in_ok-onlooker-2.ensures.1 in
    let text = ok_so c.view_text_of-text.result c.in_ok-onlooker-2.block _ c.view_text_of-text.ensures c.in_ok-onlooker-2.ensures.0 ∙ ap (λ n. view_block c.args.setup.now.manner.now.form n c.in_ok-onlooker.shot) c.number.ensures in
    shows_next c.args.setup.now.manner.now (viewing_of c.args.viewing) c.args.keeper.now c.args.onlookers.now c.next.new.self c.send.new.self back.onlooker c.in_ok-came.field-0 c.in_ok-onlooker.onlooker c.in_ok-onlooker.shot back.first back.waiting glanced c.in_ok-onlooker.ensures.shown c.requires.looking next
    (givens_of c.args.setup.now) before c.in_ok-onlooker-2.block.items refl keeps text
