use Rattle.std.proofs.Common.{◌∙◌, ap, refl}
use Rattle.script.specs.Givens.{givens_of}
use Rattle.script.specs.Viewers.{view_block, viewing_of}
use Rattle.script.proofs.ComingLemmas.{last_of}
use Rattle.script.proofs.coming.last_block.Goals as goal

pub returns-clause-last : goal.returns-clause-last
returns-clause-last g c = λ before keeps.
    last_of c.args.setup.now.manner.now (viewing_of c.args.viewing) c.args.keeper.now c.args.onlooker c.in_ok-shot.shot (givens_of c.args.setup.now) before c.in_ok-view_text_of.field-0.items refl c.requires.waiting c.in_ok-shot.ensures.last keeps
    (c.in_ok-view_text_of.ensures ∙ ap (λ n. view_block c.args.setup.now.manner.now.form n c.in_ok-shot.shot) c.number-number.ensures)
