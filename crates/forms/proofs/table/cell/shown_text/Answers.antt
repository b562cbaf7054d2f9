use Rattle.std.proofs.Common.{◌∙◌, ap}
use Rattle.std.specs.List.{flat_map}
use Rattle.forms.specs.Escapes.{plain_char}
use Rattle.forms.proofs.SpeltLemmas.{made_more, spelt_all, spelt_more}
use Rattle.forms.proofs.table.cell.shown_text.Goals as goal

pub loop-letter-preserved : goal.loop-letter-preserved
loop-letter-preserved c =
    let held = c.loop-letter.invariant in
    record {
      read = spelt_more _ _ _ _ _ held.read c.in-Some.ensures.steps.0;
      made = made_more plain_char _ _ c.loop-letter.yielded c.in-Some.letter held.made c.in_ok-push_plain.ensures;
    }

pub returns : goal.returns
returns c =
    let held = c.loop-letter.invariant in
    held.made ∙ ap (flat_map plain_char) (spelt_all c.args.text.now c.loop-letter.yielded c.loop-letter.letter-iterator.rest.now c.utf8.text held.read c.in-None.ensures.steps.0.0)
