use Rattle.std.proofs.Common.{ap, ◌∙◌}
use Rattle.records.specs.Fields.{fields_all, fields_more}
use Rattle.records.proofs.reader.fields.Goals as goal

pub loop-field-preserved : goal.loop-field-preserved
loop-field-preserved c =
    let step = c.in-Some.ensures.steps in
    let held = c.loop-field.invariant in
    record {
      same = ap (λ b. b.now) step.0 ∙ held.same;
      taken = rw (c.in_ok-push.ensures.items, step.2) (fields_more _ _ _ _ held.taken (rw held.same at step.1));
    }

pub returns : goal.returns
returns c =
    let held = c.loop-field.invariant in
    held.taken ∙ fields_all _ _ (rw held.same at c.in-None.ensures.steps.1)
