use Rattle.std.proofs.Common.{◌∙◌, Err, ap, subst, sym, take}
use Rattle.std.proofs.lemmas.Result.{err_from_is_err_and}
use Rattle.cells.specs.Records.{row_of}
use Rattle.cells.specs.Refusals.{Answers}
use Rattle.cells.specs.RowReading.{HasRead}
use Rattle.cells.specs.declared.refused.Refused.TheVariants.{BadRecord}
use Rattle.csv.specs.Records.{fields_of}
use Rattle.records.specs.Fields.{fields_all, next_field}
use Rattle.loader.proofs.FieldsLemmas.{refused_field}
use Rattle.loader.proofs.record.read_row.Goals as goal

pub loop-field-preserved : goal.loop-field-preserved
loop-field-preserved c =
    let step = c.in-Some.ensures.steps in
    let held = c.loop-field.invariant in
    let fs = fields_of c.args.record.now in
    record {
      same = ap (λ b. b.now) step.0 ∙ held.same;
      table = c.in_ok-read.ensures.table ∙ held.table;
      read = rw step.2
          (subst (λ fields. HasRead fields c.read.new.self) (sym (next_field fs _ _ (rw held.same at step.1))) (c.in_ok-read.ensures.read (take c.loop-field.field-iterator.at fs) held.read));
    }

pub returns-in_err-read-clause-exact : goal.returns-in_err-read-clause-exact
returns-in_err-read-clause-exact c =
    let p = err_from_is_err_and c.from_residual-in_err-read.result c.from_residual-in_err-read.ensures.1 in
    let step = c.in-Some.ensures.steps in
    let held = c.loop-field.invariant in
    rw (p.1, p.2)
    (refused_field c.args.schema.now (fields_of c.args.record.now) c.loop-field.field-iterator.at _ c.loop-field.row c.in_err-read.field-0.0 held.table (rw held.same at step.1) held.read
    c.in_err-read.ensures.refused (λ is. c.in_err-read.ensures.bad (ap Err is)))

pub returns-clause-exact : goal.returns-clause-exact
returns-clause-exact c =
    let held = c.loop-field.invariant in
    let fs = fields_of c.args.record.now in
    let all = fields_all fs _ (rw held.same at c.in-None.ensures.steps.1) in
    subst (λ fields. Answers BadRecord (row_of c.args.schema.now fields) c.finish.result) all
    (subst (λ t. Answers BadRecord (row_of t (take c.loop-field.field-iterator.at fs)) c.finish.result) held.table (c.finish.ensures.exact (take c.loop-field.field-iterator.at fs) held.read))
