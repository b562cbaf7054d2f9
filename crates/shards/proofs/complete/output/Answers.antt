use Rattle.std.proofs.Common.{[], ap, arith, length, subst, sym, true, ℕ, ◌==◌, ◌≡◌, ◌∙◌, ◌≤◌}
use Rattle.std.specs.List.{list_any}
use Rattle.std.specs.Prelude.{IfSome}
use Rattle.std.specs.Str.Lines.{lines}
use Rattle.script.specs.Limits.{script_limit}
use Rattle.script.specs.Output.{IsOutput}
use Rattle.script.specs.Told.{AreTold, FitAll}
use Rattle.shards.specs.Answers.{is_among}
use Rattle.shards.specs.Documents.{DocumentValue}
use Rattle.shards.proofs.ToldsLemmas.{all_among, told_in}
use Rattle.shards.proofs.complete.output.Goals as goal

pub returns-in-Ok-Some-clause-output : goal.returns-in-Ok-Some-clause-output
returns-in-Ok-Some-clause-output g c = λ hash shard_of givens manner parts fit answer.
    let is_script = ap (λ (d : DocumentValue). d.script) c.answer.view_is in
    let is_count = ap (λ (d : DocumentValue). d.count) c.answer.view_is in
    let is_numbers = ap (λ (d : DocumentValue). d.numbers) c.answer.view_is in
    let script = c.as_bytes.ensures.value ∙ is_script in
    let all = is_among shard_of c.args.answer.count c.args.answer.numbers in
    let told = told_in shard_of givens c.args.answer c.in-Ok.tolds.items answer (c.in-Ok.ensures ∙ ap (λ (d : DocumentValue). d.lines) c.answer.view_is) in
    let short : length c.as_bytes.result.now ≤ script_limit = omega (arith, c.len.ensures, c.if-len-gt-MAX_SCRIPT_BYTES.false, ap length c.as_bytes.ensures.value) in
    let there : (number : ℕ) → 1 ≤ number → number ≤ c.args.answer.count → list_any (λ n. number == n) c.args.answer.numbers ≡ true =
    λ number least most. subst (λ ns. list_any (λ n. number == n) ns ≡ true) (c.as_slice.ensures.value ∙ is_numbers) (c.in_default.ensures.none number least (omega (arith, most, is_count))) in
    subst (λ s. IsOutput hash givens s c.in-Ok-Some.text.items) script
    (subst (λ o. IfSome o (λ text. IsOutput hash givens c.as_bytes.result.now text.items)) c.in-Ok-Some.field-0-is
    (c.in-Ok-Some.ensures hash givens all manner parts short (subst (λ s. FitAll givens [] (lines s)) (sym script) fit)
    (all_among shard_of c.args.answer.count c.args.answer.numbers answer.each there)
    (subst (λ s. AreTold givens all [] (lines s) c.in-Ok.tolds.items) (sym script) told)))
