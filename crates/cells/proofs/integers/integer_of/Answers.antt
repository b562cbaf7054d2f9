use Rattle.std.proofs.Common.{rules, ◌≢◌, ◌∙◌, slice_index}
use Rattle.cells.proofs.IntegersLemmas.{integer_is, same_answer}
use Rattle.cells.specs.Integers.{integer_of}
use Rattle.cells.proofs.integers.integer_of.Goals as goal

pub returns : goal.returns
returns c =
    let no_plus : slice_index c.args.text.now 0 ≢ 43 = search rules in
    c.ok.ensures.value ∙ same_answer c.parse.result (integer_of c.args.text.now) _ _ c.parse.ensures.value.0 (integer_is c.args.text.now no_plus)
