use Rattle.std.proofs.Common.{rules, ◌≢◌, ◌∙◌, slice_index}
use Rattle.cells.proofs.IntegersLemmas.{whole_number_is, same_answer}
use Rattle.cells.specs.Integers.{whole_number_of}
use Rattle.cells.proofs.integers.whole_number_of.Goals as goal

pub returns : goal.returns
returns c =
    let no_plus : slice_index c.args.text.now 0 ≢ 43 = search rules in
    c.ok.ensures.value ∙ same_answer c.parse.result (whole_number_of c.args.text.now) _ _ c.parse.ensures.value.0 (whole_number_is c.args.text.now no_plus)
