use Rattle.std.proofs.Common.{◌∙◌, ap, sym}
use Rattle.std.specs.Prelude.{option_map}
use Rattle.std.specs.Fmt.{signed_decimal}
use Rattle.serde_json.specs.View.{view}
use Rattle.partials.proofs.SumsLemmas.{below_read, text_is}
use Rattle.partials.proofs.sum.sum_of.Goals as goal

pub returns-in-Some-behind_minus : goal.returns-in-Some-behind_minus
returns-in-Some-behind_minus c = λ sum spells.
    let text = text_is (view c.args.value.now) (signed_decimal sum) c.in-Some.text.now c.as_str.result c.in-Some.text spells.0 c.as_str.ensures c.in-Some.is in
    below_read sum c.in-Some.text.now c.in-Some-behind_minus.digits.now c.below_zero.result text spells.1
    (sym c.behind_minus.ensures ∙ ap (option_map (λ s. s.now)) c.in-Some-behind_minus.is) c.below_zero.ensures
