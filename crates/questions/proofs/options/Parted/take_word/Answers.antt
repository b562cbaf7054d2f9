use Rattle.std.proofs.Common.{◌∙◌, ap, map, string_bytes, sym}
use Rattle.questions.specs.Options.{item, valued}
use Rattle.questions.proofs.OptionsLemmas.{items_one, items_value}
use Rattle.questions.proofs.options.Parted.take_word.Goals as goal

pub returns-then-takes_value-clause-takes : goal.returns-then-takes_value-clause-takes
returns-then-takes_value-clause-takes c = record {
  it = valued c.args.word.now c.as_str.result.now;
  new_is = c.in_ok-take_value.ensures;
  says = λ other. rw (ap (map string_bytes) c.in-Some.ensures.cases.0, ← c.as_str.ensures.value)
      (items_value c.args.word.now c.as_str.result.now (map string_bytes c.in-Some.rest.now) (sym c.takes_value.ensures ∙ c.if-takes_value.true) other);
}

pub returns-clause-takes : goal.returns-clause-takes
returns-clause-takes c =
    let plain = sym c.takes_value.ensures ∙ c.if-takes_value.false in
    record {
      it = item c.args.word.now;
      new_is = c.in_ok-take_one.ensures plain;
      says = items_one c.args.word.now (map string_bytes c.args.later.now) plain;
    }
