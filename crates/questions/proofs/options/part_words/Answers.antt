use Rattle.std.proofs.Common.{◌∙◌, ap, codes, map, string_bytes, sym}
use Rattle.std.specs.Prelude.{bytes_eq}
use Rattle.questions.specs.Options.{items_of}
use Rattle.questions.proofs.OptionsLemmas.{all_named, more_said, none_left}
use Rattle.questions.proofs.options.part_words.Goals as goal

pub returns-then-eq : goal.returns-then-eq
returns-then-eq c =
    let word = c.as_str.ensures.value in
    all_named (string_bytes c.in-Some.word.now) (map string_bytes c.args.words.now) (map string_bytes c.loop-word.rest.now) (map string_bytes c.in-Some.later.now) (items_of c.loop-word.parted)
    (items_of c.take_names.new.self) c.loop-word.invariant (ap (map string_bytes) c.in-Some.ensures.cases.0) (ap (λ text. bytes_eq text (codes "--")) (sym word) ∙ sym c.eq.ensures ∙ c.if-eq.true) c.in_ok-take_names.ensures

pub loop-word-preserved : goal.loop-word-preserved
loop-word-preserved c =
    let word = c.as_str.ensures.value in
    more_said (string_bytes c.in-Some.word.now) (map string_bytes c.args.words.now) (map string_bytes c.loop-word.rest.now) (map string_bytes c.in-Some.later.now) (items_of c.loop-word.parted)
    (items_of c.take_word.new.self) c.loop-word.invariant (ap (map string_bytes) c.in-Some.ensures.cases.0) (map string_bytes c.in_ok-rest.rest.now)
    (ap (λ text. bytes_eq text (codes "--")) (sym word) ∙ sym c.eq.ensures ∙ c.if-eq.false) (rw c.as_str-in-Some.ensures.value at c.in_ok-rest.ensures.takes)

pub returns : goal.returns
returns c = none_left (map string_bytes c.args.words.now) c.loop-word.rest.now (items_of c.loop-word.parted) c.loop-word.invariant c.in_default.ensures.cases
