use Rattle.std.proofs.Common.{◌≡◌, ◌∷◌, ◌∙◌, [], ap, arith, length, string_bytes, sym, true}
use Rattle.std.proofs.lemmas.List.{length-append}
use Rattle.questions.specs.Options.{is_one_of}
use Rattle.prepare.specs.Listed.{words_in}
use Rattle.questions.proofs.NumberingLemmas.{longer, within}
use Rattle.questions.proofs.proposal.free_name.Goals as goal

pub loop-name-smaller : goal.loop-name-smaller
loop-name-smaller c =
    let name = string_bytes c.loop-name.name in
    let had : is_one_of name (words_in c.args.columns.now) ≡ true = ap (λ text. is_one_of text (words_in c.args.columns.now)) (sym c.as_str.ensures.value) ∙ sym c.has_word.ensures ∙ c.loop-name-test.true in
    let fits = within name (words_in c.args.columns.now) had in
    let more = ap length c.in_ok-push_str.ensures.bytes ∙ length-append name (95 ∷ []) in
    omega (arith, fits, more)

pub loop-name-preserved : goal.loop-name-preserved
loop-name-preserved c =
    let name = string_bytes c.loop-name.name in
    let had : is_one_of name (words_in c.args.columns.now) ≡ true = ap (λ text. is_one_of text (words_in c.args.columns.now)) (sym c.as_str.ensures.value) ∙ sym c.has_word.ensures ∙ c.loop-name-test.true in
    longer (words_in c.args.columns.now) name (string_bytes c.push_str.new.self) c.loop-name.invariant had c.in_ok-push_str.ensures.bytes
