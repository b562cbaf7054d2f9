use Rattle.std.proofs.Common.{rules, ◌≡◌, true, false, take}
use Rattle.std.specs.Prelude.{bytes_eq}
use Rattle.std.specs.List.{list_any}
use Rattle.prepare.proofs.KeysLemmas.{distinct_none}
use Rattle.prepare.proofs.ListedLemmas.{word_again, words_more}
use Rattle.prepare.proofs.listed.first_again.Goals as goal

pub loop-place-init : goal.loop-place-init
loop-place-init c = distinct_none bytes_eq

pub returns-then-has_word-clause-some : goal.returns-then-has_word-clause-some
returns-then-has_word-clause-some c =
    let again : list_any (λ d. bytes_eq c.index-columns-place.result.word d.word) (take c.loop-place.place c.args.columns.now) ≡ true = search rules in
    word_again c.args.columns.now c.loop-place.place c.index-columns-place.result c.loop-place-test.true c.index-columns-place.is c.loop-place.invariant again

pub loop-place-preserved : goal.loop-place-preserved
loop-place-preserved c =
    let new : list_any (λ d. bytes_eq c.index-columns-place.result.word d.word) (take c.loop-place.place c.args.columns.now) ≡ false = search rules in
    words_more c.args.columns.now c.loop-place.place c.index-columns-place.result c.loop-place-test.true c.index-columns-place.is c.loop-place.invariant new
