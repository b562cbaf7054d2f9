use Rattle.std.proofs.Common.{◌≡◌, get_or, rules}
use Rattle.std.specs.Prelude.{Ok, Err}
use Rattle.prepare.specs.Quotes.{kind_of, step}
use Rattle.prepare.proofs.QuotesLemmas.{misquoted_at, stands_more}
use Rattle.prepare.proofs.quotes.first_misquoted.Goals as goal

pub returns-in-Err-clause-some : goal.returns-in-Err-clause-some
returns-in-Err-clause-some c =
    let bad : step c.loop-place.standing (kind_of c.args.delimiter (get_or c.args.text.now c.loop-place.place 0)) c.loop-place.place ≡ Err c.in-Err.fault = search rules in
    misquoted_at c.args.delimiter c.args.text.now c.loop-place.place c.loop-place.standing c.loop-place-test.true c.loop-place.invariant c.in-Err.fault bad

pub loop-place-preserved : goal.loop-place-preserved
loop-place-preserved c =
    let went : step c.loop-place.standing (kind_of c.args.delimiter (get_or c.args.text.now c.loop-place.place 0)) c.loop-place.place ≡ Ok c.in-Ok.next = search rules in
    stands_more c.args.delimiter c.args.text.now c.loop-place.place c.loop-place.standing c.loop-place-test.true c.loop-place.invariant c.in-Ok.next went
