use Rattle.std.proofs.Common.{◌≡◌, ◌+◌, ◌<◌, Some, arith, length, rules}
use Rattle.std.proofs.lemmas.Bool.Decides.{nat_tests}
use Rattle.cells.specs.Integers.{whole_number_of}
use Rattle.script.proofs.ListingsLemmas.{spelt_is}
use Rattle.script.proofs.listing.part_spelt.Goals as goal

pub returns : goal.returns
returns c =
    let number : whole_number_of c.args.text.now ≡ Some c.in_ok-number.number = search rules in
    let before : c.in_ok-number.number ≡ c.in_ok-place.place + 1 = search rules in
    let inside : c.in_ok-place.place < length c.args.parts.now = grind (arith, nat_tests, c.in_ok-part.ensures.lookup.0) in
    let same = spelt_is (λ v. v.items) c.args.parts.now c.args.text.now c.in_ok-number.number c.in_ok-place.place c.in_ok-part.part.now number before inside c.in_ok-part.ensures.lookup.1 in
    rw c.as_slice.ensures.value same
