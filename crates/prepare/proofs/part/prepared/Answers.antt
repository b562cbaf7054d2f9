use Rattle.std.proofs.Common.{◌≡◌, false, refl, rules}
use Rattle.prepare.specs.Parts.{quotes}
use Rattle.prepare.specs.Quotes.{IsMisquotedFile}
use Rattle.prepare.proofs.part.prepared.Goals as goal

pub returns-in-Some-clause-fault : goal.returns-in-Some-clause-fault
returns-in-Some-clause-fault c =
    let strict : c.args.choice.now.lenient ≡ false = search rules in
    let is : IsMisquotedFile c.args.choice.now.delimiter c.args.bytes.now c.in-Some.fault c.in-Some.line = search rules in
    quotes refl strict is
