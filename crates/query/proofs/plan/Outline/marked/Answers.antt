use Rattle.std.proofs.Common.{◌≡◌, length, rules}
use Rattle.query.specs.Marking.{with_marks}
use Rattle.query.proofs.MarkingLemmas.{short_marked}
use Rattle.query.proofs.plan.Outline.marked.Goals as goal

pub returns-clause-short : goal.returns-clause-short
returns-clause-short c =
    let made : c.in_ok-items.items.items ≡ with_marks (length c.args.self.headings.items) c.args.self.items.items = search rules in
    short_marked (length c.args.self.headings.items) c.args.self.items.items c.in_ok-items.items.items made c.requires
