use Rattle.std.proofs.Common.{rules}
use Rattle.report.proofs.WatchingLemmas.{shown_itself, shown_last}
use Rattle.report.proofs.onlooking.up_to_now.Goals as goal

pub returns-then-shot-edition-clause-shown : goal.returns-then-shot-edition-clause-shown
returns-then-shot-edition-clause-shown g c =
    shown_last c.shot-then-shot-edition.result c.args.keeper.now c.args.question.now c.args.shot c.in_ok-snapshot.snapshot c.in_ok-snapshot.ensures.ended c.in_ok-snapshot.ensures.last c.shot-then-shot-edition.ensures.edition c.shot-then-shot-edition.ensures.text

pub returns-clause-shown : goal.returns-clause-shown
returns-clause-shown g c =
    shown_itself c.args.keeper.now c.args.question.now c.args.shot c.in_ok-snapshot.snapshot c.args.viewer.now.history c.last_edition.new.viewer.history c.in_ok-snapshot.ensures.ended c.in_ok-snapshot.ensures.last (search rules)
    c.in_ok-snapshot.ensures.seen c.in_ok-snapshot.ensures.learnt c.requires.is
