use Rattle.std.proofs.Common.{◌∙◌, ◌∷◌, ◌++◌, [], ap, rules, sym}
use Rattle.report.proofs.StartedLemmas.{onlookers, sent_some}
use Rattle.report.proofs.onlookers.Onlookers.send.Goals as goal

pub returns-clause-sent : goal.returns-clause-sent
returns-clause-sent g c =
    c.in_ok-push_going.ensures.pushed ∙ ap (λ x. onlookers (c.args.self.now.going ++ x ∷ []) c.args.self.now.waiting) c.in_ok-going.ensures
    ∙ sym (sent_some c.args.self.now c.args.onlooker (λ none. absurd (search (rules, none))))
