use Rattle.std.proofs.Common.{◌∙◌, rules}
use Rattle.report.proofs.WatchingLemmas.{learnt_of, sees_last}
use Rattle.report.proofs.watching.last_edition.Goals as goal

pub returns-in_err-seen-clause-learnt : goal.returns-in_err-seen-clause-learnt
returns-in_err-seen-clause-learnt g c = learnt_of _ _ _ _ _ c.tell.ensures.told c.learn.ensures c.snapshot.ensures.looks

pub returns-in_err-snapshot-clause-learnt : goal.returns-in_err-snapshot-clause-learnt
returns-in_err-snapshot-clause-learnt g c = learnt_of _ _ _ _ _ c.tell.ensures.told c.learn.ensures c.snapshot.ensures.looks

pub returns-then-edition-clause-learnt : goal.returns-then-edition-clause-learnt
returns-then-edition-clause-learnt g c = learnt_of _ _ _ _ _ c.tell.ensures.told c.learn.ensures c.snapshot.ensures.looks

pub returns-clause-learnt : goal.returns-clause-learnt
returns-clause-learnt g c = learnt_of _ _ _ _ _ c.tell.ensures.told c.learn.ensures c.snapshot.ensures.looks

pub returns-clause-last : goal.returns-clause-last
returns-clause-last g c =
    sees_last c.args.keeper.now c.snapshot.new.self.history c.in_ok-seen.seen (learnt_of _ _ _ _ _ c.tell.ensures.told c.learn.ensures c.snapshot.ensures.looks)
    c.rows_fit.ensures.last c.in_ok-seen.ensures.last (search rules) (c.in_ok-seen.ensures.schema ∙ c.learn.ensures.schema ∙ c.requires.own.schema)
