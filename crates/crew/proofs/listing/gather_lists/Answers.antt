use Rattle.std.proofs.Common.{subst, sym}
use Rattle.crew.specs.Listing.{AreDealt, Listed}
use Rattle.crew.proofs.ListingLemmas.{lists_folded, lists_may_be_joined}
use Rattle.groups.specs.Dealing.{indexes_of}
use Rattle.groups.specs.Groups.{kept}
use Rattle.crew.proofs.listing.gather_lists.Goals as goal

pub joined-requires : goal.joined-requires
joined-requires g c =
    let listed : Listed = record { plan = c.args.plan.now; columns = c.args.columns.now; count = c.args.count; lists = indexes_of c.as_slice.result.now } in
    lists_may_be_joined listed (subst (λ l. AreDealt c.args.count (indexes_of l)) (sym c.as_slice.ensures.value) c.requires.dealt) c.requires.rows c.in_ok-foldings.foldings.items c.in_ok-foldings.ensures.shared

pub returns-clause-folds : goal.returns-clause-folds
returns-clause-folds g c = λ rows held counted.
    let listed : Listed = record { plan = c.args.plan.now; columns = c.args.columns.now; count = c.args.count; lists = indexes_of c.as_slice.result.now } in
    c.in_ok-joined.ensures.folds (kept listed.plan.condition rows)
    (lists_folded listed (subst (λ l. AreDealt c.args.count (indexes_of l)) (sym c.as_slice.ensures.value) c.requires.dealt) rows held counted c.in_ok-foldings.foldings.items c.in_ok-foldings.ensures.shared)
