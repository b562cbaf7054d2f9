use Rattle.std.proofs.Common.{◌<◌, length, subst, sym}
use Rattle.crew.proofs.ListingLemmas.{lent_list}
use Rattle.crew.proofs.listing.Listing.list.Goals as goal

pub of_rows-requires-clause-rows : goal.of_rows-requires-clause-rows
of_rows-requires-clause-rows g c =
    lent_list c.self.inside.columns.now c.self.inside.count c.self.inside.lists.now c.args.place c.index-self-place.result c.as_slice-rows.result.now c.self.invariant.0 c.self.invariant.1
    (subst (λ l. c.args.place < length l.lists) (sym c.self.view_is) c.requires) c.as_slice-rows.ensures.value
